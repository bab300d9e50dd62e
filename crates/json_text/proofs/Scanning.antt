-- Laws of a string that is read char by char: what was read, and what the rest is, make the whole.
use Prim.Native.Nat.{ℕ, zero, suc, ◌+◌, ◌-◌, ◌<◌, ◌≤◌}
use mathlib.Core.Bool.{Bool, true, false, not, ◌&&◌, and-eq-true_iff}
use mathlib.Core.List.{List, [], ◌∷◌, ◌++◌, append_assoc}
use mathlib.Core.Option.{Option, none, some}
use mathlib.Core.Path.{◌≡◌, refl, sym, ap, subst, ◌∙◌}
use native.Mathlib.Omega.{arith}
use native.Mathlib.Numerals.{add-one}
use lib.ListN.{length, drop, get_or, drop_of_length-le, length-append, length-drop}
use lib.Seq.{drop-cons}
use lib.Dec.{leb, eqb}
use borrow.Author.Tests.{eq-eqb, ne_eqb, eqb-true, eqb-false, leb-true, not-true}
use Rattle.text.proofs.Below.{below_more, reached}
use Rattle.text.proofs.Decode.{one_byte}
use Rattle.text.specs.Reader.{Reader, ◌>>=◌, and_then, pure}
use Rattle.text.specs.CaseLaws.{by-test}
use Rattle.text.specs.ReadAt.{ReadsTo, Refuses}
use Rattle.json_text.specs.Encode.{utf8_of}
use Rattle.json_text.proofs.EncodeLaws.{size-1}
use Rattle.json_text.specs.Strings.{char, char_then, chars_in, string}
use Rattle.json_text.proofs.EscapedLaws.{char-plain, is-unescaped}
use Rattle.json_text.specs.Places.{PointRead}
use Rattle.json_text.specs.StringAt.{PlainByte, PlainAt, PlainTo, StringAt}

-- A byte is plain

pub is_plain : (b : ℕ) → (((leb 0x20 b && leb b 0x7F) && not (eqb b 0x22)) && not (eqb b 0x5C)) ≡ true → PlainByte b
is_plain b e =
    let (three, last) = (and-eq-true_iff ((leb 0x20 b && leb b 0x7F) && not (eqb b 0x22)) (not (eqb b 0x5C))).0 e in
    let (both, third) = (and-eq-true_iff (leb 0x20 b && leb b 0x7F) (not (eqb b 0x22))).0 three in
    let (first, second) = (and-eq-true_iff (leb 0x20 b) (leb b 0x7F)).0 both in
    record {
      control = leb-true 0x20 b first;
      low = leb-true b 0x7F second;
      quotation = eqb-false b 0x22 (not-true (eqb b 0x22) third);
      backslash = eqb-false b 0x5C (not-true (eqb b 0x5C) last);
    }

pub plain-one : (s : List ℕ) (i : ℕ) → PlainByte (get_or s i 0) → PlainAt s i 1
plain-one s i b k h = let e : i + k ≡ i = omega arith in rw e b

-- two pieces side by side
pub plain-both : (s : List ℕ) (i m n : ℕ) {a b : Bool} → (a ≡ true → PlainAt s i m) → (b ≡ true → PlainAt s (i + m) n) → (a && b) ≡ true → PlainAt s i (m + n)
plain-both s i m n {a} {b} low high e =
    let (first, second) = (and-eq-true_iff a b).0 e in
    below_more (λ k. PlainByte (get_or s (i + k) 0)) m n (low first)
    (λ k h. let e : i + m + k ≡ i + (m + k) = omega arith in rw e at (high second k h))

pub plain-none : (s : List ℕ) (at : ℕ) → at ≤ length s → PlainTo s at at
plain-none s at h = record { forward = omega arith; within = h; plain = λ k l m. absurd (omega arith) }

pub plain_more : (s : List ℕ) (at i : ℕ) → PlainTo s at i → i < length s → PlainByte (get_or s i 0) → PlainTo s at (i + 1)
plain_more s at i p h b =
    record {
      forward = omega (arith, p.forward);
      within = omega arith;
      plain =
          λ k l m.
          by-test (eqb k i) (λ e. subst (λ (n : ℕ). PlainByte (get_or s n 0)) (sym (eqb-true k i e)) b)
          (λ e. let other = eqb-false k i e in p.plain k l (omega arith));
    }

-- a piece more
pub plain-piece : (s : List ℕ) (at i n : ℕ) → PlainTo s at i → i + n ≤ length s → PlainAt s i n → PlainTo s at (i + n)
plain-piece s at i n p h b =
    record {
      forward = omega (arith, p.forward);
      within = h;
      plain =
          λ k l m.
          below_more (λ j. at ≤ j → PlainByte (get_or s j 0)) i n (λ j below from. p.plain j from below) (λ j below from. b j below) k m l;
    }

-- What was read, and what is left

pub record Scanned (s : List ℕ) (at i len : ℕ) : Type 0 where
  pub turns : ℕ
  pub text : List ℕ
  pub whole : string (drop at s) ≡ and_then (chars_in turns (drop i s)) (λ t. pure (text ++ t))
  pub enough : length s ≤ i + turns
  pub size : length text ≡ len
  pub short : at + len ≤ i
  pub within : i ≤ length s

then-nothing : (o : Option (List ℕ × List ℕ)) → o ≡ and_then o (λ t. pure ([] ++ t))
unfolding and_then pure
then-nothing none = refl
then-nothing (some r) = refl

then-then : (u v : List ℕ) (o : Option (List ℕ × List ℕ))
    → and_then (and_then o (λ t. pure (v ++ t))) (λ t. pure (u ++ t)) ≡ and_then o (λ t. pure ((u ++ v) ++ t))
unfolding and_then pure
then-then u v none = refl
then-then u v (some r) = ap (λ (t : List ℕ). some (t, r.1)) (sym (append_assoc u v r.0))

pub scanned-start : (s : List ℕ) (at : ℕ) → at ≤ length s → Scanned s at at 0
unfolding string
scanned-start s at h =
    record {
      turns = length (drop at s);
      text = [];
      whole = then-nothing (chars_in (length (drop at s)) (drop at s));
      enough = omega (arith, length-drop at s);
      size = refl;
      short = omega arith;
      within = h;
    }

-- one char more
pub chars-more : (n b : ℕ) (l : List ℕ) {c : ℕ} {m : List ℕ} → (b ≡ 0x22 → ⊥) → char (b ∷ l) ≡ some (c, m)
    → chars_in (suc n) (b ∷ l) ≡ and_then (chars_in n m) (λ t. pure (utf8_of c ++ t))
unfolding chars_in char_then ◌>>=◌ and_then
chars-more n b l q e = rw (ne_eqb b 0x22 q, e)

pub chars-bad : (n b : ℕ) (l : List ℕ) → (b ≡ 0x22 → ⊥) → char (b ∷ l) ≡ none → chars_in n (b ∷ l) ≡ none
unfolding chars_in char_then ◌>>=◌ and_then
chars-bad zero b l q e = refl
chars-bad (suc n) b l q e = rw (ne_eqb b 0x22 q, e)

pub chars-out : (n : ℕ) → chars_in n [] ≡ none
unfolding chars_in
chars-out zero = refl
chars-out (suc n) = refl

pub chars-end : (n b : ℕ) (l : List ℕ) → b ≡ 0x22 → chars_in (suc n) (b ∷ l) ≡ some ([], l)
unfolding chars_in
chars-end n b l e = rw (eq-eqb b 0x22 e)

module _ (s : List ℕ) (at i len : ℕ) (k : Scanned s at i len) where
  pub scanned-out : length s ≤ i → Refuses string s at
  unfolding and_then
  scanned-out h = k.whole ∙ rw (drop_of_length-le s h, chars-out k.turns)

  module _ (h : i < length s) where
    -- there is a turn left
    left : {C : Type 0} → ((n : ℕ) → k.turns ≡ suc n → C) → C
    left {C} f = go k.turns refl k.enough
      where
        go : (n : ℕ) → k.turns ≡ n → length s ≤ i + n → C
        go zero e l = absurd (omega arith)
        go (suc n) e l = f n e

    pub scanned-end : get_or s i 0 ≡ 0x22 → StringAt s at len (i + 1)
    unfolding and_then pure
    scanned-end q =
        left
        (λ n e.
        record {
          text = k.text ++ [];
          read =
              record {
                reads = k.whole ∙ rw (e, add-one, drop-cons s i 0 h, chars-end n (get_or s i 0) (drop (suc i) s) q);
                past = omega (arith, k.short);
                within = omega arith;
              };
          size = omega (arith, length-append k.text [], k.size);
        })

    module _ (q : get_or s i 0 ≡ 0x22 → ⊥) where
      pub scanned-bad : Refuses char s i → Refuses string s at
      unfolding and_then
      scanned-bad r =
          let here : char (get_or s i 0 ∷ drop (suc i) s) ≡ none = rw (drop-cons s i 0 h) at r in
          k.whole ∙ rw (drop-cons s i 0 h, chars-bad k.turns (get_or s i 0) (drop (suc i) s) q here)

      pub scanned-char : {most c next : ℕ} → PointRead char most s i c next → Scanned s at next (len + length (utf8_of c))
      scanned-char {c = c} {next = next} r =
          left
          (λ n e.
          let here : char (get_or s i 0 ∷ drop (suc i) s) ≡ some (c, drop next s) = rw (drop-cons s i 0 h) at r.read.reads in
          record {
            turns = n;
            text = k.text ++ utf8_of c;
            whole =
                k.whole
                ∙ rw (e, drop-cons s i 0 h, chars-more n (get_or s i 0) (drop (suc i) s) q here)
                (then-then k.text (utf8_of c) (chars_in n (drop next s)));
            enough = omega (arith, k.enough, r.read.past, e);
            size = omega (arith, length-append k.text (utf8_of c), k.size);
            short = omega (arith, k.short, r.size);
            within = r.read.within;
          })

-- a plain byte is a char
pub plain-char : (s : List ℕ) (i : ℕ) → i < length s → PlainByte (get_or s i 0) → PointRead char 0x7F s i (get_or s i 0) (i + 1)
plain-char s i h b =
    let decodes = one_byte s i h b.low refl in
    let here = rw (drop-cons s i 0 h) at decodes in
    let size = size-1 (get_or s i 0) b.low in
    record {
      read =
          record {
            reads =
                rw (drop-cons s i 0 h)
                (char-plain (get_or s i 0) (drop (suc i) s) (ne_eqb (get_or s i 0) 0x5C b.backslash) here
                (is-unescaped (get_or s i 0) b.control b.quotation b.backslash));
            past = omega arith;
            within = omega arith;
          };
      within = b.low;
      size = omega arith;
    }

plain_step : (s : List ℕ) (at i len : ℕ) → Scanned s at i len → i < length s → PlainByte (get_or s i 0) → Scanned s at (i + 1) (len + 1)
plain_step s at i len k h b =
    let size : length (utf8_of (get_or s i 0)) ≡ 1 = sym (size-1 (get_or s i 0) b.low) in
    rw size at (scanned-char s at i len k h b.quotation (plain-char s i h b))

-- and so are all of them
pub scanned-plain : (s : List ℕ) (at i len next : ℕ) → Scanned s at i len → PlainTo s i next → Scanned s at next (len + (next - i))
scanned-plain s at i len next k p =
    let start : i + 0 ≡ i = omega arith in
    let none_more : len + 0 ≡ len = omega arith in
    let end : i + (next - i) ≡ next = omega (arith, p.forward) in
    rw end at
    (reached (λ m. Scanned s at (i + m) (len + m)) (next - i) (rw (start, none_more) k)
    (λ m below more.
    let place : i + m + 1 ≡ i + (m + 1) = omega arith in
    let size : len + m + 1 ≡ len + (m + 1) = omega arith in
    rw (place, size) at
    (plain_step s at (i + m) (len + m) more (omega (arith, p.within)) (p.plain (i + m) (omega arith) (omega arith)))))

pub scanned-first : (s : List ℕ) (at i : ℕ) → at ≤ length s → PlainTo s at i → Scanned s at i (i - at)
scanned-first s at i h p = let e : 0 + (i - at) ≡ i - at = omega arith in rw e at (scanned-plain s at at 0 i (scanned-start s at h) p)

-- a whole turn of the loop
pub scanned-turn : (s : List ℕ) (at i len : ℕ) (k : Scanned s at i len) → i < length s → (get_or s i 0 ≡ 0x22 → ⊥)
    → {most c next size end : ℕ} → PointRead char most s i c next → size ≡ length (utf8_of c) → PlainTo s next end → Scanned s at end (len + size + (end - next))
scanned-turn s at i len k h q {next = next} {size = size} {end = end} r e p =
    rw (← e) at (scanned-plain s at next _ end (scanned-char s at i len k h q r) p)
