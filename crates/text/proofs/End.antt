-- The pass that finds the end of a trimmed text: what it keeps, and why its answer is `trim_end`.
use Prim.Native.Nat.{ℕ, zero, suc, ◌+◌, ◌-◌, ◌≤◌, ◌<◌}
use mathlib.Core.Path.{◌≡◌, refl, sym, ap, ◌∙◌}
use mathlib.Core.Bool.{Bool, true, false}
use mathlib.Core.List.{List, [], ◌∷◌}
use mathlib.Core.Option.{none, some}
use native.Mathlib.Omega.{arith}
use lib.Dec.{leb, ltb}
use lib.ListN.{length, take, drop, length-drop, drop_of_length-le}
use lib.Seq.{drop-drop, take_all}
use borrow.Author.Tests.{lt-leb, leb-true, ltb-true, ltb-false}
use Rattle.text.specs.Utf8.{between, is_tail, utf8-1, is_utf8-2, utf8-2, is_utf8-3, utf8-3, is_utf8-4, utf8-4, or_else, decode_one}
use Rattle.text.specs.WhiteSpace.{is_white_space}
use Rattle.text.specs.Blank.{is_blank, trim_start, trim_end, trim}
use Rattle.text.specs.Decodes.{StartsAt, EndsAt}
use Rattle.text.proofs.Bools.{and-true-0, and-true-1}
use Rattle.text.proofs.Bytes.{between-below, second3-below, second4-below}
use Rattle.text.proofs.Shape.{Shape, one, two, three, four, decoded-shape}
use Rattle.text.proofs.Points.{blank-empty, blank_none, blank-some}

-- no code point begins with a tail byte
tail_none : (b : ℕ) (t : List ℕ) → 0x7F < b → b < 0xC2 → decode_one (b ∷ t) ≡ none
unfolding decode_one utf8-1 is_utf8-2 utf8-2 is_utf8-3 utf8-3 is_utf8-4 utf8-4 or_else
tail_none b [] l h = rw (lt-leb b 0x7F l)
tail_none b (c ∷ []) l h = rw (lt-leb b 0x7F l, between-below 0xC2 0xDF b h)
tail_none b (c ∷ d ∷ []) l h =
    rw (lt-leb b 0x7F l, between-below 0xC2 0xDF b h, second3-below b c (omega arith))
tail_none b (c ∷ d ∷ e ∷ t) l h =
    rw
    (lt-leb b 0x7F l, between-below 0xC2 0xDF b h, second3-below b c (omega arith), second4-below b c (omega arith))

pub tail-solid : (b : ℕ) (t : List ℕ) → is_tail b ≡ true → is_blank (b ∷ t) ≡ false
unfolding is_tail between
tail-solid b t e =
    let h = leb-true b 0xBF (and-true-1 (leb 0x80 b) _ e) in
    let l = leb-true 0x80 b (and-true-0 (leb 0x80 b) _ e) in
    blank_none (b ∷ t) (omega arith) (tail_none b t l (omega arith))

-- after the first of a code point's bytes no text is blank
inside-solid : {u t : List ℕ} {w : ℕ} → Shape u w t → (j : ℕ) → 0 < j → j + length t < length u → is_blank (drop j u) ≡ false
inside-solid s zero p h = absurd (omega arith)
inside-solid (one f) (suc j) p h = absurd (omega arith)
inside-solid (two {b = b} {t = t} f q) (suc zero) p h = tail-solid b t q
inside-solid (two f q) (suc (suc j)) p h = absurd (omega arith)
inside-solid (three {b = b} {c = c} {t = t} f q r) (suc zero) p h = tail-solid b (c ∷ t) q
inside-solid (three {b = b} {c = c} {t = t} f q r) (suc (suc zero)) p h = tail-solid c t r
inside-solid (three f q r) (suc (suc (suc j))) p h = absurd (omega arith)
inside-solid (four {b = b} {c = c} {d = d} {t = t} f q r v) (suc zero) p h = tail-solid b (c ∷ d ∷ t) q
inside-solid (four {b = b} {c = c} {d = d} {t = t} f q r v) (suc (suc zero)) p h = tail-solid c (d ∷ t) r
inside-solid (four {b = b} {c = c} {d = d} {t = t} f q r v) (suc (suc (suc zero))) p h = tail-solid d t v
inside-solid (four f q r v) (suc (suc (suc (suc j)))) p h = absurd (omega arith)

-- what is kept: no text from before the end on is blank, and what lies between the end and the place is White_Space
pub record Passed (s : List ℕ) (at end : ℕ) : Type 0 where
  pub behind : end ≤ at
  pub within : at ≤ length s
  pub solid : (k : ℕ) → k < end → is_blank (drop k s) ≡ false
  pub soft : (k : ℕ) → end ≤ k → k < at → is_blank (drop at s) ≡ false → is_blank (drop k s) ≡ false
  pub blank : is_blank (drop at s) ≡ true → is_blank (drop end s) ≡ true

pub passed_none : (s : List ℕ) → Passed s 0 0
passed_none s =
    record {
      behind = omega arith;
      within = omega arith;
      solid = λ k h. absurd (omega arith);
      soft = λ k l h. absurd (omega arith);
      blank = λ e. e;
    }

module _ (s : List ℕ) (at : ℕ) where
  inside
      : (next : ℕ) {c : ℕ}
      → decode_one (drop at s) ≡ some (c, drop next s)
      → next ≤ length s
      → (k : ℕ)
      → at < k
      → k < next
      → is_blank (drop k s) ≡ false
  inside next {c} e h k l m =
      let i : at + (k - at) ≡ k = omega arith in
      let d : drop k s ≡ drop (k - at) (drop at s) = rw (drop-drop, i) in
      rw d
      (inside-solid (decoded-shape (drop at s) (c, drop next s) e) (k - at) (omega arith)
      (omega (arith, length-drop at s, length-drop next s)))

  -- every place below `next`, by where it lies
  below
      : (next : ℕ) {end : ℕ}
      → Passed s at end
      → is_blank (drop at s) ≡ false
      → ((k : ℕ) → at < k → k < next → is_blank (drop k s) ≡ false)
      → (k : ℕ)
      → k < next
      → is_blank (drop k s) ≡ false
  below next {end} p f inner k h = go (ltb k end) refl (ltb k at) refl (ltb at k) refl
    where
      go
          : (x : Bool)
          → ltb k end ≡ x
          → (y : Bool)
          → ltb k at ≡ y
          → (z : Bool)
          → ltb at k ≡ z
          → is_blank (drop k s) ≡ false
      go true a y b z c = p.solid k (ltb-true k end a)
      go false a true b z c = p.soft k (ltb-false k end a) (ltb-true k at b) f
      go false a false b true c = inner k (ltb-true at k c) h
      go false a false b false c =
          let i = ltb-false k at b in
          let j = ltb-false at k c in
          let e : k ≡ at = omega arith in
          rw e f

  module _ (end : ℕ) (p : Passed s at end) where
    passed-solid
        : (next : ℕ)
        → next ≤ length s
        → is_blank (drop at s) ≡ false
        → ((k : ℕ) → at < k → k < next → is_blank (drop k s) ≡ false)
        → Passed s next next
    passed-solid next h f inner =
        record {
          behind = omega arith;
          within = h;
          solid = below next p f inner;
          soft = λ k l m. absurd (omega arith);
          blank = λ e. e;
        }

    pub passed-other
        : (next : ℕ) {c : ℕ} {w : Bool}
        → decode_one (drop at s) ≡ some (c, drop next s)
        → next ≤ length s
        → w ≡ is_white_space c
        → w ≡ false
        → Passed s next next
    passed-other next e h q f =
        passed-solid next h (blank-some (drop at s) e ∙ rw (sym q ∙ f)) (inside next e h)

    pub passed-refused : at < length s → decode_one (drop at s) ≡ none → Passed s (at + 1) (at + 1)
    passed-refused h e =
        let m : 0 < length (drop at s) = rw length-drop (omega arith) in
        passed-solid (at + 1) (omega arith) (blank_none (drop at s) m e) (λ k l n. absurd (omega arith))

    pub passed-white
        : (next : ℕ) {c : ℕ} {w : Bool}
        → decode_one (drop at s) ≡ some (c, drop next s)
        → at < next
        → next ≤ length s
        → w ≡ is_white_space c
        → w ≡ true
        → Passed s next end
    passed-white next e l h q t =
        let same : is_blank (drop at s) ≡ is_blank (drop next s) = blank-some (drop at s) e ∙ rw (sym q ∙ t) in
        let b = p.behind in
        record {
          behind = omega arith;
          within = h;
          solid = p.solid;
          soft = λ k i m f. below next p (same ∙ f) (inside next e h) k m;
          blank = λ f. p.blank (same ∙ f);
        }

-- what is solid stays
kept
    : (n : ℕ) (s : List ℕ)
    → n ≤ length s
    → ((k : ℕ) → k < n → is_blank (drop k s) ≡ false)
    → is_blank (drop n s) ≡ true
    → take n s ≡ trim_end s
unfolding trim_end
kept zero [] h f b = refl
kept zero (a ∷ t) h f b = rw b
kept (suc n) [] h f b = absurd (omega arith)
kept (suc n) (a ∷ t) h f b =
    let z : is_blank (a ∷ t) ≡ false = f 0 (omega arith) in
    rw z (ap (λ (l : List ℕ). a ∷ l) (kept n t (omega arith) (λ k l. f (suc k) (omega arith)) b))

pub passed-all : (s : List ℕ) (at end : ℕ) → Passed s at end → length s ≤ at → take end s ≡ trim_end s
passed-all s at end p h =
    let e : is_blank (drop at s) ≡ true = rw (drop_of_length-le s h) blank-empty in
    let b = p.behind in
    let w = p.within in
    kept end s (omega arith) p.solid (p.blank e)

-- the part from the start on, up to the end that was found in it
pub part-trimmed
    : (s : List ℕ) (start end : ℕ)
    → StartsAt s start
    → EndsAt (take (length s - start) (drop start s)) end
    → take end (take (length s - start) (drop start s)) ≡ trim s
unfolding trim
part-trimmed s start end p q =
    let whole : take (length s - start) (drop start s) ≡ trim_start s =
    take_all (length s - start) (drop start s) (rw length-drop (omega arith)) ∙ p.rest in
    q.front ∙ ap trim_end whole
