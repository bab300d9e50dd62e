-- Laws of a string's text that is laid char by char: what is laid, and what is left to be read, make the text.
use Prim.Native.Nat.{ℕ, zero, suc, ◌+◌, ◌-◌, ◌/◌, ◌%◌, ◌<◌, ◌≤◌}
use mathlib.Core.Bool.{Bool, true, false}
use mathlib.Core.List.{List, [], ◌∷◌, ◌++◌, append_assoc, append-nil}
use mathlib.Core.Option.{Option, none, some, none-ne-some, some-injective}
use mathlib.Core.Path.{◌≡◌, refl, sym, ap, subst, ◌∙◌}
use native.Mathlib.Omega.{arith}
use native.Mathlib.Numerals.{add-one}
use lib.ListN.{length, take, drop, get_or, drop_of_length-le, length-drop}
use lib.Seq.{drop-cons, take-suc, get_or-drop}
use borrow.Author.Tests.{le-leb, lt-leb}
use Rattle.text.proofs.Below.{reached}
use Rattle.text.specs.Reader.{and_then, pure}
use Rattle.text.specs.ReadAt.{ReadsTo, Refuses}
use Rattle.buffer.specs.Laid.{Laid, most_place}
use Rattle.buffer.specs.LaidLaws.{laid-nothing, laid_then}
use Rattle.json_text.specs.Encode.{utf8_of}
use Rattle.json_text.proofs.EncodeLaws.{one_of}
use Rattle.json_text.specs.StringAt.{PlainByte, PlainTo}
use Rattle.json_text.specs.Strings.{char, chars_in, string}
use Rattle.json_text.specs.Places.{PointRead}
use Rattle.json_text.specs.Unescaped.{LaysText}
use Rattle.json_text.proofs.Scanning.{plain-char, chars-more, chars-bad, chars-out, chars-end}

-- A code point

pub laid-1 : (c : ℕ) {before after : List ℕ} {o next : ℕ} → c ≤ 0x7F → Laid before after o (c ∷ []) next → Laid before after o (utf8_of c) next
unfolding utf8_of
laid-1 c h w = rw (le-leb c 0x7F h) w

pub laid-2 : (c : ℕ) {before one after : List ℕ} {o p next : ℕ} → length before ≤ most_place → 0x7F < c → c ≤ 0x7FF
    → Laid before one o ((0xC0 + c / 64) ∷ []) p
    → Laid one after p ((0x80 + c % 64) ∷ []) next
    → Laid before after o (utf8_of c) next
unfolding utf8_of
laid-2 c room l h a b = rw (lt-leb c 0x7F l, le-leb c 0x7FF h) (laid_then room a b)

pub laid-3 : (c : ℕ) {before one two after : List ℕ} {o p q next : ℕ} → length before ≤ most_place → 0x7FF < c → c ≤ 0xFFFF
    → Laid before one o ((0xE0 + c / 4096) ∷ []) p
    → Laid one two p ((0x80 + c / 64 % 64) ∷ []) q
    → Laid two after q ((0x80 + c % 64) ∷ []) next
    → Laid before after o (utf8_of c) next
unfolding utf8_of
laid-3 c room l h a b d = rw (lt-leb c 0x7F (omega arith), lt-leb c 0x7FF l, le-leb c 0xFFFF h) (laid_then room (laid_then room a b) d)

pub laid-4 : (c : ℕ) {before one two three after : List ℕ} {o p q r next : ℕ} → length before ≤ most_place → 0xFFFF < c
    → Laid before one o ((0xF0 + c / 262144) ∷ []) p
    → Laid one two p ((0x80 + c / 4096 % 64) ∷ []) q
    → Laid two three q ((0x80 + c / 64 % 64) ∷ []) r
    → Laid three after r ((0x80 + c % 64) ∷ []) next
    → Laid before after o (utf8_of c) next
unfolding utf8_of
laid-4 c room l a b d e =
    rw (lt-leb c 0x7F (omega arith), lt-leb c 0x7FF (omega arith), lt-leb c 0xFFFF l) (laid_then room (laid_then room (laid_then room a b) d) e)

-- The chars of a text

chars-zero : (l : List ℕ) → chars_in 0 l ≡ none
unfolding chars_in
chars-zero l = refl

pub record Remains (s : List ℕ) (before now : List ℕ) (o i e : ℕ) (text : List ℕ) : Type 0 where
  pub turns : ℕ
  pub done : List ℕ
  pub rest : List ℕ
  pub behind : List ℕ
  pub reads : chars_in turns (drop i s) ≡ some (rest, behind)
  pub whole : text ≡ done ++ rest
  pub lies : Laid before now o done e

pub record Laying (s : List ℕ) (at : ℕ) (before now : List ℕ) (o i e : ℕ) : Type 0 where
  pub within : i ≤ length s
  pub len : length now ≡ length before
  pub left : (text : List ℕ) (next : ℕ) → ReadsTo string s at text next → Remains s before now o i e text

pub laying-start : (s : List ℕ) (at : ℕ) (before : List ℕ) (o : ℕ) → at ≤ length s → o ≤ most_place → Laying s at before before o at o
unfolding string
laying-start s at before o h room =
    record {
      within = h;
      len = refl;
      left =
          λ text next r.
          record {
            turns = length (drop at s);
            done = [];
            rest = text;
            behind = drop next s;
            reads = r.reads;
            whole = refl;
            lies = laid-nothing before o room;
          };
    }

end_rest : (n b : ℕ) (l : List ℕ) {rest behind : List ℕ} → b ≡ 0x22 → chars_in n (b ∷ l) ≡ some (rest, behind) → rest ≡ []
end_rest zero b l q e = absurd (none-ne-some _ (sym (chars-zero (b ∷ l)) ∙ e))
end_rest (suc n) b l {rest} {behind} q e =
    ap (λ (r : List ℕ × List ℕ). r.0) (sym (some-injective ([], l) (rest, behind) (sym (chars-end n b l q) ∙ e)))

module _ {C : Type 0} where
  more-rest : (n b : ℕ) (l : List ℕ) {c : ℕ} {m rest behind : List ℕ} → (b ≡ 0x22 → ⊥) → char (b ∷ l) ≡ some (c, m) → chars_in n (b ∷ l) ≡ some (rest, behind)
      → ((n : ℕ) (t : List ℕ) → chars_in n m ≡ some (t, behind) → rest ≡ utf8_of c ++ t → C) → C
  unfolding and_then pure
  more-rest zero b l q f e k = absurd (none-ne-some _ (sym (chars-zero (b ∷ l)) ∙ e))
  more-rest (suc n) b l {c} {m} {rest} {behind} q f e k = go (chars_in n m) refl (sym (chars-more n b l q f) ∙ e)
    where
      go : (x : Option (List ℕ × List ℕ)) → chars_in n m ≡ x → and_then x (λ t. pure (utf8_of c ++ t)) ≡ some (rest, behind) → C
      go none y z = absurd (none-ne-some _ z)
      go (some r) y z =
          let both = some-injective (utf8_of c ++ r.0, r.1) (rest, behind) z in
          let same : r.1 ≡ behind = ap (λ (p : List ℕ × List ℕ). p.1) both in
          k n r.0 (y ∙ ap (λ (b : List ℕ). some (r.0, b)) same) (ap (λ (p : List ℕ × List ℕ). p.0) (sym both))

module _ (s : List ℕ) (at : ℕ) (before now : List ℕ) (o i e : ℕ) (k : Laying s at before now o i e) where
  pub laying-out : length s ≤ i → LaysText s at before now o e
  laying-out h =
      record {
        len = k.len;
        lies =
            λ text next r.
            let m = k.left text next r in
            absurd (none-ne-some _ (sym (ap (λ (l : List ℕ). chars_in m.turns l) (drop_of_length-le s h) ∙ chars-out m.turns) ∙ m.reads));
      }

  module _ (h : i < length s) where
    here : (turns : ℕ) {rest behind : List ℕ} → chars_in turns (drop i s) ≡ some (rest, behind) → chars_in turns (get_or s i 0 ∷ drop (suc i) s) ≡ some (rest, behind)
    here turns r = ap (λ (l : List ℕ). chars_in turns l) (sym (drop-cons s i 0 h)) ∙ r

    pub laying-end : get_or s i 0 ≡ 0x22 → LaysText s at before now o e
    laying-end q =
        record {
          len = k.len;
          lies =
              λ text next r.
              let m = k.left text next r in
              let last : m.rest ≡ [] = end_rest m.turns (get_or s i 0) (drop (suc i) s) q (here m.turns m.reads) in
              let all : text ≡ m.done = m.whole ∙ ap (λ (l : List ℕ). m.done ++ l) last ∙ append-nil m.done in
              subst (λ (l : List ℕ). Laid before now o l e) (sym all) m.lies;
        }

    module _ (q : get_or s i 0 ≡ 0x22 → ⊥) where
      pub laying-bad : Refuses char s i → LaysText s at before now o e
      laying-bad none-there =
          record {
            len = k.len;
            lies =
                λ text next r.
                let m = k.left text next r in
                let none_first : char (get_or s i 0 ∷ drop (suc i) s) ≡ none = rw (drop-cons s i 0 h) at none-there in
                absurd (none-ne-some _ (sym (chars-bad m.turns (get_or s i 0) (drop (suc i) s) q none_first) ∙ here m.turns m.reads));
          }

      pub laying-turn : {most c next end : ℕ} {after : List ℕ} → length before ≤ most_place → PointRead char most s i c next → Laid now after e (utf8_of c) end
          → Laying s at before after o next end
      laying-turn {c = c} {next = next} {end = end} {after = after} room p w =
          record {
            within = p.read.within;
            len = w.len ∙ k.len;
            left =
                λ text stop r.
                let m = k.left text stop r in
                let first : char (get_or s i 0 ∷ drop (suc i) s) ≡ some (c, drop next s) = rw (drop-cons s i 0 h) at p.read.reads in
                more-rest m.turns (get_or s i 0) (drop (suc i) s) q first (here m.turns m.reads)
                (λ n rest f g.
                record {
                  turns = n;
                  done = m.done ++ utf8_of c;
                  rest = rest;
                  behind = m.behind;
                  reads = f;
                  whole = m.whole ∙ ap (λ (l : List ℕ). m.done ++ l) g ∙ sym (append_assoc m.done (utf8_of c) rest);
                  lies = laid_then room m.lies w;
                });
          }

-- Plain bytes: after so many of them, these are done, and the rest is left

record Ran (s : List ℕ) (i m : ℕ) (done behind text : List ℕ) : Type 0 where
  pub turns : ℕ
  pub rest : List ℕ
  pub reads : chars_in turns (drop (i + m) s) ≡ some (rest, behind)
  pub whole : text ≡ (done ++ take m (drop i s)) ++ rest

module _ (s : List ℕ) (i : ℕ) (done behind text : List ℕ) where
  ran-byte : (m : ℕ) → i + m < length s → PlainByte (get_or s (i + m) 0) → Ran s i m done behind text → Ran s i (m + 1) done behind text
  ran-byte m h b k =
      let byte = get_or s (i + m) 0 in
      let first : char (byte ∷ drop (suc (i + m)) s) ≡ some (byte, drop (i + m + 1) s) = rw (drop-cons s (i + m) 0 h) at (plain-char s (i + m) h b).read.reads in
      let here : chars_in k.turns (byte ∷ drop (suc (i + m)) s) ≡ some (k.rest, behind) = rw (drop-cons s (i + m) 0 h) at k.reads in
      let place : i + m + 1 ≡ i + (m + 1) = omega arith in
      let inside : m < length (drop i s) = omega (arith, length-drop i s) in
      let one_more : take (m + 1) (drop i s) ≡ take m (drop i s) ++ (byte ∷ []) =
      ap (λ (n : ℕ). take n (drop i s)) (add-one m) ∙ take-suc (drop i s) m 0 inside ∙ ap (λ (c : ℕ). take m (drop i s) ++ (c ∷ [])) (get_or-drop i s m 0) in
      more-rest k.turns byte (drop (suc (i + m)) s) b.quotation first here
      (λ n rest f g.
      record {
        turns = n;
        rest = rest;
        reads = subst (λ (at : ℕ). chars_in n (drop at s) ≡ some (rest, behind)) place f;
        whole =
            k.whole
            ∙ ap (λ (l : List ℕ). (done ++ take m (drop i s)) ++ l) (g ∙ ap (λ (l : List ℕ). l ++ rest) (one_of byte b.low))
            ∙ sym (append_assoc (done ++ take m (drop i s)) (byte ∷ []) rest)
            ∙ ap (λ (l : List ℕ). l ++ rest) (append_assoc done (take m (drop i s)) (byte ∷ []) ∙ ap (λ (l : List ℕ). done ++ l) (sym one_more));
      })

  ran-all : (n : ℕ) → i + n ≤ length s → PlainTo s i (i + n) → Ran s i 0 done behind text → Ran s i n done behind text
  ran-all n h p start =
      reached (λ m. Ran s i m done behind text) n start (λ m below k. ran-byte m (omega arith) (p.plain (i + m) (omega arith) (omega arith)) k)

module _ (s : List ℕ) (at : ℕ) (before now : List ℕ) (o i e : ℕ) where
  pub laying-plain : {next end : ℕ} {after : List ℕ} → length before ≤ most_place → Laying s at before now o i e → PlainTo s i next → Laid now after e (take (next - i) (drop i s)) end
      → Laying s at before after o next end
  laying-plain {next} {end} {after} room k p w =
      let place : i + (next - i) ≡ next = omega (arith, p.forward) in
      record {
        within = p.within;
        len = w.len ∙ k.len;
        left =
            λ text stop r.
            let m = k.left text stop r in
            let none_yet : i + 0 ≡ i = omega arith in
            let ran =
            ran-all s i m.done m.behind text (next - i) (omega (arith, p.within)) (subst (λ (n : ℕ). PlainTo s i n) (sym place) p)
            (record {
              turns = m.turns;
              rest = m.rest;
              reads = subst (λ (n : ℕ). chars_in m.turns (drop n s) ≡ some (m.rest, m.behind)) (sym none_yet) m.reads;
              whole = m.whole ∙ ap (λ (l : List ℕ). l ++ m.rest) (sym (append-nil m.done));
            })
            in
            record {
              turns = ran.turns;
              done = m.done ++ take (next - i) (drop i s);
              rest = ran.rest;
              behind = m.behind;
              reads = subst (λ (n : ℕ). chars_in ran.turns (drop n s) ≡ some (ran.rest, m.behind)) place ran.reads;
              whole = ran.whole;
              lies = laid_then room m.lies w;
            };
      }
