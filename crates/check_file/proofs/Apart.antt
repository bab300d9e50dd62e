-- Laws of a whole file: each way through the code that takes it apart.
use Rattle.std.specs.Prelude.{Option as Optional, Some, None}
use Prim.Native.Nat.{ℕ, suc, ◌+◌, ◌-◌, ◌<◌, ◌≤◌, min}
use mathlib.Core.List.{List, [], ◌∷◌}
use mathlib.Core.Option.{Option, none, some, map, none-ne-some}
use mathlib.Core.Path.{◌≡◌, refl, sym, ap, ◌∙◌}
use native.Mathlib.Omega.{arith}
use native.Mathlib.Numerals.{add-one}
use lib.ListN.{length, take, drop, get_or, length-drop, drop_of_length-le}
use lib.Seq.{drop-cons, drop-drop, get_or-drop}
use lib.Dec.{leb, eqb}
use borrow.Author.Tests.{le-leb, lt-leb, leb-true, eq-eqb, eqb-true, eqb-false}
use Rattle.text.specs.Reader.{Reader, ◌>>=◌, ◌>>◌, and_then, pure}
use Rattle.text.specs.CaseLaws.{by-test}
use Rattle.text.specs.ByteReaders.{byte, bytes}
use Rattle.text.specs.Parts.{part_of}
use Rattle.check_file.specs.File.{max_file, Parts, field, end, texts, whole_file, taken_apart}
use Rattle.check_file.specs.Places.{too_large, CappedTo, parts_at, TextsAre, answerable, TakenIs}
use Rattle.check_file.specs.declared.file.Placed.{Placed}

-- What a chain of readers does not read.

module _ {A : Type 0} where
  bytes-refused : (n : ℕ) (t : List ℕ) (k : List ℕ → Reader (List ℕ) A) → (n ≤ length t → k (take n t) (drop n t) ≡ none) → and_then (bytes n t) k ≡ none
  unfolding bytes and_then
  bytes-refused n t k f = by-test (leb n (length t)) (λ e. rw e (f (leb-true n (length t) e))) (λ e. rw e)

  byte-refused : (b : ℕ) (t : List ℕ) (k : Unit {0} → Reader (List ℕ) A) → ((u : List ℕ) → t ≡ b ∷ u → k tt u ≡ none) → and_then (byte b t) k ≡ none
  unfolding byte and_then
  byte-refused b [] k f = refl
  byte-refused b (a ∷ u) k f =
      by-test (eqb a b) (λ e. rw e (f u (ap (λ (x : ℕ). x ∷ u) (eqb-true a b e)))) (λ e. rw e)

  end_refused : (t : List ℕ) (k : Unit {0} → Reader (List ℕ) A) → (length t ≡ 0 → ⊥) → and_then (end t) k ≡ none
  unfolding end and_then
  end_refused [] k f = absurd (f refl)
  end_refused (b ∷ t) k f = refl

-- The texts, by the length of what lies ahead and the byte after the label.

module _ (kind semantics label schema rule : ℕ) (t : List ℕ) where
  texts-length : (length t ≡ label + (1 + (schema + rule)) → ⊥) → texts kind semantics label schema rule t ≡ none
  unfolding texts ◌>>=◌ ◌>>◌
  texts-length other =
      bytes-refused label t _
      (λ fits. byte-refused 10 (drop label t) _
      (λ u e. bytes-refused schema u _
      (λ fits2. bytes-refused rule (drop schema u) _
      (λ fits3. end_refused (drop rule (drop schema u)) _
      (λ z.
      let l : length (drop label t) ≡ suc (length u) = ap length e in
      other (omega (arith, length-drop label t, length-drop schema u, length-drop rule (drop schema u))))))))

  texts-byte : label < length t → (get_or t label 0 ≡ 10 → ⊥) → texts kind semantics label schema rule t ≡ none
  unfolding texts ◌>>=◌ ◌>>◌
  texts-byte h other =
      bytes-refused label t _
      (λ fits. byte-refused 10 (drop label t) _
      (λ u e. absurd (other (ap (λ (l : List ℕ). get_or l 0 0) (sym (drop-cons t label 0 h) ∙ e)))))

  texts-all : length t ≡ label + (1 + (schema + rule)) → get_or t label 0 ≡ 10
      → texts kind semantics label schema rule t
      ≡ some (record { kind = kind; semantics = semantics; label = take label t; schema = take schema (drop (label + 1) t); rule = take rule (drop schema (drop (label + 1) t)) }, [])
  unfolding texts ◌>>=◌ ◌>>◌ and_then bytes byte end pure
  texts-all e nl =
      let whole : label ≤ length t = omega arith in
      let behind : schema ≤ length (drop (suc label) t) = omega (arith, length-drop (suc label) t) in
      let last : rule ≤ length (drop schema (drop (suc label) t)) = omega (arith, length-drop (suc label) t, length-drop schema (drop (suc label) t)) in
      let over : length (drop schema (drop (suc label) t)) ≤ rule = omega (arith, length-drop (suc label) t, length-drop schema (drop (suc label) t)) in
      rw (add-one, le-leb label (length t) whole, drop-cons t label 0 (omega arith), eq-eqb (get_or t label 0) 10 nl, le-leb schema (length (drop (suc label) t)) behind, le-leb rule (length (drop schema (drop (suc label) t))) last, drop_of_length-le (drop schema (drop (suc label) t)) over)

-- The same from a place of the file on, with the places that the code computes.

module _ (s : List ℕ) (at kind semantics label schema rule line middle last : ℕ) (within : at ≤ length s)
    (line-is : line ≡ at + label) (middle-is : middle ≡ line + 1 + schema) (last-is : last ≡ middle + rule) where
  pub placed-length : (last ≡ length s → ⊥) → texts kind semantics label schema rule (drop at s) ≡ none
  placed-length other =
      texts-length kind semantics label schema rule (drop at s) (λ e. other (omega (arith, length-drop at s)))

  pub placed-byte : last ≡ length s → (get_or s line 0 ≡ 10 → ⊥) → texts kind semantics label schema rule (drop at s) ≡ none
  placed-byte e other =
      texts-byte kind semantics label schema rule (drop at s) (omega (arith, length-drop at s))
      (λ n. other (ap (λ (k : ℕ). get_or s k 0) line-is ∙ sym (get_or-drop at s label 0) ∙ n))

  pub placed-all : (l m r : ℕ) → l ≡ label → m ≡ schema → r ≡ rule → last ≡ length s → get_or s line 0 ≡ 10
      → TextsAre s at kind semantics label schema rule
      (Some (record { kind = kind; semantics = semantics; label = record { start = at; len = l }; schema = record { start = line + 1; len = m }; rule = record { start = middle; len = r } }))
  unfolding parts_at part_of
  placed-all l m r label_is schema-is rule-is e n =
      let past : at + (label + 1) ≡ line + 1 = omega arith in
      let behind : drop (label + 1) (drop at s) ≡ drop (line + 1) s = drop-drop (label + 1) at s ∙ ap (λ (k : ℕ). drop k s) past in
      let further : drop schema (drop (line + 1) s) ≡ drop middle s = drop-drop schema (line + 1) s ∙ ap (λ (k : ℕ). drop k s) (sym middle-is) in
      let length-is : length (drop at s) ≡ label + (1 + (schema + rule)) = omega (arith, length-drop at s) in
      let byte-is : get_or (drop at s) label 0 ≡ 10 = get_or-drop at s label 0 ∙ ap (λ (k : ℕ). get_or s k 0) (sym line-is) ∙ n in
      rw (label_is, schema-is, rule-is) (rw (behind, further) at (texts-all kind semantics label schema rule (drop at s) length-is byte-is))

-- Numbers that are too large are as good as any others of that kind: the texts do not fit them.

answered_read : Parts × List ℕ → Parts × List ℕ
answered_read r = (answerable r.0, r.1)

texts-answered : (kind semantics label schema rule : ℕ) (t : List ℕ) → length t < too_large
    → map answered_read (texts kind semantics label schema rule t)
    ≡ texts (min kind too_large) (min semantics too_large) (min label too_large) (min schema too_large) (min rule too_large) t
unfolding answered_read answerable
texts-answered kind semantics label schema rule t short =
    by-test (eqb (length t) (label + (1 + (schema + rule))))
    (λ e.
    let whole = eqb-true (length t) (label + (1 + (schema + rule))) e in
    let label_is : min label too_large ≡ label = omega arith in
    let schema-is : min schema too_large ≡ schema = omega arith in
    let rule-is : min rule too_large ≡ rule = omega arith in
    rw (label_is, schema-is, rule-is)
    (by-test (eqb (get_or t label 0) 10)
    (λ n.
    let nl = eqb-true (get_or t label 0) 10 n in
    rw (texts-all kind semantics label schema rule t whole nl, texts-all (min kind too_large) (min semantics too_large) label schema rule t whole nl))
    (λ n.
    let other = eqb-false (get_or t label 0) 10 n in
    rw (texts-byte kind semantics label schema rule t (omega arith) other, texts-byte (min kind too_large) (min semantics too_large) label schema rule t (omega arith) other))))
    (λ e.
    let other = eqb-false (length t) (label + (1 + (schema + rule))) e in
    rw (texts-length kind semantics label schema rule t other, texts-length (min kind too_large) (min semantics too_large) (min label too_large) (min schema too_large) (min rule too_large) t (λ x. omega arith)))

taken-some : (o : Option (Parts × List ℕ)) (p : Parts) → map answered_read o ≡ some (p, [])
    → map answerable (map (λ (r : Parts × List ℕ). r.0) o) ≡ some p
unfolding answered_read
taken-some none p e = absurd (none-ne-some _ e)
taken-some (some r) p e = ap (λ (o : Option (Parts × List ℕ)). map (λ (r : Parts × List ℕ). r.0) o) e

taken_none : (o : Option (Parts × List ℕ)) → map answered_read o ≡ none → map (λ (r : Parts × List ℕ). r.0) o ≡ none
taken_none none e = refl
taken_none (some r) e = absurd (none-ne-some _ (sym e))

-- The whole file.

pub too_long : (s : List ℕ) → max_file < length s → taken_apart s ≡ none
unfolding taken_apart
too_long s h = rw (lt-leb (length s) max_file h)

module _ (s : List ℕ) (short : length s ≤ max_file) where
  pub missing-1 : field (drop 0 s) ≡ none → taken_apart s ≡ none
  unfolding taken_apart whole_file ◌>>=◌ and_then
  missing-1 e = rw (le-leb (length s) max_file short, e)

  module _ {kind a : ℕ} (r1 : CappedTo field s 0 kind a) where
    pub missing-2 : field (drop a s) ≡ none → taken_apart s ≡ none
    unfolding taken_apart whole_file ◌>>=◌ and_then
    missing-2 e = rw (le-leb (length s) max_file short, r1.reads, e)

    module _ {semantics b : ℕ} (r2 : CappedTo field s a semantics b) where
      pub missing-3 : field (drop b s) ≡ none → taken_apart s ≡ none
      unfolding taken_apart whole_file ◌>>=◌ and_then
      missing-3 e = rw (le-leb (length s) max_file short, r1.reads, r2.reads, e)

      module _ {label c : ℕ} (r3 : CappedTo field s b label c) where
        pub missing-4 : field (drop c s) ≡ none → taken_apart s ≡ none
        unfolding taken_apart whole_file ◌>>=◌ and_then
        missing-4 e = rw (le-leb (length s) max_file short, r1.reads, r2.reads, r3.reads, e)

        module _ {schema d : ℕ} (r4 : CappedTo field s c schema d) where
          pub missing-5 : field (drop d s) ≡ none → taken_apart s ≡ none
          unfolding taken_apart whole_file ◌>>=◌ and_then
          missing-5 e = rw (le-leb (length s) max_file short, r1.reads, r2.reads, r3.reads, r4.reads, e)

          module _ {rule at : ℕ} (r5 : CappedTo field s d rule at) where
            abbrev behind : Option (Parts × List ℕ)
            behind = texts r1.number r2.number r3.number r4.number r5.number (drop at s)

            opened : taken_apart s ≡ map (λ (r : Parts × List ℕ). r.0) behind
            unfolding taken_apart whole_file ◌>>=◌ and_then
            opened = rw (le-leb (length s) max_file short, r1.reads, r2.reads, r3.reads, r4.reads, r5.reads)

            answers : map answered_read behind ≡ texts kind semantics label schema rule (drop at s)
            answers =
                rw (r1.answered, r2.answered, r3.answered, r4.answered, r5.answered)
                (texts-answered r1.number r2.number r3.number r4.number r5.number (drop at s) (omega (arith, length-drop at s)))

            pub taken-apart : (r : Optional Placed) → TextsAre s at kind semantics label schema rule r → TakenIs s r
            taken-apart (Some p) e = rw opened (taken-some behind (parts_at s p) (answers ∙ e))
            taken-apart None e = rw opened (taken_none behind (answers ∙ e))
