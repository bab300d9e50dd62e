-- The kind of an entry by its bytes: what is read is the entry as it is written, of which the bytes at fixed places compute.
use Prim.Native.Nat.{ℕ, ◌+◌, ◌*◌, ◌/◌, ◌%◌, ◌≤◌, ◌<◌}
use native.Mathlib.Omega.{arith}
use mathlib.Core.Bool.{Bool, true, false}
use mathlib.Core.List.{List, ◌∷◌, ◌++◌, append_assoc}
use mathlib.Core.Logic.{⊎_elim}
use mathlib.Core.Option.{none, some, none-ne-some}
use mathlib.Core.Path.{◌≡◌, refl, sym, ap, ◌∙◌}
use lib.Dec.{ltb, eqb}
use lib.ListN.{length, get_or, take, drop, get_or-eq_default}
use lib.Seq.{get_or-drop, drop-drop, take-append_seam}
use borrow.Author.Tests.{ltb-true, ltb-false, eqb-true, eqb-false}
use Rattle.text.specs.Ascii.{ascii}
use Rattle.text.specs.NumeralLaws.{decimal_of-one, decimal_of-last, comma-begins}
use Rattle.text.specs.Parts.{part_of}
use Rattle.text.specs.ReadAt.{ReadsTo}
use Rattle.text.specs.declared.part.Part.{Part}
use Rattle.text.specs.CaseLaws.{by-test}
use Rattle.sheet.proofs.ItemLaws.{item-complete}
use Rattle.sheet.specs.Entries.{max_text, item, ConditionHead, literal_head, many_head, negation_head, one_head, two_head, comparison_head, quantifier_head, condition_head, ValueHead, constant_head, number_head, string_head, array_head, object_head, value_head, key_head}
use Rattle.sheet.specs.Write.{write_item, write_end, write_last, write_operator, write_condition_head, write_type, write_value_head, write_key_head}
use Rattle.sheet.proofs.RuleHeadLaws.{ConditionHeadFits, condition_head-exact, ValueHeadFits, value_head-exact, key_head-exact}
use Rattle.rule.specs.Kinds.{operator_in, type_in, OperatorAt, TypeAt, HasType, TextAt}

-- The entry as it is written.

head-written : (h : ConditionHead) → (n : ℕ) × (text : List ℕ) × (write_condition_head h ≡ write_operator (operator_in h) n text)
unfolding write_condition_head operator_in
head-written (literal_head truth) = (_, _, refl)
head-written (many_head op count) = (_, _, refl)
head-written negation_head = (_, _, refl)
head-written (one_head op) = (_, _, refl)
head-written (two_head op) = (_, _, refl)
head-written (comparison_head which) = (_, _, refl)
head-written (quantifier_head op bind) = (_, _, refl)

head-most : (h : ConditionHead) → ConditionHeadFits h → operator_in h ≤ 21
unfolding operator_in
head-most (literal_head truth) f = omega arith
head-most (many_head op count) f = omega (arith, f.0.1)
head-most negation_head f = omega arith
head-most (one_head op) f = ⊎_elim (λ e. omega arith) (λ e. omega arith) f
head-most (two_head op) f = omega (arith, f.1)
head-most (comparison_head which) f = omega arith
head-most (quantifier_head op bind) f = omega (arith, f.0.1)

value_written : (h : ValueHead) → (n : ℕ) × (text : List ℕ) × (write_value_head h ≡ write_type (type_in h) n text)
unfolding write_value_head type_in
value_written (constant_head type) = (_, _, refl)
value_written (number_head digits) = (_, _, refl)
value_written (string_head string) = (_, _, refl)
value_written (array_head count) = (_, _, refl)
value_written (object_head count) = (_, _, refl)

value-most : (h : ValueHead) → ValueHeadFits h → type_in h ≤ 7
unfolding type_in
value-most (constant_head type) f = omega (arith, f.1)
value-most (number_head digits) f = omega arith
value-most (string_head string) f = omega arith
value-most (array_head count) f = omega arith
value-most (object_head count) f = omega arith

-- The digits of its number.

module _ (op n : ℕ) (text rest : List ℕ) where
  one-digit : op < 10 → (get_or (write_operator op n text ++ rest) 2 0 ≡ 48 + op) × (get_or (write_operator op n text ++ rest) 3 0 ≡ 44)
  unfolding write_operator write_item ascii
  one-digit h = (rw (decimal_of-one op h), rw (decimal_of-one op h))

  two_digits : 10 ≤ op → op < 100 → (get_or (write_operator op n text ++ rest) 2 0 ≡ 48 + op / 10) × (get_or (write_operator op n text ++ rest) 3 0 ≡ 48 + op % 10)
  unfolding write_operator write_item ascii
  two_digits h k =
      let q : op / 10 < 10 = omega arith in
      (rw (decimal_of-last op h, decimal_of-one (op / 10) q), rw (decimal_of-last op h, decimal_of-one (op / 10) q))

  type-digit : op < 10 → get_or (write_type op n text ++ rest) 2 0 ≡ 48 + op
  unfolding write_type write_item ascii
  type-digit h = rw (decimal_of-one op h)

module _ (rule : List ℕ) (at : ℕ) where
  byte-in : (s : List ℕ) (n : ℕ) → drop at rule ≡ s → get_or rule (at + n) 0 ≡ get_or s n 0
  byte-in s n e = sym (get_or-drop at rule n 0) ∙ ap (λ (l : List ℕ). get_or l n 0) e

  module _ {h : ConditionHead} {rest : List ℕ} (reads : condition_head (drop at rule) ≡ some (h, rest)) where
    operator-written : drop at rule ≡ write_operator (operator_in h) (head-written h).0 (head-written h).1 ++ rest
    operator-written =
        (condition_head-exact.sound (drop at rule) h rest reads).0 ∙ ap (λ (l : List ℕ). l ++ rest) (head-written h).2

    operator-most : operator_in h ≤ 21
    operator-most = head-most h (condition_head-exact.sound (drop at rule) h rest reads).1

    by_digits : {C : Type 0}
        → (operator_in h < 10 → get_or rule (at + 2) 0 ≡ 48 + operator_in h → get_or rule (at + 3) 0 ≡ 44 → C)
        → (10 ≤ operator_in h → get_or rule (at + 2) 0 ≡ 48 + operator_in h / 10 → get_or rule (at + 3) 0 ≡ 48 + operator_in h % 10 → C)
        → C
    by_digits f g =
        by-test (ltb (operator_in h) 10) (λ q.
        let l = ltb-true (operator_in h) 10 q in
        let d = one-digit (operator_in h) _ _ rest l in
        f l (byte-in _ 2 operator-written ∙ d.0) (byte-in _ 3 operator-written ∙ d.1)) (λ q.
        let l = ltb-false (operator_in h) 10 q in
        let d = two_digits (operator_in h) _ _ rest l (omega (arith, operator-most)) in
        g l (byte-in _ 2 operator-written ∙ d.0) (byte-in _ 3 operator-written ∙ d.1))

-- The code's answers.

digit-of : (d : ℕ) → d < 10 → (48 + d) % 16 ≡ d
digit-of d h = omega arith

pub past_end : (s : List ℕ) (i : ℕ) → length s ≤ i → 0 ≡ get_or s i 0
past_end s i h = sym (get_or-eq_default s 0 h)

module _ {rule : List ℕ} {at first second : ℕ} (a : first ≡ get_or rule (at + 2) 0) (b : second ≡ get_or rule (at + 3) 0) where
  pub operator-one : second ≡ 44 → OperatorAt rule at (first % 16)
  operator-one e =
      record { is = λ h rest reads. by_digits rule at reads (λ l p q. omega arith) (λ l p q. omega arith) }

  pub operator-two : (second ≡ 44 → ⊥) → OperatorAt rule at (10 * (first % 16) + second % 16)
  operator-two e =
      record {
        is = λ h rest reads.
            by_digits rule at reads (λ l p q. absurd (e (b ∙ q))) (λ l p q.
            let m : operator_in h ≤ 21 = operator-most rule at reads in
            let x : first % 16 ≡ operator_in h / 10 = ap (λ (y : ℕ). y % 16) (a ∙ p) ∙ digit-of (operator_in h / 10) (omega arith) in
            let y : second % 16 ≡ operator_in h % 10 = ap (λ (z : ℕ). z % 16) (b ∙ q) ∙ digit-of (operator_in h % 10) (omega arith) in
            omega arith);
      }

pub type-byte : {rule : List ℕ} {at digit : ℕ} → digit ≡ get_or rule (at + 2) 0 → TypeAt rule at digit
type-byte {rule} {at} {digit} a =
    record {
      is = λ h rest reads.
          let s = value_head-exact.sound (drop at rule) h rest reads in
          let w : drop at rule ≡ write_type (type_in h) (value_written h).0 (value_written h).1 ++ rest =
          s.0 ∙ ap (λ (l : List ℕ). l ++ rest) (value_written h).2 in
          a ∙ byte-in rule at _ 2 w ∙ type-digit (type_in h) _ _ rest (omega (arith, value-most h s.1));
    }

-- The letter of a value or a key.

letter-value : (rule : List ℕ) (at : ℕ) {h : ValueHead} {rest : List ℕ} → value_head (drop at rule) ≡ some (h, rest) → get_or rule (at + 0) 0 ≡ 86
unfolding write_type ascii
letter-value rule at {h} {rest} reads =
    byte-in rule at _ 0 ((value_head-exact.sound (drop at rule) h rest reads).0 ∙ ap (λ (l : List ℕ). l ++ rest) (value_written h).2)

letter-key : (rule : List ℕ) (at : ℕ) {key rest : List ℕ} → key_head (drop at rule) ≡ some (key, rest) → get_or rule (at + 0) 0 ≡ 75
unfolding write_key_head ascii
letter-key rule at {key} {rest} reads = byte-in rule at _ 0 (key_head-exact.sound (drop at rule) key rest reads).0

module _ (rule : List ℕ) (at digit : ℕ) {letter : ℕ} (a : letter ≡ get_or rule (at + 0) 0) where
  pub type-tested : {found : ℕ} → letter ≡ 86 → TypeAt rule at found → HasType rule at digit (eqb found digit)
  type-tested {found} e k = by (eqb found digit) refl
    where
      by : (test : Bool) → eqb found digit ≡ test → HasType rule at digit test
      by true q = (
        λ h rest reads. sym (eqb-true found digit q) ∙ k.is h rest reads,
        λ key rest reads. omega (arith, letter-key rule at reads),
      )
      by false q = λ h rest reads t. eqb-false found digit q (k.is h rest reads ∙ sym t)

  pub type-otherwise : (letter ≡ 86 → ⊥) → HasType rule at digit false
  type-otherwise n = λ h rest reads t. n (a ∙ letter-value rule at reads)

-- Texts, of strings and numbers.

text-parts : (type : ℕ) (t rest : List ℕ) → write_type type (length t) t ++ rest ≡ ascii "V" ++ (write_item type ++ (write_item (length t) ++ (ascii "," ++ (t ++ (write_end ++ rest)))))
unfolding write_type write_last
text-parts type t rest = simp append_assoc

behind-type : (type : ℕ) → type < 10 → (u : List ℕ) → drop 3 (ascii "V" ++ (write_item type ++ u)) ≡ u
unfolding write_item ascii
behind-type type h u = rw (decimal_of-one type h)

module _ (rule : List ℕ) (at type : ℕ) (small : type < 10) (t rest : List ℕ) (short : length t ≤ max_text) (written : drop at rule ≡ write_type type (length t) t ++ rest) where
  length-written : drop (at + 3) rule ≡ write_item (length t) ++ (44 ∷ (t ++ (write_end ++ rest)))
  unfolding ascii
  length-written = sym (drop-drop 3 at rule) ∙ ap (drop 3) (written ∙ text-parts type t rest) ∙ behind-type type small _

  length-read : item 0 max_text (drop (at + 3) rule) ≡ some (length t, 44 ∷ (t ++ (write_end ++ rest)))
  length-read = ap (item 0 max_text) length-written ∙ item-complete 0 max_text (length t) _ (omega arith, short) (comma-begins _)

  text-placed : (n next : ℕ) → item 0 max_text (drop (at + 3) rule) ≡ some (n, drop next rule) → take n (drop (next + 1) rule) ≡ t
  text-placed n next e =
      let q : ◌≡◌ {A = ℕ × List ℕ} (n, drop next rule) (length t, 44 ∷ (t ++ (write_end ++ rest))) = cc (length-read) in
      let m : n ≡ length t = ap (λ (x : ℕ × List ℕ). x.0) q in
      let d : drop next rule ≡ 44 ∷ (t ++ (write_end ++ rest)) = ap (λ (x : ℕ × List ℕ). x.1) q in
      let f : drop (next + 1) rule ≡ t ++ (write_end ++ rest) = sym (drop-drop 1 next rule) ∙ ap (drop 1) d in
      rw (m, f) (take-append_seam t (write_end ++ rest))

  text-refused : item 0 max_text (drop (at + 3) rule) ≡ none → ⊥
  text-refused e = none-ne-some _ (sym e ∙ length-read)

module _ (rule : List ℕ) (at : ℕ) (t rest : List ℕ) where
  string-written : value_head (drop at rule) ≡ some (string_head t, rest) → (drop at rule ≡ write_type 5 (length t) t ++ rest) × (length t ≤ max_text)
  unfolding write_value_head
  string-written reads = let s = value_head-exact.sound (drop at rule) (string_head t) rest reads in (s.0, s.1.short)

  number-written : value_head (drop at rule) ≡ some (number_head t, rest) → (drop at rule ≡ write_type 4 (length t) t ++ rest) × (length t ≤ max_text)
  unfolding write_value_head
  number-written reads = let s = value_head-exact.sound (drop at rule) (number_head t) rest reads in (s.0, s.1.0.short)

pub text-known : {rule : List ℕ} {at n next : ℕ} → ReadsTo (item 0 max_text) rule (at + 3) n next → TextAt rule at (record { start = next + 1; len = n })
unfolding part_of
text-known {rule} {at} {n} {next} r =
    record {
      string = λ t rest reads. let w = string-written rule at t rest reads in text-placed rule at 5 (omega arith) t rest w.1 w.0 n next r.reads;
      number = λ t rest reads. let w = number-written rule at t rest reads in text-placed rule at 4 (omega arith) t rest w.1 w.0 n next r.reads;
    }

pub text-unread : {rule : List ℕ} {at : ℕ} {p : Part} → item 0 max_text (drop (at + 3) rule) ≡ none → TextAt rule at p
text-unread {rule} {at} e =
    record {
      string = λ t rest reads. let w = string-written rule at t rest reads in absurd (text-refused rule at 5 (omega arith) t rest w.1 w.0 e);
      number = λ t rest reads. let w = number-written rule at t rest reads in absurd (text-refused rule at 4 (omega arith) t rest w.1 w.0 e);
    }

nothing-past : (rule : List ℕ) (at : ℕ) → length rule ≤ at → {h : ValueHead} {rest : List ℕ} → value_head (drop at rule) ≡ some (h, rest) → ⊥
nothing-past rule at past reads = omega (arith, past_end rule (at + 0) (omega arith), letter-value rule at reads)

pub text-past : {rule : List ℕ} {at : ℕ} {p : Part} → length rule ≤ at → TextAt rule at p
text-past {rule} {at} past =
    record { string = λ t rest reads. absurd (nothing-past rule at past reads); number = λ t rest reads. absurd (nothing-past rule at past reads) }
