-- Which conditions are constant, step by step.
use Rattle.std.specs.Prelude.{Option as Optional, Some, None, Result, Ok}
use Prim.Native.Nat.{ℕ, ◌+◌, ◌≤◌}
use native.Mathlib.Omega.{arith}
use mathlib.Core.Bool.{Bool, true, false, false≢true}
use mathlib.Core.List.{List}
use mathlib.Core.Option.{Option, none, some, none-ne-some}
use mathlib.Core.Path.{◌≡◌, refl, sym, ◌∙◌}
use borrow.Author.Tests.{ne_eqb, lt-leb}
use Rattle.sheet.specs.Operators.{is_instant_test}
use Rattle.sheet.proofs.OperatorLaws.{instant-early, instant-late}
use Rattle.timestamp.specs.Order.{is_earlier}
use Rattle.timestamp.specs.declared.Fields.{Fields}
use Rattle.definition.specs.Tree.{Value, constant, number, string, array, object}
use Rattle.definition.specs.Within.{value_entries}
use Rattle.rule.specs.Index.{ValueAt}
use Rattle.validation.specs.Check.{instant_form}
use Rattle.validation.specs.Constant.{literal_instant, truth_of, truth_in, constant_of}
use Rattle.value_checks.specs.Frames.{literal_by, ReadAs}
use Rattle.constants.specs.Marks.{instant_by, truth_by, LiteralAt, PairIs, ConstantAt}
use Rattle.value_checks.specs.declared.verdict.InstantFault.{InstantFault}

module _ {rule words : List ℕ} {i : ℕ} {x : Result (Optional Fields) InstantFault} (read : (v : Value) → ValueAt rule words i v → ReadAs (instant_form v) (literal_instant v) x) where
  pub literal-is : (f : Optional Fields) → x ≡ Ok f → LiteralAt rule words i f
  unfolding literal_by instant_by
  literal-is (Some f) e = record { fields = λ v a. (read v a).fields ∙ rw e }
  literal-is None e = record { fields = λ v a. (read v a).fields ∙ rw e }

  pub literal-not : literal_by x ≡ none → LiteralAt rule words i None
  unfolding instant_by
  literal-not e = record { fields = λ v a. (read v a).fields ∙ e }

pub truth-before : (op : ℕ) (left right : Fields) {t : Bool} → op ≡ 6 → t ≡ is_earlier left right → truth_of op left right ≡ truth_by (Some t)
unfolding truth_of truth_by
truth-before op left right e h = rw (e, h)

pub truth-after : (op : ℕ) (left right : Fields) {t : Bool} → op ≡ 7 → t ≡ is_earlier right left → truth_of op left right ≡ truth_by (Some t)
unfolding truth_of truth_by
truth-after op left right e h = rw (e, h)

pub truth-none : (op : ℕ) (left right : Fields) → (op ≡ 6 → ⊥) → (op ≡ 7 → ⊥) → truth_of op left right ≡ truth_by None
unfolding truth_of truth_by
truth-none op left right e h = rw (ne_eqb op 6 e, ne_eqb op 7 h)

-- a literal instant is a string, and so one entry
one_entry : (v : Value) (f : Fields) → literal_instant v ≡ some f → value_entries v ≡ 1
unfolding literal_instant value_entries
one_entry (constant e type) f h = refl
one_entry (number e digits) f h = refl
one_entry (string e t) f h = refl
one_entry (array e values) f h = absurd (none-ne-some f h)
one_entry (object e pairs) f h = absurd (none-ne-some f h)

-- no other operator makes a condition constant
pub none-early : (op : ℕ) → op ≤ 5 → is_instant_test op ≡ false
none-early op h = sym (instant-early (omega arith))

pub none-late : (op : ℕ) → 8 ≤ op → is_instant_test op ≡ false
none-late op h = sym (instant-late (omega arith)) ∙ lt-leb op 7 (omega arith)

pub other_none : (op : ℕ) → is_instant_test op ≡ false → (o p : Option Fields) → truth_in op o p ≡ none
unfolding truth_in truth_by is_instant_test
other_none op h none p = refl
other_none op h (some f) none = refl
other_none op h (some f) (some g) = truth-none op f g (λ e. false≢true (sym (rw e at h))) (λ e. false≢true (sym (rw e at h)))

module _ {rule words : List ℕ} {i : ℕ} (op : ℕ) {test : Bool} (said : test ≡ is_instant_test op) where
  pub constant-not : test ≡ false → ConstantAt rule words op i None
  unfolding constant_of truth_by
  constant-not h =
      record {
        pair = record { truth = λ left right a b. other_none op (sym said ∙ h) (literal_instant left) (literal_instant right) };
        other = λ k. refl;
      }

  pub constant_by : {r : Optional Bool} → test ≡ true → PairIs rule words op (i + 1) r → ConstantAt rule words op i r
  constant_by t p = record { pair = p; other = λ h. absurd (false≢true (sym h ∙ sym said ∙ t)) }

right-none : (op : ℕ) (o : Option Fields) → truth_in op o none ≡ none
unfolding truth_in
right-none op none = refl
right-none op (some f) = refl

module _ {rule words : List ℕ} (op start : ℕ) {x : Optional Fields} (first : LiteralAt rule words start x) where
  pub pair_left : x ≡ None → PairIs rule words op start None
  unfolding constant_of truth_in instant_by truth_by
  pair_left e =
      record {
        truth = λ left right a b.
            let p : literal_instant left ≡ none = first.fields left a ∙ rw e in
            rw p;
      }

  module _ {f : Fields} (is : x ≡ Some f) {y : Optional Fields} (second : LiteralAt rule words (start + 1) y) where
    left_is : (left : Value) → ValueAt rule words start left → literal_instant left ≡ some f
    unfolding instant_by
    left_is left a = first.fields left a ∙ rw is

    right_is : (left right : Value) → ValueAt rule words start left → ValueAt rule words (start + value_entries left) right → literal_instant right ≡ instant_by y
    right_is left right a b = second.fields right (rw (one_entry left f (left_is left a)) at b)

    pub pair-right : y ≡ None → PairIs rule words op start None
    unfolding constant_of instant_by truth_by
    pair-right e =
        record {
          truth = λ left right a b.
              let q : literal_instant right ≡ none = right_is left right a b ∙ rw e in
              rw q (right-none op (literal_instant left));
        }

    pub pair-both : {g : Fields} {r : Optional Bool} → y ≡ Some g → truth_of op f g ≡ truth_by r → PairIs rule words op start r
    unfolding constant_of truth_in instant_by
    pair-both {g} e h =
        record {
          truth = λ left right a b.
              let p : literal_instant left ≡ some f = left_is left a in
              let q : literal_instant right ≡ some g = right_is left right a b ∙ rw e in
              rw (p, q) h;
        }
