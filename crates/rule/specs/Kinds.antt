-- The kind of an entry: the operator of a condition, the type of a value, and the text of a string or a number. Where there is no such entry, nothing is said.
use Rattle.std.specs.Prelude.{ℕ, ◌+◌, Bool, true, false, List, ◌≡◌, drop}
use Rattle.std.proofs.Math.Option.{some}
use Rattle.text.specs.Parts.{part_of}
use Rattle.text.specs.declared.part.Part.{Part}
use Rattle.sheet.specs.Operators.{literal_operator, not_operator, compare_operator}
use Rattle.definition.specs.Tree.{Text}
use Rattle.sheet.specs.Entries.{ConditionHead, literal_head, many_head, negation_head, one_head, two_head, comparison_head, quantifier_head, condition_head, ValueHead, constant_head, number_head, string_head, array_head, object_head, value_head, key_head}

-- the operator's number, which a literal's, a negation's and a comparison's head leave out
unfoldable pub operator_in : ConditionHead → ℕ
operator_in (literal_head truth) = literal_operator
operator_in (many_head op count) = op
operator_in negation_head = not_operator
operator_in (one_head op) = op
operator_in (two_head op) = op
operator_in (comparison_head which) = compare_operator
operator_in (quantifier_head op bind) = op

-- the type's number
unfoldable pub type_in : ValueHead → ℕ
type_in (constant_head type) = type
type_in (number_head digits) = 4
type_in (string_head string) = 5
type_in (array_head count) = 6
type_in (object_head count) = 7

-- `op` is the operator of the condition whose entry is read at `at`
pub record OperatorAt (rule : List ℕ) (at op : ℕ) : Type 0 where
  pub is : (h : ConditionHead) (rest : List ℕ) → condition_head (drop at rule) ≡ some (h, rest) → op ≡ operator_in h

-- `digit` is the type's of the value whose entry is read at `at`
pub record TypeAt (rule : List ℕ) (at digit : ℕ) : Type 0 where
  pub is : (h : ValueHead) (rest : List ℕ) → value_head (drop at rule) ≡ some (h, rest) → digit ≡ 48 + type_in h

-- whether the entry at `at`, of a value or of a key, is that of a value with that type's digit
abbrev pub HasType : (rule : List ℕ) (at digit : ℕ) → Bool → Type 0
HasType rule at digit true =
    ((h : ValueHead) (rest : List ℕ) → value_head (drop at rule) ≡ some (h, rest) → digit ≡ 48 + type_in h)
    × ((key : Text) (rest : List ℕ) → key_head (drop at rule) ≡ some (key, rest) → ⊥)
HasType rule at digit false = (h : ValueHead) (rest : List ℕ) → value_head (drop at rule) ≡ some (h, rest) → digit ≡ 48 + type_in h → ⊥

-- the text of the string or the number whose entry is read at `at` is in that place
pub record TextAt (rule : List ℕ) (at : ℕ) (p : Part) : Type 0 where
  pub string : (t : Text) (rest : List ℕ) → value_head (drop at rule) ≡ some (string_head t, rest) → part_of rule p ≡ t
  pub number : (digits : Text) (rest : List ℕ) → value_head (drop at rule) ≡ some (number_head digits, rest) → part_of rule p ≡ digits
