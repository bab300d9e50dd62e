-- What the mark pass answers for the words of an index.
use Rattle.std.specs.Prelude.{ℕ, ◌+◌, ◌*◌, ◌≤◌, ◌<◌, Bool, true, false, List, ◌≡◌, length, Option as Optional, Some, None}
use Rattle.std.proofs.Math.Option.{Option, none, some}
use Rattle.std.proofs.lemmas.List.Edits.{sets}
use Rattle.timestamp.specs.declared.Fields.{Fields}
use Rattle.sheet.specs.Operators.{literal_operator, not_operator, truthy_operator, is_instant_test}
use Rattle.definition.specs.Tree.{Value, Conditions, Rule}
use Rattle.definition.specs.Within.{value_entries}
use Rattle.rule.specs.Index.{ValueAt, RuleAt}
use Rattle.buffer.specs.Bytes.{bytes_of}
use Rattle.validation.specs.Constant.{literal_instant, constant_of, mark_if, marks_of_conditions, marks_in}
use Rattle.validation.specs.Marking.{MarksAre}
use Rattle.rule.specs.Nodes.{AreConditions}

unfoldable pub instant_by : Optional Fields → Option Fields
instant_by (Some fields) = some fields
instant_by None = none

unfoldable pub truth_by : Optional Bool → Option Bool
truth_by (Some truth) = some truth
truth_by None = none

-- the value of word `i`
pub record LiteralAt (rule words : List ℕ) (i : ℕ) (r : Optional Fields) : Type 0 where
  pub fields : (v : Value) → ValueAt rule words i v → literal_instant v ≡ instant_by r

-- two operands, one after the other
pub record PairIs (rule words : List ℕ) (op start : ℕ) (r : Optional Bool) : Type 0 where
  pub truth : (left right : Value) → ValueAt rule words start left → ValueAt rule words (start + value_entries left) right
      → constant_of op left right ≡ truth_by r

-- a condition at word `i` with operator `op`: `before` and `after` alone can be constant
pub record ConstantAt (rule words : List ℕ) (op i : ℕ) (r : Optional Bool) : Type 0 where
  pub pair : PairIs rule words op (i + 1) r
  pub other : is_instant_test op ≡ false → truth_by r ≡ none

-- an entry's mark after so many others, where it has one
pub record MarkedOn (count entry : ℕ) (constant : Optional Bool) (before after : List ℕ) (r : ℕ) : Type 0 where
  pub most : r ≤ count + 1
  pub counted : r ≡ count + length (mark_if entry (truth_by constant))
  pub written : after ≡ sets before (4 * count) (bytes_of (mark_if entry (truth_by constant)))

-- a condition with that operator holds no condition, as those up to `not` and those from `for_all` on do, and is neither `before` nor `after`
pub record PlainOperator (op : ℕ) : Type 0 where
  pub holds_none : literal_operator < op → not_operator < op
  pub compares_none : is_instant_test op ≡ false
  pub walks_none : op ≤ truthy_operator

abbrev pub Plain : (op : ℕ) (r : Bool) → Type 0
Plain op true = PlainOperator op
Plain op false = Unit {0}

-- the conditions from word `start` up to word `i` have no mark: those that are left have all
pub record Unmarked (rule words : List ℕ) (start end i : ℕ) : Type 0 where
  pub forth : start ≤ i
  pub rest : (cs : Conditions) → AreConditions rule words start end cs → Conditions
  pub stand : (cs : Conditions) (w : AreConditions rule words start end cs) → AreConditions rule words i end (rest cs w)
  pub same : (cs : Conditions) (w : AreConditions rule words start end cs) → marks_of_conditions cs ≡ marks_of_conditions (rest cs w)

-- the marks of the conditions that are there
pub record ConditionsMarked (rule words : List ℕ) (start end : ℕ) (before after : List ℕ) (count : ℕ) : Type 0 where
  pub marks : (cs : Conditions) → AreConditions rule words start end cs → MarksAre (marks_of_conditions cs) before after count

-- the marks of the rule that the index describes
pub record RuleMarked (rule words before after : List ℕ) (count : ℕ) : Type 0 where
  pub marks : (r : Rule) → RuleAt rule words r → MarksAre (marks_in r) before after count
