-- Constant conditions (docs/FORMAT.md, "Constant marks"): exactly `before` and `after` with two literal instants, with their truth. They come from
-- the rule sheet alone.
use Rattle.std.specs.Prelude.{ℕ, ◌+◌, ◌*◌, Bool, cond, List, [], ◌∷◌, ◌++◌, eqb}
use Rattle.std.proofs.Math.Option.{Option, none, some}
use Rattle.sheet.specs.Operators.{before_operator, after_operator}
use Rattle.timestamp.specs.Instant.{instant}
use Rattle.timestamp.specs.Order.{is_earlier}
use Rattle.timestamp.specs.declared.Fields.{Fields}
use Rattle.definition.specs.Tree.{Text, Value, constant, number, string, array, object, Condition, literal, many, negation, one, two, comparison, quantifier, Conditions, no_conditions, condition, Rule, rule, template}
use Rattle.reference.specs.Reference.{begins_with_dollar}
use Rattle.validation.specs.Result.{Answer, refused, accepted, defect}

-- text that begins with `$` is a reference, or not an instant
unfoldable pub literal_text : Text → Option Fields
literal_text t = cond (begins_with_dollar t) none (instant t)

unfoldable pub literal_instant : Value → Option Fields
literal_instant (constant e type) = none
literal_instant (number e digits) = none
literal_instant (string e t) = literal_text t
literal_instant (array e vs) = none
literal_instant (object e pairs) = none

unfoldable pub truth_of : (op : ℕ) (left right : Fields) → Option Bool
truth_of op left right =
    cond (eqb op before_operator) (some (is_earlier left right)) (cond (eqb op after_operator) (some (is_earlier right left)) none)

unfoldable pub truth_in : (op : ℕ) (left right : Option Fields) → Option Bool
truth_in op none right = none
truth_in op (some left) none = none
truth_in op (some left) (some right) = truth_of op left right

-- the truth of a condition with two operands, if it is constant
unfoldable pub constant_of : (op : ℕ) → Value → Value → Option Bool
constant_of op left right = truth_in op (literal_instant left) (literal_instant right)

-- an entry's number doubled, and 1 more if its condition is true
unfoldable pub mark_of : (entry : ℕ) → Bool → ℕ
mark_of e truth = 2 * e + cond truth 1 0

unfoldable pub mark_if : (entry : ℕ) → Option Bool → List ℕ
mark_if e none = []
mark_if e (some truth) = mark_of e truth ∷ []

unfoldable mutual
  pub marks_of : Condition → List ℕ
  marks_of (literal e truth) = []
  marks_of (many e op children) = marks_of_conditions children
  marks_of (negation e child) = marks_of child
  marks_of (one e op v) = []
  marks_of (two e op left right) = mark_if e (constant_of op left right)
  marks_of (comparison e which left right) = []
  marks_of (quantifier e op bind over body) = marks_of body

  pub marks_of_conditions : Conditions → List ℕ
  marks_of_conditions no_conditions = []
  marks_of_conditions (condition c others) = marks_of c ++ marks_of_conditions others

unfoldable pub marks_in : Rule → List ℕ
marks_in (rule name message assert) = marks_of assert
marks_in (template v) = []

unfoldable pub marks_if : Option Rule → List ℕ
marks_if none = []
marks_if (some r) = marks_in r

-- the marks that a call hands back: a rule that isn't accepted gets none
unfoldable pub marks_heard : Answer → Option Rule → List ℕ
marks_heard (refused n) r = []
marks_heard (accepted n) r = marks_if r
marks_heard (defect d) r = []
