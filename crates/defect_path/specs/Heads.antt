-- What a path has for a part of a condition, by the condition's head.
use Rattle.std.specs.Prelude.{ℕ, Bool, true, false, cond, [], ◌++◌, eqb}
use Rattle.text.specs.Ascii.{ascii}
use Rattle.sheet.specs.Entries.{ConditionHead, literal_head, many_head, negation_head, one_head, two_head, comparison_head, quantifier_head}
use Rattle.definition.specs.Tree.{Text}
use Rattle.sheet.specs.Operators.{operator_name}
use Rattle.validation.specs.Location.{dotted, index, at_quantifier}

-- its part with index `k`
unfoldable pub part_at : ConditionHead → (k : ℕ) → Text
part_at (literal_head truth) k = []
part_at (many_head op count) k = dotted (operator_name op) ++ index k
part_at negation_head k = ascii ".not"
part_at (one_head op) k = dotted (operator_name op)
part_at (two_head op) k = dotted (operator_name op) ++ index k
part_at (comparison_head which) k = cond (eqb k 0) (ascii ".compare.left") (ascii ".compare.right")
part_at (quantifier_head op bind) k = dotted (operator_name op) ++ cond (eqb k 0) (ascii ".in") (ascii ".that")

-- whether that part is a value
unfoldable pub is_value_at : ConditionHead → (k : ℕ) → Bool
is_value_at (literal_head truth) k = false
is_value_at (many_head op count) k = false
is_value_at negation_head k = false
is_value_at (one_head op) k = true
is_value_at (two_head op) k = true
is_value_at (comparison_head which) k = true
is_value_at (quantifier_head op bind) k = eqb k 0

-- whether a defect inside it has the condition's own path: that of 17, and a literal has no inside
unfoldable pub is_whole : (defect : ℕ) → ConditionHead → Bool
is_whole defect (literal_head truth) = true
is_whole defect (many_head op count) = false
is_whole defect negation_head = false
is_whole defect (one_head op) = false
is_whole defect (two_head op) = false
is_whole defect (comparison_head which) = eqb defect 17
is_whole defect (quantifier_head op bind) = false

-- what follows the path of the condition for a defect at its own entry
unfoldable pub own_part : (defect : ℕ) → ConditionHead → Text
own_part defect (literal_head truth) = []
own_part defect (many_head op count) = []
own_part defect negation_head = []
own_part defect (one_head op) = []
own_part defect (two_head op) = []
own_part defect (comparison_head which) = []
own_part defect (quantifier_head op bind) = at_quantifier defect op
