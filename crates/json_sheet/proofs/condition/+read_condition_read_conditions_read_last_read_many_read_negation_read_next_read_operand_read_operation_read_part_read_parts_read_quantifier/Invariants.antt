-- The readers of conditions, which call each other. Each measure is eight times the nesting that is left, and a little more for those that call another at the same nesting.
use mathlib.Core.List.{List, [], ◌∷◌}
use lib.ListN.{length}
use Rattle.sheet.specs.Operators as Operators
use Rattle.definition.specs.Tree.{Condition}
use Rattle.definition.specs.Write.{write_condition}
use Rattle.json_text.specs.Shaped.{many_in}
use Rattle.json_rule.specs.Streamed.{streamed}
use Rattle.json_sheet.specs.Places.{entries_of_conditions, count_of_conditions_from}
use Rattle.json_sheet.proofs.Siblings.{Walking}
use Prim.Native.Nat.{◌+◌, ◌*◌, ◌-◌}
use Rattle.json_sheet.proofs.condition.+read_condition_read_conditions_read_last_read_many_read_negation_read_next_read_operand_read_operation_read_part_read_parts_read_quantifier.Given as goal

abbrev pub decreases-read_condition : goal.decreases-read_condition
decreases-read_condition l = 8 * l.depth

abbrev pub decreases-read_conditions : goal.decreases-read_conditions
decreases-read_conditions l = 8 * l.depth + 1

abbrev pub decreases-read_last : goal.decreases-read_last
decreases-read_last l = 8 * l.depth + 3

abbrev pub decreases-read_many : goal.decreases-read_many
decreases-read_many l = 8 * l.depth + 5

abbrev pub decreases-read_negation : goal.decreases-read_negation
decreases-read_negation l = 8 * l.depth + 5

abbrev pub decreases-read_next : goal.decreases-read_next
decreases-read_next l = 8 * l.depth + 3

abbrev pub decreases-read_operand : goal.decreases-read_operand
decreases-read_operand l = 8 * l.depth + 6

abbrev pub decreases-read_operation : goal.decreases-read_operation
decreases-read_operation l = 8 * l.depth + 7

abbrev pub decreases-read_part : goal.decreases-read_part
decreases-read_part l = 8 * l.depth + 2

abbrev pub decreases-read_parts : goal.decreases-read_parts
decreases-read_parts l = 8 * l.depth + 4

abbrev pub decreases-read_quantifier : goal.decreases-read_quantifier
decreases-read_quantifier l = 8 * l.depth + 5

abbrev pub invariant-read_conditions-loop-next : goal.invariant-read_conditions-loop-next
invariant-read_conditions-loop-next l = Walking (streamed l.depth) (many_in (streamed l.depth)) (λ (c : Condition) (cs : List Condition). c ∷ cs) [] 0x5D write_condition entries_of_conditions count_of_conditions_from l.s l.at l.initial.out l.out l.o l.i l.e l.n

abbrev pub decreases-read_conditions-loop-next : goal.decreases-read_conditions-loop-next
decreases-read_conditions-loop-next l = length l.s - l.i
