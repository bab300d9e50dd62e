-- The readers of a value, of what it holds and of siblings, which call each other. Each measure is four times the nesting that is left, and a little more for those that call another at the same nesting.
use mathlib.Core.List.{◌++◌}
use lib.ListN.{length}
use Rattle.sheet.specs.Write.{write_key_head}
use Rattle.definition.specs.Write.{write_value}
use Rattle.json_text.specs.Json.{Text, Json, no_elements, element, Members, no_members, member}
use Rattle.json_text.specs.Grammar.{elements_in, members_in, value}
use Rattle.json_rule.specs.Shape.{value_of}
use Rattle.json_sheet.specs.Places.{member_of, entries_of_elements, count_of_elements, entries_of_members, count_of_members}
use Rattle.json_sheet.proofs.Siblings.{Walking}
use Prim.Native.Nat.{◌+◌, ◌*◌, ◌-◌}
use Rattle.json_sheet.proofs.value.+read_array_read_elements_read_member_read_members_read_object_read_value.Given as goal

abbrev pub decreases-read_array : goal.decreases-read_array
decreases-read_array l = 4 * l.depth + 3

abbrev pub decreases-read_elements : goal.decreases-read_elements
decreases-read_elements l = 4 * l.depth + 2

abbrev pub decreases-read_member : goal.decreases-read_member
decreases-read_member l = 4 * l.depth + 1

abbrev pub decreases-read_members : goal.decreases-read_members
decreases-read_members l = 4 * l.depth + 2

abbrev pub decreases-read_object : goal.decreases-read_object
decreases-read_object l = 4 * l.depth + 3

abbrev pub decreases-read_value : goal.decreases-read_value
decreases-read_value l = 4 * l.depth

abbrev pub invariant-read_elements-loop-next : goal.invariant-read_elements-loop-next
invariant-read_elements-loop-next l = Walking (value l.depth) (elements_in (value l.depth)) element no_elements 0x5D (λ (v : Json). write_value (value_of v)) entries_of_elements count_of_elements l.s l.at l.initial.out l.out l.o l.i l.e l.n

abbrev pub decreases-read_elements-loop-next : goal.decreases-read_elements-loop-next
decreases-read_elements-loop-next l = length l.s - l.i

abbrev pub invariant-read_members-loop-next : goal.invariant-read_members-loop-next
invariant-read_members-loop-next l = Walking (member_of (value l.depth)) (members_in (value l.depth)) (λ (a : Text × Json) (t : Members). member a.0 a.1 t) no_members 0x7D (λ (a : Text × Json). write_key_head a.0 ++ write_value (value_of a.1)) entries_of_members count_of_members l.s l.at l.initial.out l.out l.o l.i l.e l.n

abbrev pub decreases-read_members-loop-next : goal.decreases-read_members-loop-next
decreases-read_members-loop-next l = length l.s - l.i
