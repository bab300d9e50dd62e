-- The readers of a field, of its element and of siblings meet their contracts. The depth that is left falls from a field to its children;
-- siblings are read in a loop, whose invariant says what was read so far and what the whole reads once the rest is known.
use Prim.Native.Nat.{◌+◌, ◌*◌}
use Rattle.schema.specs.Fields.{cursor_of}
use Rattle.schema.proofs.MemberSteps.{Sofar}
use Rattle.schema.proofs.field.+read_element_read_field_read_members.Given as goal

abbrev pub decreases-read_element : goal.decreases-read_element
decreases-read_element l = 3 * l.depth + 2

abbrev pub decreases-read_field : goal.decreases-read_field
decreases-read_field l = 3 * l.depth

abbrev pub decreases-read_members : goal.decreases-read_members
decreases-read_members l = 3 * l.depth + 1

abbrev pub invariant-read_members-loop-i : goal.invariant-read_members-loop-i
invariant-read_members-loop-i l = Sofar l.sheet l.initial.words l.words l.depth l.first l.count (cursor_of l.next l.used l.at) l.to l.before l.i
