use Prim.Native.Nat.{◌+◌, ◌*◌}
use Rattle.schema_change.proofs.MemberLaws.{Leads}
use Rattle.schema_change.proofs.field.+compare_elements_compare_fields_compare_members.Given as goal

abbrev pub decreases-compare_elements : goal.decreases-compare_elements
decreases-compare_elements l = 2 * l.depth + 1

abbrev pub decreases-compare_fields : goal.decreases-compare_fields
decreases-compare_fields l = 2 * l.depth

abbrev pub decreases-compare_members : goal.decreases-compare_members
decreases-compare_members l = 2 * l.depth + 1

abbrev pub invariant-compare_members-loop-x : goal.invariant-compare_members-loop-x
invariant-compare_members-loop-x l = Leads l.first l.x l.second l.depth l.initial.now l.initial.xs l.initial.ys l.now l.xs l.ys

abbrev pub decreases-compare_members-loop-x : goal.decreases-compare_members-loop-x
decreases-compare_members-loop-x l = l.xs.left + l.ys.left
