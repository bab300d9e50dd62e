-- The readers of a condition whose head is read, of a condition among others and of conditions side by side, which call each other: the nesting that is left falls.
-- The loop's invariant: what has been read is right for the whole if what is left is.
use Prim.Native.Nat.{◌-◌, ◌+◌, ◌*◌}
use Rattle.rule.proofs.SiblingLaws.{Passing}
use Rattle.rule.proofs.SiblingKinds.{conditions-kind}
use Rattle.rule.proofs.condition.+read_conditions_read_headed_read_sibling.Given as goal

abbrev pub decreases-read_conditions : goal.decreases-read_conditions
decreases-read_conditions l = 3 * l.depth + 2

abbrev pub decreases-read_headed : goal.decreases-read_headed
decreases-read_headed l = 3 * l.depth

abbrev pub decreases-read_sibling : goal.decreases-read_sibling
decreases-read_sibling l = 3 * l.depth + 1

abbrev pub invariant-read_conditions-loop : goal.invariant-read_conditions-loop
invariant-read_conditions-loop l = Passing (conditions-kind l.s l.depth) l.s l.initial.words l.words tt tt l.count l.count (l.count - l.counter) (l.count - l.counter) l.initial.here l.here
