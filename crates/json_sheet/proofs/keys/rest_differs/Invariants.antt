-- `json_sheet::keys::rest_differs` meets its contract: what is right for the keys left is right for all of them.
use Prim.Native.Nat.{◌-◌, ◌≤◌}
use lib.ListN.{length}
use Rattle.json_keys.specs.TableLaws.{Resting}
use Rattle.json_sheet.proofs.keys.rest_differs.Given as goal

abbrev pub invariant-loop-from : goal.invariant-loop-from
invariant-loop-from l = (l.i ≤ length l.s) × Resting l.s l.heads l.links l.places l.from l.i

abbrev pub decreases-loop-from : goal.decreases-loop-from
decreases-loop-from l = length l.s - l.i
