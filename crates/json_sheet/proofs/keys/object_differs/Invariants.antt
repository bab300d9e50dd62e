-- `json_sheet::keys::object_differs` meets its contract: what is right for the keys left is right for all of them.
use Prim.Native.Nat.{◌-◌, ◌≤◌}
use mathlib.Core.Bool.{Bool}
use mathlib.Core.Path.{◌≡◌}
use lib.ListN.{length}
use Rattle.json_keys.specs.Repeats.{batch, NoneTwice, ObjectIs}
use Rattle.json_sheet.proofs.keys.object_differs.Given as goal

abbrev pub invariant-loop-next : goal.invariant-loop-next
invariant-loop-next l =
    (length l.links ≡ batch) × (length l.places ≡ batch) × (l.i ≤ length l.s) × ((r : Bool) → NoneTwice l.s l.i r → ObjectIs l.s l.at r)

abbrev pub decreases-loop-next : goal.decreases-loop-next
decreases-loop-next l = length l.s - l.i
