-- `json_sheet::keys::is_chained` meets its contract: what is right for the chain left is right for all of it.
use Prim.Native.Nat.{◌-◌}
use mathlib.Core.Bool.{Bool}
use Rattle.json_keys.specs.Repeats.{Falls, IsChained}
use Rattle.json_sheet.proofs.keys.is_chained.Given as goal

abbrev pub invariant-loop-x : goal.invariant-loop-x
invariant-loop-x l = Falls l.links l.places l.x × ((r : Bool) → IsChained l.s l.links l.places l.at l.x r → IsChained l.s l.links l.places l.at l.from r)

abbrev pub decreases-loop-x : goal.decreases-loop-x
decreases-loop-x l = l.x
