-- `schema_change::place::skip_below` meets its contract: what is left to pass over, from here on, are the entries that the heads so far announced.
-- The place rises with each entry.
use Prim.Native.Nat.{◌-◌}
use lib.ListN.{length}
use Rattle.schema_change.proofs.Skipping.{Skipping}
use Rattle.schema_change.proofs.place.skip_below.Given as goal

abbrev pub invariant-loop-left : goal.invariant-loop-left
invariant-loop-left l = Skipping l.s l.initial.here l.initial.left l.here l.left

abbrev pub decreases-loop-left : goal.decreases-loop-left
decreases-loop-left l = length l.s - l.here.at
