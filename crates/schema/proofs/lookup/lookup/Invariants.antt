-- `schema::lookup::lookup` meets its contract. The invariant: only members from `low` up to `high` may have the name.
use Prim.Native.Nat.{◌-◌}
use Rattle.schema.proofs.Halving.{Narrowed}
use Rattle.schema.proofs.lookup.lookup.Given as goal

abbrev pub invariant-loop-low : goal.invariant-loop-low
invariant-loop-low l = Narrowed l.sheet l.words l.first l.count l.name l.low l.high

abbrev pub decreases-loop-low : goal.decreases-loop-low
decreases-loop-low l = l.high - l.low
