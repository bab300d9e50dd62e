-- `text::order::compare` meets its contract. Both texts start with the same bytes up to `i`.
-- The measure is what is left of the shorter text.
use Prim.Native.Nat.{◌≤◌, ◌-◌}
use Rattle.text.specs.Compares.{SameStart}
use Rattle.text.proofs.order.compare.Given as goal

abbrev pub invariant-loop-i : goal.invariant-loop-i
invariant-loop-i l = (l.i ≤ l.n) × SameStart l.a l.b l.i

abbrev pub decreases-loop-i : goal.decreases-loop-i
decreases-loop-i l = l.n - l.i
