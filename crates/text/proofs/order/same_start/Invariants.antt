-- `text::order::same_start` meets its contract. The bytes passed are the same in both texts.
use Prim.Native.Nat.{◌≤◌, ◌-◌}
use Rattle.text.specs.Compares.{SameStart}
use Rattle.text.proofs.order.same_start.Given as goal

abbrev pub invariant-loop-i : goal.invariant-loop-i
invariant-loop-i l = (l.i ≤ l.n) × SameStart l.a l.b l.i

abbrev pub decreases-loop-i : goal.decreases-loop-i
decreases-loop-i l = l.n - l.i
