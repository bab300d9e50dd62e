-- `text::order::same_bytes` meets its contract. However the bytes from `i` on compare, so do the texts.
use Prim.Native.Nat.{◌≤◌, ◌-◌}
use lib.ListN.{length}
use Rattle.text.proofs.Comparing.{Goes}
use Rattle.text.proofs.order.same_bytes.Given as goal

abbrev pub invariant-loop-i : goal.invariant-loop-i
invariant-loop-i l = Goes l.a l.b l.i
