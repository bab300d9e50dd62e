-- `text::order::compare_from` meets its contract. However the bytes from `i` on compare, so do the texts.
use Prim.Native.Nat.{◌≤◌, ◌-◌}
use Rattle.text.proofs.Comparing.{Goes}
use Rattle.text.proofs.order.compare_from.Given as goal

abbrev pub invariant-loop-i : goal.invariant-loop-i
invariant-loop-i l = Goes l.a l.b l.i
