-- `scope::binder::find_binder` meets its contract.
use Prim.Native.Nat.{◌-◌, ◌≤◌}
use Rattle.scope.proofs.BinderLaws.{Searched}
use Rattle.scope.proofs.binder.find_binder.Given as goal

abbrev pub invariant-loop-i : goal.invariant-loop-i
invariant-loop-i l = (l.count ≤ 31) × Searched l.rule l.name l.binders l.count (l.count - l.i)
