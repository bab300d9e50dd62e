-- `scope::name::one_of` meets its contract.
use Rattle.scope.proofs.NameLaws.{SoFar}
use Rattle.scope.proofs.name.one_of.Given as goal

abbrev pub invariant-loop-other : goal.invariant-loop-other
invariant-loop-other l = SoFar l.kind l.kinds l.other-index
