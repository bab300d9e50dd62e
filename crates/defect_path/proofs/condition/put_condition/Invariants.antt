use Prim.Native.Nat.{◌-◌}
use mathlib.Core.Path.{◌≡◌}
use lib.ListN.{length}
use Rattle.defect_path.specs.Descent.{ConditionLeads}
use Rattle.defect_path.proofs.condition.put_condition.Given as goal

abbrev pub invariant-loop-word : goal.invariant-loop-word
invariant-loop-word l = ConditionLeads l.rule l.words l.number l.target l.i l.initial.path l.at l.word l.path l.next × (length l.path ≡ length l.initial.path)

abbrev pub decreases-loop-word : goal.decreases-loop-word
decreases-loop-word l = l.target - l.word
