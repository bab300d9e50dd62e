-- `to_json::condition::lay_conditions` meets its contract.
use Rattle.to_json.proofs.Laying.{Leads}
use Prim.Native.Nat.{◌-◌}
use Rattle.to_json.proofs.condition.+lay_conditions.Given as goal

abbrev pub decreases-lay_conditions : goal.decreases-lay_conditions
decreases-lay_conditions l = l.end - l.i

abbrev pub invariant-loop-j : goal.invariant-loop-j
invariant-loop-j l = Leads l.rule l.words l.i l.end l.initial.out l.at l.j l.out l.o

abbrev pub decreases-loop-j : goal.decreases-loop-j
decreases-loop-j l = l.end - l.j
