-- `json_value::lay_held` and `json_value::lay_within` meet their contracts.
use Rattle.json_value.proofs.Laying.{Leads}
use Prim.Native.Nat.{◌+◌, ◌*◌, ◌-◌}
use Rattle.json_value.proofs.+lay_held_lay_within.Given as goal

abbrev pub decreases-lay_held : goal.decreases-lay_held
decreases-lay_held l = 2 * (l.end - l.i) + 1

abbrev pub decreases-lay_within : goal.decreases-lay_within
decreases-lay_within l = 2 * (l.end - l.i)

abbrev pub invariant-lay_held-loop-j : goal.invariant-lay_held-loop-j
invariant-lay_held-loop-j l = Leads l.rule l.words l.keys l.i l.end l.initial.out l.at l.j l.out l.o

abbrev pub decreases-lay_held-loop-j : goal.decreases-lay_held-loop-j
decreases-lay_held-loop-j l = l.end - l.j
