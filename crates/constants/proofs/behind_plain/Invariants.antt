-- `constants::behind_plain` meets its contract: at each turn no condition passed has a mark.
use Prim.Native.Nat.{◌-◌}
use Rattle.constants.specs.Marks.{Unmarked}
use Rattle.constants.proofs.behind_plain.Given as goal

abbrev pub invariant-loop-i : goal.invariant-loop-i
invariant-loop-i l = Unmarked l.rule l.words l.start l.end l.i

abbrev pub decreases-loop-i : goal.decreases-loop-i
decreases-loop-i l = l.end - l.i
