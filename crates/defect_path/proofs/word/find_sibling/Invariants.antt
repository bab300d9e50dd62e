use Prim.Native.Nat.{◌+◌, ◌-◌}
use Rattle.defect_path.proofs.Words.{Passing}
use Rattle.defect_path.proofs.word.find_sibling.Given as goal

abbrev pub invariant-loop-end : goal.invariant-loop-end
invariant-loop-end l = Passing l.words l.target l.from l.word l.index l.end

abbrev pub decreases-loop-end : goal.decreases-loop-end
decreases-loop-end l = l.target + 1 - l.word
