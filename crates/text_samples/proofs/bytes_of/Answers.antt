use native.Mathlib.Omega.{arith}
use lib.ListN.{length-set}
use Rattle.text_samples.proofs.bytes_of.Goals as goal

pub loop-at-preserved : goal.loop-at-preserved
loop-at-preserved c = simp length-set (omega arith)
