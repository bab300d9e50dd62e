use Rattle.vectors.proofs.Compared.{tally}
use native.Mathlib.Omega.{arith}
use Rattle.vectors.proofs.run.Goals as goal

pub overflow_add-agreed : goal.overflow_add-agreed
overflow_add-agreed g c = omega (arith, tally c.in-Replayed.agrees c.in_ok-agreed-in-Replayed.ensures.ok)

pub loop-cases-preserved : goal.loop-cases-preserved
loop-cases-preserved g c =
    let left = rw c.in-Replayed.is at c.in_ok-s.ensures.ok in
    (left.within, omega (arith, tally c.in-Replayed.agrees c.in_ok-agreed-in-Replayed.ensures.ok), omega (arith, c.advance.auto))
