use native.Mathlib.Omega.{arith}
use Rattle.buffer.specs.LaidLaws.{one-digit, more-digits}
use Rattle.buffer.proofs.lay.+tens.Goals as goal

pub returns-then-n-lt10 : goal.returns-then-n-lt10
returns-then-n-lt10 t c = (one-digit c.args.n (omega arith), omega arith)

pub returns : goal.returns
returns t c = (more-digits c.args.n c.tens.result (omega arith) c.tens.ensures.0, omega arith)
