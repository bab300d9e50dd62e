use native.Mathlib.Omega.{arith}
use Rattle.buffer.specs.LaidLaws.{laid-digit, laid-digits}
use Rattle.buffer.proofs.lay.+lay_decimal.Goals as goal

pub returns-then-n-lt10 : goal.returns-then-n-lt10
returns-then-n-lt10 t c = laid-digit c.args.n (omega arith) c.lay_byte.ensures

pub returns : goal.returns
returns t c = laid-digits c.args.n (omega arith) (omega arith) c.lay_decimal-next.ensures c.lay_byte-2.ensures
