use Rattle.buffer.proofs.Steps.{wrote-digit, wrote-digits}
use native.Mathlib.Omega.{arith}
use Rattle.buffer.proofs.+put_decimal.Goals as goal

pub returns-then-n-lt10 : goal.returns-then-n-lt10
returns-then-n-lt10 t c = wrote-digit c.args.n (omega arith) c.push.ensures

pub returns : goal.returns
returns t c = wrote-digits c.args.n (omega arith) c.put_decimal-next.ensures c.push-2.ensures
