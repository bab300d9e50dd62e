use Rattle.wall.proofs.LineSteps.{no-column, one-digit, last-digit}
use native.Mathlib.Omega.{arith}
use Rattle.wall.proofs.line.+put_column.Goals as goal

pub returns-then-columns-eq0 : goal.returns-then-columns-eq0
returns-then-columns-eq0 t c = no-column _ c.args.n _ _ (omega arith)

pub returns-then-n-lt10 : goal.returns-then-n-lt10
returns-then-n-lt10 t c = one-digit c.args.columns c.args.n c.if-columns-eq0.false (omega arith) c.put_blanks-next.ensures c.push.ensures

pub returns : goal.returns
returns t c = last-digit c.args.columns c.args.n c.if-columns-eq0.false (omega arith) c.put_column-next.ensures c.push-2.ensures
