use native.Mathlib.Omega.{arith}
use Rattle.schema_edits.proofs.CountSteps.{digit-one, digits_more}
use Rattle.schema_edits.proofs.count.+digits.Goals as goal

-- src/count.rt:31:9
pub returns-then-n-lt10 : goal.returns-then-n-lt10
returns-then-n-lt10 t c = (digit-one c.args.n (omega arith), omega arith)

-- src/count.rt:27:1
pub returns : goal.returns
returns t c = (digits_more c.args.n c.digits.result (omega arith) c.digits.ensures.0, omega arith)
