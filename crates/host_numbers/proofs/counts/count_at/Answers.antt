-- `host_numbers::counts::count_at` meets its contract.
use Rattle.host_numbers.proofs.CountSteps.{count-missing, count-there}
use native.Mathlib.Omega.{arith}
use Rattle.host_numbers.proofs.counts.count_at.Goals as goal

pub returns-then-res-at : goal.returns-then-res-at
returns-then-res-at c = count-missing c.args.index c.args.res.now c.if-res-at.true

pub returns : goal.returns
returns c = count-there c.args.index c.args.res.now (omega arith) c.read_u32.ensures c.read_u32-2.ensures
