-- `buffer::lay::recount` meets its contract.
use native.Mathlib.Omega.{arith}
use Rattle.buffer.specs.LaidLaws.{recount-digit, recount-digit-over, recount-over, recount-never, recount-moved}
use Rattle.buffer.proofs.lay.recount.Goals as goal

pub returns-then-at-out : goal.returns-then-at-out
returns-then-at-out c = recount-digit c.args.out.now c.args.at c.args.end c.args.n (omega arith) (omega arith)

pub returns-then-n-lt10 : goal.returns-then-n-lt10
returns-then-n-lt10 c = recount-digit-over c.args.out.now c.args.at c.args.end c.args.n (omega arith) (omega arith)

pub returns-then-out-end : goal.returns-then-out-end
returns-then-out-end c = recount-over c.args.out.now c.args.at c.args.end c.args.n (omega arith) c.tens-more.result c.tens-more.ensures.0 c.past-next.ensures (omega arith)

pub returns-then-out-end-2 : goal.returns-then-out-end-2
returns-then-out-end-2 c = recount-over c.args.out.now c.args.at c.args.end c.args.n (omega arith) c.tens-more.result c.tens-more.ensures.0 c.past-next.ensures (omega arith)

pub returns-then-end-at : goal.returns-then-end-at
returns-then-end-at c = recount-never c.args.out.now c.args.at c.args.end c.args.n (omega arith) c.tens-more.result c.tens-more.ensures.0 c.past-next.ensures (omega arith)

pub returns : goal.returns
returns c = recount-moved c.args.out.now c.args.at c.args.end c.args.n (omega arith) c.tens-more.result c.tens-more.ensures.0 c.past-next.ensures (omega arith) (omega arith) c.shift.ensures c.lay_decimal.ensures
