-- `buffer::lay::lay` meets its contract.
use native.Mathlib.Omega.{arith}
use borrow.Author.Rules.{rules}
use Rattle.buffer.specs.LaidLaws.{laid-past, laid-over, laid-copied}
use Rattle.buffer.proofs.lay.lay.Goals as goal

pub returns-then-out-o : goal.returns-then-out-o
returns-then-out-o c = search (laid-past, rules)

pub returns-then-out-o-2 : goal.returns-then-out-o-2
returns-then-out-o-2 c = search (laid-over, rules)

pub returns : goal.returns
returns c =
    laid-copied c.args.out.now c.args.bytes.now c.args.o (omega arith) (omega arith) c.copy.ensures
