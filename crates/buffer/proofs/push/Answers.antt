-- `buffer::push` meets its contract.
use Rattle.buffer.proofs.Steps.{wrote-byte, wrote-full}
use borrow.Author.Rules.{rules}
use Rattle.buffer.proofs.push.Goals as goal

pub returns-then-at-out : goal.returns-then-at-out
returns-then-at-out c = search (wrote-byte, rules)

pub returns : goal.returns
returns c = search (wrote-full, rules)
