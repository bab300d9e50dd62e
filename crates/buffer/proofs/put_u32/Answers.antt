-- `buffer::put_u32` meets its contract: four bytes, one after the other.
use Rattle.buffer.proofs.Steps.{wrote-number}
use borrow.Author.Rules.{rules}
use Rattle.buffer.proofs.put_u32.Goals as goal

pub returns : goal.returns
returns c = search (wrote-number, rules)
