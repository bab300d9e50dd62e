-- `buffer::lay::lay_byte` meets its contract.
use borrow.Author.Rules.{rules}
use Rattle.buffer.specs.LaidLaws.{laid-byte, byte-over}
use Rattle.buffer.proofs.lay.lay_byte.Goals as goal

pub returns-then-o-out : goal.returns-then-o-out
returns-then-o-out c = search (laid-byte, rules)

pub returns : goal.returns
returns c = search (byte-over, rules)
