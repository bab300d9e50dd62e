-- `buffer::read_u32` meets its contract: four bytes stay below 2 ^ 32.
use Rattle.buffer.specs.Bytes.{number_at}
use borrow.Author.Rules.{rules}
use Rattle.buffer.proofs.read_u32.Goals as goal

pub returns : goal.returns
unfolding number_at
returns c = search rules
