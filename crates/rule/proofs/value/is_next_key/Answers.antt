-- `rule::value::is_next_key` meets its contract: the first key may be any, a later one is compared with the key before it.
use Rattle.text.specs.Order.{follows}
use Rattle.text.specs.Parts.{optional_of}
use Rattle.rule.proofs.KeyLaws.{key-follows}
use Rattle.rule.proofs.value.is_next_key.Goals as goal

pub returns-in_default : goal.returns-in_default
unfolding follows optional_of
returns-in_default c = rw c.in_default.is

pub returns-in-Less : goal.returns-in-Less
returns-in-Less c = key-follows c.args.s.now c.args.key c.in-Some.is c.bytes_of.ensures c.bytes_of-2.ensures (rw c.in-Less.is at c.compare.ensures)

pub returns-in-Equal : goal.returns-in-Equal
returns-in-Equal c = key-follows c.args.s.now c.args.key c.in-Some.is c.bytes_of.ensures c.bytes_of-2.ensures (rw c.in-Equal.is at c.compare.ensures)

pub returns-in-Greater : goal.returns-in-Greater
returns-in-Greater c = key-follows c.args.s.now c.args.key c.in-Some.is c.bytes_of.ensures c.bytes_of-2.ensures (rw c.in-Greater.is at c.compare.ensures)
