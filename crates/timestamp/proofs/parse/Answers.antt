-- `timestamp::parse` meets its contract.
use Rattle.timestamp.proofs.Laws.{instant-some, instant-none}
use Rattle.timestamp.proofs.parse.Goals as goal

pub returns-then-is_instant : goal.returns-then-is_instant
returns-then-is_instant c =
    instant-some c.args.s.now c.trim-t.result.now
    c.fields_of-f.result c.trim-t.ensures c.fields_of-f.ensures
    c.is_instant.ensures c.if-is_instant.true

pub returns-else-is_instant : goal.returns-else-is_instant
returns-else-is_instant c =
    instant-none c.args.s.now c.trim-t.result.now
    c.fields_of-f.result c.trim-t.ensures c.fields_of-f.ensures
    c.is_instant.ensures c.if-is_instant.false
