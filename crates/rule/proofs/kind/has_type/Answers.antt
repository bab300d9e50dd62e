-- `rule::kind::has_type` meets its contract.
use Rattle.rule.proofs.KindSteps.{type-byte, type-tested, type-otherwise}
use Rattle.rule.proofs.kind.has_type.Goals as goal

pub returns-then-byte_after-eq86 : goal.returns-then-byte_after-eq86
returns-then-byte_after-eq86 c = let a = c.args in type-tested a.rule.now a.at a.digit c.byte_after.ensures c.if-byte_after-eq86.true (type-byte c.byte_after-then-byte_after-eq86.ensures)

pub returns : goal.returns
returns c = let a = c.args in type-otherwise a.rule.now a.at a.digit c.byte_after.ensures c.if-byte_after-eq86.false
