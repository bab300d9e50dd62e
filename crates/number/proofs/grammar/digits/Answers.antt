-- `number::grammar::digits` meets its contract: there is a digit exactly where the run ends further on.
use Rattle.number.proofs.Reading.{digits-some, digits-none}
use Rattle.number.proofs.grammar.digits.Goals as goal

pub returns-then-at-end : goal.returns-then-at-end
returns-then-at-end c = digits-some _ _ _ c.run_end-end.ensures c.if-at-end.true

pub returns-else-at-end : goal.returns-else-at-end
returns-else-at-end c = digits-none _ _ _ c.run_end-end.ensures c.if-at-end.false
