-- `number::grammar::exp` meets its contract: each way through the code is a law of the rule `exp` at a place.
use Rattle.number.proofs.Reading.{exp-end, exp-small, exp-large, exp-other}
use Rattle.number.proofs.grammar.exp.Goals as goal

pub returns-then-s-at : goal.returns-then-s-at
returns-then-s-at c = (exp-end _ _ c.if-s-at.true, c.requires)

pub returns-then-s-at-eq101 : goal.returns-then-s-at-eq101
returns-then-s-at-eq101 c = rw (exp-small _ _ c.if-s-at.false c.if-s-at-eq101.true) c.power.ensures

pub returns-then-s-at-eq69 : goal.returns-then-s-at-eq69
returns-then-s-at-eq69 c = rw (exp-large _ _ c.if-s-at.false c.if-s-at-eq101.false c.if-s-at-eq69.true) c.power-then-s-at-eq69.ensures

pub returns : goal.returns
returns c = exp-other _ _ c.if-s-at.false c.if-s-at-eq101.false c.if-s-at-eq69.false
