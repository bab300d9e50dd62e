-- `number::grammar::power` meets its contract: each way through the code is a law of the rule `power` at a place.
use Rattle.number.proofs.Reading.{power-end, power-minus, power-plus, power-bare}
use Rattle.number.proofs.grammar.power.Goals as goal

pub returns-then-s-at : goal.returns-then-s-at
returns-then-s-at c = power-end _ _ c.if-s-at.true

pub returns-then-s-at-eq45 : goal.returns-then-s-at-eq45
returns-then-s-at-eq45 c = rw (power-minus _ _ c.if-s-at.false c.if-s-at-eq45.true) c.last.ensures

pub returns-then-s-at-eq43 : goal.returns-then-s-at-eq43
returns-then-s-at-eq43 c = rw (power-plus _ _ c.if-s-at.false c.if-s-at-eq45.false c.if-s-at-eq43.true) c.last-then-s-at-eq43.ensures

pub returns : goal.returns
returns c = rw (power-bare _ _ c.if-s-at.false c.if-s-at-eq45.false c.if-s-at-eq43.false) c.last-2.ensures
