-- `number::grammar::split` meets its contract: the sign, and what follows it.
use Rattle.number.proofs.Reading.{number-empty, number-minus, number-bare}
use Rattle.number.proofs.grammar.split.Goals as goal

pub returns-then-s-eq0 : goal.returns-then-s-eq0
returns-then-s-eq0 c = number-empty _ c.if-s-eq0.true

pub returns-then-s-eq45 : goal.returns-then-s-eq45
returns-then-s-eq45 c = rw (number-minus _ c.if-s-eq0.false c.if-s-eq45.true) c.unsigned.ensures

pub returns : goal.returns
returns c = rw (number-bare _ c.if-s-eq0.false c.if-s-eq45.false) c.unsigned-2.ensures
