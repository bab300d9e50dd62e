use Rattle.message.specs.Message.{names_value}
use borrow.Author.Tests.{ne_eqb}
use Rattle.defect_message.proofs.settled.names_value.Goals as goal

pub returns-then-number-eq14 : goal.returns-then-number-eq14
unfolding names_value
returns-then-number-eq14 c = rw c.if-number-eq14.true

pub returns-then-number-eq19 : goal.returns-then-number-eq19
unfolding names_value
returns-then-number-eq19 c = rw c.if-number-eq19.true

pub returns : goal.returns
unfolding names_value
returns c = rw (ne_eqb _ 14 c.if-number-eq14.false, ne_eqb _ 19 c.if-number-eq19.false)
