use Rattle.text.specs.Ascii.{ascii}
use borrow.Author.Tests.{ne_eqb}
use Rattle.defect_message.proofs.settled.lay_side.Goals as goal

pub returns-then-detail-eq1 : goal.returns-then-detail-eq1
unfolding ascii
returns-then-detail-eq1 c = rw c.if-detail-eq1.true c.lay.ensures

pub returns : goal.returns
unfolding ascii
returns c = rw (ne_eqb _ 1 c.if-detail-eq1.false) c.lay-2.ensures
