use Rattle.text.specs.Ascii.{ascii}
use borrow.Author.Tests.{eq-eqb, ne_eqb}
use Rattle.defect_path.proofs.condition.put_side.Goals as goal

pub returns-then-k-eq0 : goal.returns-then-k-eq0
unfolding ascii
returns-then-k-eq0 c = rw (eq-eqb _ 0 c.if-k-eq0.true) c.put.ensures

pub returns : goal.returns
unfolding ascii
returns c = rw (ne_eqb _ 0 c.if-k-eq0.false) c.put-2.ensures
