use Rattle.text.specs.Ascii.{ascii}
use borrow.Author.Tests.{eq-eqb, ne_eqb}
use Rattle.buffer.specs.WroteLaws.{wrote_then}
use Rattle.defect_path.proofs.condition.put_scope.Goals as goal

pub returns-then-k-eq0 : goal.returns-then-k-eq0
unfolding ascii
returns-then-k-eq0 c = rw (eq-eqb _ 0 c.if-k-eq0.true) (wrote_then c.put_operator-next.ensures c.put.ensures)

pub returns : goal.returns
unfolding ascii
returns c = rw (ne_eqb _ 0 c.if-k-eq0.false) (wrote_then c.put_operator-next.ensures c.put-2.ensures)
