-- `lines::rule_sheet::plain_stop` meets its contract: test by test.
use borrow.Author.Tests.{eq-eqb, ne_eqb}
use Rattle.lines.proofs.rule_sheet.plain_stop.Goals as goal

pub returns-then-read-eq0 : goal.returns-then-read-eq0
returns-then-read-eq0 c = simp (eq-eqb _ _ c.if-read-eq0.true)

pub returns-else-read-eq0 : goal.returns-else-read-eq0
returns-else-read-eq0 c = simp (ne_eqb _ _ c.if-read-eq0.false)
