-- `json_sheet::comparison::middle_of` meets its contract.
use borrow.Author.Tests.{eq-eqb, ne_eqb}
use Rattle.json_sheet.proofs.comparison.middle_of.Goals as goal

pub returns-then-first-eq-RIGHT : goal.returns-then-first-eq-RIGHT
returns-then-first-eq-RIGHT c = rw (eq-eqb c.args.first 4 c.if-first-eq-RIGHT.true)

pub returns-then-last-eq-LEFT : goal.returns-then-last-eq-LEFT
returns-then-last-eq-LEFT c = rw (ne_eqb c.args.first 4 c.if-first-eq-RIGHT.false, eq-eqb c.args.last 1 c.if-last-eq-LEFT.true)

pub returns : goal.returns
returns c = rw (ne_eqb c.args.first 4 c.if-first-eq-RIGHT.false, ne_eqb c.args.last 1 c.if-last-eq-LEFT.false)
