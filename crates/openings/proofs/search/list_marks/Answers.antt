-- `openings::search::list_marks` meets its contract.
use Rattle.openings.proofs.SearchSteps.{marks-listed, none-listed}
use Rattle.openings.proofs.search.list_marks.Goals as goal

pub returns-then-find_marks : goal.returns-then-find_marks
returns-then-find_marks c = marks-listed (rw c.if-find_marks.true at c.find_marks.ensures) c.put_marks-count.ensures

pub returns : goal.returns
returns c = none-listed (rw c.if-find_marks.false at c.find_marks.ensures)
