-- `drafts::marks::mark_of` meets its contract.
use Rattle.drafts.proofs.MarkSteps.{mark-yes, mark-no}
use Rattle.drafts.proofs.marks.mark_of.Goals as goal

pub returns-then-b : goal.returns-then-b
returns-then-b c = mark-yes _ c.if-b.true

pub returns-else-b : goal.returns-else-b
returns-else-b c = mark-no _ c.if-b.false
