-- `drafts::refusals::refused_table` meets its contract.
use Rattle.drafts.proofs.LentSteps.{table-due, table-sound}
use Rattle.drafts.proofs.refusals.refused_table.Goals as goal

pub returns-in-Err : goal.returns-in-Err
returns-in-Err c = table-due _ _ (rw c.in-Err.is at c.settle.ensures)

pub returns-in-Ok : goal.returns-in-Ok
returns-in-Ok c = table-sound _ _ (rw c.in-Ok.is at c.settle.ensures)
