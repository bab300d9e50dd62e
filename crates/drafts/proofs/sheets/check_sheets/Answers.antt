-- `drafts::sheets::check_sheets` meets its contract.
use Rattle.drafts.proofs.SheetSteps.{sheets-checked}
use Rattle.drafts.proofs.sheets.check_sheets.Goals as goal

pub returns : goal.returns
returns c = sheets-checked c.read_schema-read.ensures c.check_marked.ensures
