-- `json_sheet::value::read_text` meets its contract.
use Rattle.json_sheet.proofs.Scalars.{string-unread, string-given}
use Rattle.json_sheet.proofs.value.read_text.Goals as goal

pub returns-in_err-len : goal.returns-in_err-len
returns-in_err-len c = rw c.from_residual.ensures (string-unread c.args.s.now c.args.at (rw c.in_err-len.was at c.read_string.ensures))

pub returns : goal.returns
returns c = string-given (rw c.in_ok-len.was at c.read_string.ensures) c.lay_headed.ensures
