-- `json_text::string::is_plain` meets its contract.
use Rattle.json_text.proofs.Scanning.{is_plain}
use Rattle.json_text.proofs.string.is_plain.Goals as goal

pub returns : goal.returns
returns c t = is_plain _ t
