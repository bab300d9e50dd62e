-- `json_sheet::comparison::read_last` meets its contract.
use Rattle.json_text.specs.BetweenAt.{MoreAt, EndAt}
use Rattle.json_sheet.specs.Compared.{unread}
use Rattle.json_sheet.proofs.Comparing.{followed, not-followed, otherwise}
use Rattle.json_sheet.proofs.comparison.read_last.Goals as goal

pub returns-in_err-member : goal.returns-in_err-member
returns-in_err-member c = rw c.from_residual.ensures (unread (rw c.in_err-member.was at c.read_part.ensures))

pub read_separator-requires : goal.read_separator-requires
read_separator-requires c = (rw c.in_ok-member.was at c.read_part.ensures).read.within

pub returns-in-More : goal.returns-in-More
returns-in-More c = otherwise (rw c.in_ok-member.was at c.read_part.ensures) (MoreAt 0x7D) (rw c.in-More.is at (rw c.in_ok-read_separator.was at c.read_separator.ensures))

pub returns-in-End : goal.returns-in-End
returns-in-End c = followed (rw c.in_ok-member.was at c.read_part.ensures) (EndAt 0x7D) (rw c.in-End.is at (rw c.in_ok-read_separator.was at c.read_separator.ensures))

pub returns-in_err-read_separator : goal.returns-in_err-read_separator
returns-in_err-read_separator c = rw c.from_residual-in_err-read_separator.ensures (not-followed (rw c.in_ok-member.was at c.read_part.ensures) (MoreAt 0x7D) (rw c.in_err-read_separator.was at c.read_separator.ensures))
