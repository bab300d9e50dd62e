-- `open_marks::open_mark` meets its contract.
use native.Mathlib.Omega.{arith}
use Rattle.open_marks.proofs.Sheets.{mark-opened}
use Rattle.open_marks.proofs.open_mark.Goals as goal

pub returns : goal.returns
returns c = mark-opened c.mark_place-place.ensures (omega arith) c.push.ensures
