-- `sheet::entry::mark` meets its contract: a field that is 0 or 1.
use Rattle.sheet.proofs.Chains.{mark-refused, mark-reads}
use Rattle.sheet.proofs.entry.mark.Goals as goal

pub returns-in_err-n : goal.returns-in_err-n
returns-in_err-n c = rw c.from_residual.ensures (let item = rw c.in_err-n.was at c.item.ensures in
    mark-refused c.args.s.now c.args.at item)

pub returns : goal.returns
returns c =
    let item = rw c.in_ok-n.was at c.item.ensures in
    mark-reads item.0
