-- `sheet::schema_heads::holder_head` meets its contract: a mark and a count.
use Rattle.sheet.proofs.Heads.{holder-no-mark, holder-no-count, holder-reads}
use Rattle.sheet.proofs.schema_heads.holder_head.Goals as goal

pub returns-in_err-opened : goal.returns-in_err-opened
returns-in_err-opened c = rw c.from_residual.ensures (let mark = rw c.in_err-opened.was at c.mark.ensures in
    holder-no-mark c.args.s.now c.args.at mark)

pub returns-in_err-count : goal.returns-in_err-count
returns-in_err-count c = rw c.from_residual-in_err-count.ensures (let mark = rw c.in_ok-opened.was at c.mark.ensures in
    let item = rw c.in_err-count.was at c.item.ensures in
    holder-no-count mark item)

pub returns : goal.returns
returns c =
    let mark = rw c.in_ok-opened.was at c.mark.ensures in
    let item = rw c.in_ok-count.was at c.item.ensures in
    (holder-reads mark item.0, item.2)
