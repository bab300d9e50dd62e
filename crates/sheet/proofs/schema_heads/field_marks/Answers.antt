-- `sheet::schema_heads::field_marks` meets its contract: the kind, two marks and the count.
use Rattle.sheet.proofs.Heads.{marks-no-kind, marks-no-open, marks-no-items, marks-no-count, marks-read}
use Rattle.sheet.proofs.schema_heads.field_marks.Goals as goal

pub returns-in_err-kind : goal.returns-in_err-kind
returns-in_err-kind c = rw c.from_residual.ensures (let first = rw c.in_err-kind.was at c.first.ensures in
    marks-no-kind c.args.s.now c.args.at first)

pub returns-in_err-opened : goal.returns-in_err-opened
returns-in_err-opened c = rw c.from_residual-in_err-opened.ensures (let first = rw c.in_ok-kind.was at c.first.ensures in
    let mark = rw c.in_err-opened.was at c.mark.ensures in
    marks-no-open first.0 mark)

pub returns-in_err-items : goal.returns-in_err-items
returns-in_err-items c = rw c.from_residual-in_err-items.ensures (let first = rw c.in_ok-kind.was at c.first.ensures in
    let mark = rw c.in_ok-opened.was at c.mark.ensures in
    let mark2 = rw c.in_err-items.was at c.mark-2.ensures in
    marks-no-items first.0 mark mark2)

pub returns-in_err-count : goal.returns-in_err-count
returns-in_err-count c = rw c.from_residual-in_err-count.ensures (let first = rw c.in_ok-kind.was at c.first.ensures in
    let mark = rw c.in_ok-opened.was at c.mark.ensures in
    let mark2 = rw c.in_ok-items.was at c.mark-2.ensures in
    let item = rw c.in_err-count.was at c.item.ensures in
    marks-no-count first.0 mark mark2 item)

pub returns : goal.returns
returns c =
    let first = rw c.in_ok-kind.was at c.first.ensures in
    let mark = rw c.in_ok-opened.was at c.mark.ensures in
    let mark2 = rw c.in_ok-items.was at c.mark-2.ensures in
    let item = rw c.in_ok-count.was at c.item.ensures in
    (marks-read first.0 mark mark2 item.0, first.2, item.2)
