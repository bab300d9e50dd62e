use native.Mathlib.Omega.{arith}
use Rattle.name_table.proofs.Marks.{entry-no-letter, entry-no-kind, entry-no-marks, entry-no-end, entry-reads}
use Rattle.name_table.proofs.read.table_entry.Goals as goal

pub overflow_add-at : goal.overflow_add-at
overflow_add-at c =
    let letter = rw c.if-starts_with.true at c.starts_with.ensures in
    omega (arith, letter.within)

pub returns-in_err-behind : goal.returns-in_err-behind
returns-in_err-behind c = rw c.from_residual.ensures (let letter = rw c.if-starts_with.true at c.starts_with.ensures in
    let number = rw c.in_err-behind.was at c.item.ensures in
    entry-no-kind c.args.kind letter number)

pub returns-in_err-row : goal.returns-in_err-row
returns-in_err-row c = rw c.from_residual-in_err-row.ensures (let letter = rw c.if-starts_with.true at c.starts_with.ensures in
    let number = rw c.in_ok-behind.was at c.item.ensures in
    let marks = rw c.in_err-row.was at c.row_marks.ensures in
    entry-no-marks c.args.kind letter number.0 marks)

pub overflow_add-result : goal.overflow_add-result
overflow_add-result c =
    let last = rw c.if-starts_with-2.true at c.starts_with-then-starts_with.ensures in
    omega (arith, last.within)

pub returns-then-starts_with-2 : goal.returns-then-starts_with-2
returns-then-starts_with-2 c =
    let letter = rw c.if-starts_with.true at c.starts_with.ensures in
    let number = rw c.in_ok-behind.was at c.item.ensures in
    let marks = rw c.in_ok-row.was at c.row_marks.ensures in
    let last = rw c.if-starts_with-2.true at c.starts_with-then-starts_with.ensures in
    entry-reads c.args.kind letter number.0 marks last

pub returns-else-starts_with-2 : goal.returns-else-starts_with-2
returns-else-starts_with-2 c =
    let letter = rw c.if-starts_with.true at c.starts_with.ensures in
    let number = rw c.in_ok-behind.was at c.item.ensures in
    let marks = rw c.in_ok-row.was at c.row_marks.ensures in
    let last = rw c.if-starts_with-2.false at c.starts_with-then-starts_with.ensures in
    entry-no-end c.args.kind letter number.0 marks last

pub returns-else-starts_with : goal.returns-else-starts_with
returns-else-starts_with c =
    let letter = rw c.if-starts_with.false at c.starts_with.ensures in
    entry-no-letter c.args.kind c.args.s.now c.args.at letter
