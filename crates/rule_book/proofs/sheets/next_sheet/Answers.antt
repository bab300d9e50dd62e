-- `rule_book::sheets::next_sheet` meets its contract: a length, its comma, and so many bytes as are left.
use Rattle.rule_book.proofs.SheetSteps.{sheet-no-length, sheet-no-comma, sheet-short, sheet-reads}
use native.Mathlib.Omega.{arith}
use Rattle.rule_book.proofs.sheets.next_sheet.Goals as goal

pub decimal-requires : goal.decimal-requires
decimal-requires c = omega (arith, c.type_inv)

pub returns-in_err-len : goal.returns-in_err-len
returns-in_err-len c = rw c.from_residual.ensures (let bad = rw c.in_err-len.was at c.decimal.ensures in
    sheet-no-length c.args.file.now c.args.at bad)

pub overflow_add-start : goal.overflow_add-start
overflow_add-start c =
    let comma = rw c.if-starts_with.true at c.starts_with.ensures in
    omega (arith, comma.within)

pub overflow_sub-file : goal.overflow_sub-file
overflow_sub-file c =
    let comma = rw c.if-starts_with.true at c.starts_with.ensures in
    omega (arith, comma.within)

pub overflow_add-result : goal.overflow_add-result
overflow_add-result c =
    let comma = rw c.if-starts_with.true at c.starts_with.ensures in
    omega (arith, comma.within)

pub returns-then-len-file : goal.returns-then-len-file
returns-then-len-file c =
    let size = rw c.in_ok-len.was at c.decimal.ensures in
    let comma = rw c.if-starts_with.true at c.starts_with.ensures in
    sheet-reads size comma c.if-len-file.true

pub returns-else-len-file : goal.returns-else-len-file
returns-else-len-file c =
    let size = rw c.in_ok-len.was at c.decimal.ensures in
    let comma = rw c.if-starts_with.true at c.starts_with.ensures in
    sheet-short size comma (omega arith)

pub returns-else-starts_with : goal.returns-else-starts_with
returns-else-starts_with c =
    let size = rw c.in_ok-len.was at c.decimal.ensures in
    let none-there = rw c.if-starts_with.false at c.starts_with.ensures in
    sheet-no-comma size none-there
