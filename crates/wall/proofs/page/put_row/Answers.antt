-- `wall::page::put_row` meets its contract: after the last sheet, and at one.
use Rattle.wall.proofs.PageSteps.{row-blank, row_line}
use native.Mathlib.Omega.{arith}
use Rattle.wall.proofs.page.put_row.Goals as goal

pub returns-in_default : goal.returns-in_default
returns-in_default c = let gone = rw c.in_default.is at c.next_sheet.ensures in
    row-blank c.args.serial c.requires gone c.put_blank_line-line.ensures

pub check_sheet-o-requires : goal.check_sheet-o-requires
check_sheet-o-requires c = omega (arith, c.requires.enough)

pub returns : goal.returns
returns c = let there = rw c.in-Some.is at c.next_sheet.ensures in
    row_line c.args.serial c.requires there c.bytes_of.ensures c.check_sheet-o.ensures c.put_line-line.ensures c.one_if_accepted.ensures
