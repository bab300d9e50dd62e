use Prim.Native.Nat.{◌-◌}
use mathlib.Core.Path.{◌∙◌}
use Rattle.rule_book.specs.Places.{sheet_count}
use Rattle.rule_book.proofs.SheetSteps.{plus_none, count-end, count-more, count_none}
use native.Mathlib.Omega.{arith}
use Rattle.rule_book.proofs.sheets.count_sheets.Goals as goal

pub loop-at-init : goal.loop-at-init
loop-at-init c = (plus_none (sheet_count c.args.file.now), omega arith, omega arith)

pub returns-in_default : goal.returns-in_default
returns-in_default c =
    let l = c.loop-at in
    let bad = rw c.in_default.is at c.next_sheet.ensures in
    count_none l.count c.args.file.now l.at c.loop-at-test.true bad l.invariant.0

pub loop-at-smaller : goal.loop-at-smaller
loop-at-smaller c =
    let sheet = rw c.in-Some.is at c.next_sheet.ensures in
    omega (arith, sheet.past, sheet.within)

pub loop-at-preserved : goal.loop-at-preserved
loop-at-preserved c =
    let l = c.loop-at in
    let sheet = rw c.in-Some.is at c.next_sheet.ensures in
    (l.invariant.0 ∙ count-more l.count sheet, omega (arith, sheet.past), sheet.within)

pub returns : goal.returns
returns c = let l = c.loop-at in l.invariant.0 ∙ count-end l.count c.args.file.now l.at c.loop-at-test.false
