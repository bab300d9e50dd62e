use Prim.Native.Nat.{◌-◌}
use Rattle.single_check.specs.Settings.{setting_by}
use Rattle.rule_book.proofs.TallySteps.{counting-some, tallying-start, number-low, step_counts, step-passes, step-reads, tallying-step, tallying-end}
use native.Mathlib.Omega.{arith}
use Rattle.rule_book.proofs.tally.tally_sheets.Goals as goal

pub loop-at-init : goal.loop-at-init
loop-at-init c = tallying-start (setting_by c.args.setting) c.requires

pub shape_of-path-in_default : goal.shape_of-path-in_default
shape_of-path-in_default c = c.loop-at.invariant.kept.size

pub shape_of-scratch-in_default : goal.shape_of-scratch-in_default
shape_of-scratch-in_default c = c.loop-at.invariant.front.size

pub returns-in_default : goal.returns-in_default
returns-in_default c =
    let none-there = rw c.in_default.is at c.next_sheet.ensures in
    absurd (counting-some c.loop-at.invariant.numbers c.loop-at-test.true none-there)

pub check_sheet-o-requires : goal.check_sheet-o-requires
check_sheet-o-requires c = omega (arith, c.requires.enough, c.loop-at.invariant.front.size)

pub offset_bounds-counts-number : goal.offset_bounds-counts-number
offset_bounds-counts-number c =
    let sheet = rw c.in-Some.is at c.next_sheet.ensures in
    let ready = c.requires in
    omega (arith, number-low c.loop-at.invariant ready.small ready.room sheet c.bytes_of-sheet.ensures c.check_sheet-o.ensures)

pub bounds-counts-number : goal.bounds-counts-number
bounds-counts-number c =
    let sheet = rw c.in-Some.is at c.next_sheet.ensures in
    let ready = c.requires in
    omega (arith, number-low c.loop-at.invariant ready.small ready.room sheet c.bytes_of-sheet.ensures c.check_sheet-o.ensures)

pub overflow_add-counts : goal.overflow_add-counts
overflow_add-counts c =
    let sheet = rw c.in-Some.is at c.next_sheet.ensures in
    let ready = c.requires in
    omega (arith, c.type_inv.book, step_counts c.loop-at.invariant ready.small ready.room sheet c.bytes_of-sheet.ensures c.check_sheet-o.ensures)

pub bounds-counts-number-in-loop-at : goal.bounds-counts-number-in-loop-at
bounds-counts-number-in-loop-at c =
    let sheet = rw c.in-Some.is at c.next_sheet.ensures in
    let ready = c.requires in
    omega (arith, number-low c.loop-at.invariant ready.small ready.room sheet c.bytes_of-sheet.ensures c.check_sheet-o.ensures)

pub overflow_add-passed : goal.overflow_add-passed
overflow_add-passed c =
    let sheet = rw c.in-Some.is at c.next_sheet.ensures in
    let ready = c.requires in
    omega (arith, c.type_inv.book, step-passes c.loop-at.invariant ready.small ready.room sheet c.bytes_of-sheet.ensures c.check_sheet-o.ensures)

pub overflow_add-sheets : goal.overflow_add-sheets
overflow_add-sheets c =
    let sheet = rw c.in-Some.is at c.next_sheet.ensures in
    let ready = c.requires in
    omega (arith, c.type_inv.book, step-reads c.loop-at.invariant ready.small ready.room sheet c.bytes_of-sheet.ensures c.check_sheet-o.ensures)

pub loop-at-smaller : goal.loop-at-smaller
loop-at-smaller c =
    let sheet = rw c.in-Some.is at c.next_sheet.ensures in
    omega (arith, sheet.past, sheet.within)

pub loop-at-preserved : goal.loop-at-preserved
loop-at-preserved c =
    let sheet = rw c.in-Some.is at c.next_sheet.ensures in
    let ready = c.requires in
    tallying-step c.loop-at.invariant ready.small ready.room sheet c.bytes_of-sheet.ensures c.check_sheet-o.ensures

pub shape_of-path : goal.shape_of-path
shape_of-path c = c.loop-at.invariant.kept.size

pub shape_of-scratch : goal.shape_of-scratch
shape_of-scratch c = c.loop-at.invariant.front.size

pub returns : goal.returns
returns c = tallying-end c.loop-at.invariant (omega arith) c.result-2.ensures
