-- `drafts::step::draft_remove` meets its contract: each way to its end.
use native.Mathlib.Omega.{arith}
use mathlib.Core.Path.{refl}
use Rattle.text.specs.Parts.{part_of}
use Rattle.drafts.proofs.CallSteps.{passes, count-few, records-room}
use Rattle.drafts.proofs.StepSteps.{step-early, remove-sheets, remove-missing, remove-done, next_small}
use Rattle.drafts.proofs.step.draft_remove.Goals as goal

pub returns-then-number-ne0 : goal.returns-then-number-ne0
returns-then-number-ne0 c = step-early _ _ _ _ _ _ _ _ _ c.refused_early-number.ensures c.if-number-ne0.true c.refused.ensures

pub read_sheets-number-requires : goal.read_sheets-number-requires
read_sheets-number-requires c = let a = c.args in (count-few a.heads.now a.texts.now a.table.now a.buffer.now a.size a.records.now a.path.now a.scratch.now c.refused_early-number.ensures c.if-number-ne0.false, (passes a.heads.now a.texts.now a.table.now a.buffer.now a.size a.records.now a.path.now a.scratch.now c.refused_early-number.ensures c.if-number-ne0.false).words)

pub returns-then-number-ne0-2 : goal.returns-then-number-ne0-2
unfolding part_of
returns-then-number-ne0-2 c = remove-sheets _ _ _ _ _ _ _ _ _ c.refused_early-number.ensures c.if-number-ne0.false c.bytes_of-sheet.ensures c.read_sheets-number.ensures c.if-number-ne0-2.true c.refused-then-number-ne0-2.ensures

pub returns-in_default : goal.returns-in_default
unfolding part_of
returns-in_default c = remove-missing _ _ _ _ _ _ _ _ _ c.refused_early-number.ensures c.if-number-ne0.false c.bytes_of-sheet.ensures c.read_sheets-number.ensures c.if-number-ne0-2.false c.place_of.ensures c.in_default.is c.refused-in_default.ensures

pub check_sheets-requires : goal.check_sheets-requires
check_sheets-requires c = let a = c.args in (omega (arith, count-few a.heads.now a.texts.now a.table.now a.buffer.now a.size a.records.now a.path.now a.scratch.now c.refused_early-number.ensures c.if-number-ne0.false, c.read_sheets-number.ensures.size), records-room a.heads.now a.texts.now a.table.now a.buffer.now a.size a.records.now a.path.now a.scratch.now c.refused_early-number.ensures c.if-number-ne0.false, omega (arith, (passes a.heads.now a.texts.now a.table.now a.buffer.now a.size a.records.now a.path.now a.scratch.now c.refused_early-number.ensures c.if-number-ne0.false).words, c.read_sheets-number.ensures.front.size))

pub overflow_cast-result : goal.overflow_cast-result
unfolding part_of
overflow_cast-result c = let a = c.args in record { fits = omega (arith, next_small a.heads.now a.texts.now a.table.now a.name.now a.buffer.now a.size a.records.now a.path.now a.scratch.now c.refused_early-number.ensures c.if-number-ne0.false c.bytes_of-sheet.ensures c.read_sheets-number.ensures c.if-number-ne0-2.false c.place_of.ensures c.in-Ok.is c.remove_from-next.ensures) }

pub returns : goal.returns
unfolding part_of
returns c = remove-done _ _ _ _ _ _ _ _ _ c.refused_early-number.ensures c.if-number-ne0.false c.bytes_of-sheet.ensures c.read_sheets-number.ensures c.if-number-ne0-2.false c.place_of.ensures c.in-Ok.is c.remove_from-next.ensures refl c.bytes_of-schema.ensures c.check_sheets.ensures
