-- `drafts::start::draft_start` meets its contract: each way to its end.
use native.Mathlib.Omega.{arith}
use Rattle.text.specs.Parts.{part_of}
use Rattle.drafts.proofs.CallSteps.{start-early, passes, count-few, records-room, start-sheets, sheet-small, start-done}
use Rattle.drafts.proofs.start.draft_start.Goals as goal

pub returns-then-number-ne0 : goal.returns-then-number-ne0
returns-then-number-ne0 c = start-early _ _ _ _ _ _ _ _ c.refused_early-number.ensures c.if-number-ne0.true c.refused.ensures

pub read_sheets-number-requires : goal.read_sheets-number-requires
read_sheets-number-requires c = let a = c.args in let X = c.refused_early-number.ensures in (count-few a.heads.now a.texts.now a.table.now a.buffer.now a.size a.records.now a.path.now a.scratch.now X c.if-number-ne0.false, (passes a.heads.now a.texts.now a.table.now a.buffer.now a.size a.records.now a.path.now a.scratch.now X c.if-number-ne0.false).words)

pub returns-then-number-ne0-2 : goal.returns-then-number-ne0-2
unfolding part_of
returns-then-number-ne0-2 c = start-sheets _ _ _ _ _ _ _ _ c.refused_early-number.ensures c.if-number-ne0.false c.bytes_of-schema.ensures c.read_sheets-number.ensures c.if-number-ne0-2.true c.refused-then-number-ne0-2.ensures

pub check_sheets-requires : goal.check_sheets-requires
check_sheets-requires c = let a = c.args in let X = c.refused_early-number.ensures in (count-few a.heads.now a.texts.now a.table.now a.buffer.now a.size a.records.now a.path.now a.scratch.now X c.if-number-ne0.false, records-room a.heads.now a.texts.now a.table.now a.buffer.now a.size a.records.now a.path.now a.scratch.now X c.if-number-ne0.false, omega (arith, (passes a.heads.now a.texts.now a.table.now a.buffer.now a.size a.records.now a.path.now a.scratch.now X c.if-number-ne0.false).words, c.read_sheets-number.ensures.front.size))

pub overflow_cast-result : goal.overflow_cast-result
unfolding part_of
overflow_cast-result c = let a = c.args in record { fits = omega (arith, sheet-small a.heads.now a.texts.now a.table.now a.buffer.now a.size a.records.now a.path.now a.scratch.now c.refused_early-number.ensures c.if-number-ne0.false c.bytes_of-schema.ensures c.read_sheets-number.ensures c.if-number-ne0-2.false) }

pub returns : goal.returns
unfolding part_of
returns c = start-done _ _ _ _ _ _ _ _ c.refused_early-number.ensures c.if-number-ne0.false c.bytes_of-schema.ensures c.read_sheets-number.ensures c.if-number-ne0-2.false c.check_sheets.ensures
