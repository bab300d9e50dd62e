-- `openings::fewest_marks` meets its contract: each way to the end of the call.
use Rattle.openings.proofs.CallSteps.{meets-settings, meets-list, room, meets-table, meets-sheets}
use native.Mathlib.Omega.{arith}
use Rattle.openings.proofs.fewest_marks.Goals as goal

pub returns-then-number-ne0 : goal.returns-then-number-ne0
returns-then-number-ne0 c = meets-settings _ _ _ _ _ _ _ _ c.refused_settings-number.ensures c.if-number-ne0.true c.refused.ensures

pub returns-then-list-lt-LIST_BYTES : goal.returns-then-list-lt-LIST_BYTES
returns-then-list-lt-LIST_BYTES c = meets-list _ _ _ _ _ _ _ _ c.refused_settings-number.ensures c.if-number-ne0.false (omega (arith, c.if-list-lt-LIST_BYTES.true)) c.refused-then-list-lt-LIST_BYTES.ensures

pub open_sheets-requires : goal.open_sheets-requires
open_sheets-requires c = let a = c.args in let r = room a.kind a.semantics a.table.now a.schema.now a.rule.now a.path.now a.list.now a.scratch.now c.refused_settings-number.ensures c.if-number-ne0.false in (r.room, r.words)

pub returns-in-Err : goal.returns-in-Err
returns-in-Err c = meets-table _ _ _ _ _ _ _ _ c.refused_settings-number.ensures c.if-number-ne0.false (omega (arith, c.if-list-lt-LIST_BYTES.false)) (rw c.in-Err.is at c.settle.ensures) c.refused-in-Err.ensures

pub returns-in-Ok : goal.returns-in-Ok
returns-in-Ok c = meets-sheets _ _ _ _ _ _ _ _ c.refused_settings-number.ensures c.if-number-ne0.false (omega (arith, c.if-list-lt-LIST_BYTES.false)) _ (rw c.in-Ok.is at c.settle.ensures) c.open_sheets.ensures
