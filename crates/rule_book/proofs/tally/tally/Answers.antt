-- `rule_book::tally::tally` meets its contract: each way to the end of the call.
use Rattle.single_check.proofs.WholeSteps.{words-enough}
use Rattle.rule_book.proofs.CallSteps.{meets-settings, meets-form, meets-table, ready, meets-tally}
use native.Mathlib.Omega.{arith}
use Rattle.rule_book.proofs.tally.tally.Goals as goal

pub returns-then-number-ne0 : goal.returns-then-number-ne0
returns-then-number-ne0 c = meets-settings _ _ _ _ _ _ _ _ c.refused_settings-number.ensures c.if-number-ne0.true c.refused.ensures

pub returns-in_default : goal.returns-in_default
returns-in_default c =
    let bad = rw c.in_default.is at c.count_sheets.ensures in
    meets-form _ _ _ _ _ _ _ _ c.refused_settings-number.ensures c.if-number-ne0.false bad c.refused-in_default.ensures

pub read_schema-read-requires : goal.read_schema-read-requires
read_schema-read-requires c = omega (arith, words-enough _ _ _ _ _ c.refused_settings-number.ensures c.if-number-ne0.false)

pub tally_sheets-requires : goal.tally_sheets-requires
tally_sheets-requires c =
    let count = rw c.in-Some.is at c.count_sheets.ensures in
    let a = c.args in
    ready a.kind a.semantics a.label.now a.table.now a.schema.now a.book.now a.path.now a.scratch.now c.refused_settings-number.ensures c.if-number-ne0.false count c.read_schema-read.ensures

pub returns-in-Err : goal.returns-in-Err
returns-in-Err c =
    let count = rw c.in-Some.is at c.count_sheets.ensures in
    let due = rw c.in-Err.is at c.settle.ensures in
    meets-table _ _ _ _ _ _ _ _ c.refused_settings-number.ensures c.if-number-ne0.false count due c.refused-in-Err.ensures

pub returns-in-Ok : goal.returns-in-Ok
returns-in-Ok c =
    let count = rw c.in-Some.is at c.count_sheets.ensures in
    let set = rw c.in-Ok.is at c.settle.ensures in
    meets-tally _ _ _ _ _ _ _ _ c.refused_settings-number.ensures c.if-number-ne0.false count _ set c.read_schema-read.ensures c.tally_sheets.ensures
