-- `single_check::validate_lent` meets its contract: each way to its end is a law.
use native.Mathlib.Omega.{arith}
use Rattle.single_check.proofs.WholeSteps.{words-enough, meets-early, meets-marks, meets-table, meets-sheets}
use Rattle.single_check.proofs.validate_lent.Goals as goal

pub returns-then-number-ne0 : goal.returns-then-number-ne0
returns-then-number-ne0 c =
    meets-early _ _ _ _ _ _ _ _ _ _ c.refused_settings-number.ensures c.if-number-ne0.true c.refused.ensures

pub returns-then-marks-lt-MARK_BYTES : goal.returns-then-marks-lt-MARK_BYTES
returns-then-marks-lt-MARK_BYTES c =
    meets-marks _ _ _ _ _ _ _ _ _ _ c.refused_settings-number.ensures c.if-number-ne0.false (omega (arith, c.if-marks-lt-MARK_BYTES.true)) c.refused-then-marks-lt-MARK_BYTES.ensures

pub read_schema-read-requires : goal.read_schema-read-requires
read_schema-read-requires c =
    omega (arith, words-enough _ _ _ _ _ c.refused_settings-number.ensures c.if-number-ne0.false)

pub check_sheet-requires : goal.check_sheet-requires
check_sheet-requires c =
    omega (arith, words-enough _ _ _ _ _ c.refused_settings-number.ensures c.if-number-ne0.false, c.read_schema-read.ensures.kept.size)

pub returns-in-Err : goal.returns-in-Err
returns-in-Err c =
    meets-table _ _ _ _ _ _ _ _ _ _ c.refused_settings-number.ensures c.if-number-ne0.false (omega (arith, c.if-marks-lt-MARK_BYTES.false)) (rw c.in-Err.is at c.settle.ensures) c.refused-in-Err.ensures

pub returns-in-Ok : goal.returns-in-Ok
returns-in-Ok c =
    meets-sheets _ _ _ _ _ _ _ _ _ _ c.refused_settings-number.ensures c.if-number-ne0.false (omega (arith, c.if-marks-lt-MARK_BYTES.false)) _ (rw c.in-Ok.is at c.settle.ensures) c.read_schema-read.ensures c.check_sheet.ensures
