-- `explained_check::validate_explained` meets its contract: each way to its end is a law.
use native.Mathlib.Omega.{arith}
use native.Mathlib.Omega.{arith}
use mathlib.Core.List.{[]}
use mathlib.Core.Path.{◌∙◌}
use Rattle.single_check.proofs.WholeSteps.{words-enough}
use Rattle.explained_check.proofs.ExplainedSteps.{few-marks, ends-early, ends-marks, ends-table, ends-accepted, ends-unread, ends-unsaid, ends-said}
use Rattle.explained_check.proofs.validate_explained.Goals as goal

pub returns-then-number-ne0 : goal.returns-then-number-ne0
returns-then-number-ne0 c =
    ends-early _ _ _ _ _ _ _ _ _ _ _ c.refused_settings-number.ensures c.if-number-ne0.true c.refused.ensures c.unsaid.ensures

pub returns-then-marks-lt-MARK_BYTES : goal.returns-then-marks-lt-MARK_BYTES
returns-then-marks-lt-MARK_BYTES c =
    ends-marks _ _ _ _ _ _ _ _ _ _ _ c.refused_settings-number.ensures c.if-number-ne0.false (omega (arith, c.if-marks-lt-MARK_BYTES.true)) c.refused-then-marks-lt-MARK_BYTES.ensures c.unsaid-then-marks-lt-MARK_BYTES.ensures

pub read_schema-read-requires : goal.read_schema-read-requires
read_schema-read-requires c =
    omega (arith, words-enough _ _ _ _ _ c.refused_settings-number.ensures c.if-number-ne0.false)

pub check_sheet-o-requires : goal.check_sheet-o-requires
check_sheet-o-requires c =
    omega (arith, words-enough _ _ _ _ _ c.refused_settings-number.ensures c.if-number-ne0.false, c.read_schema-read.ensures.kept.size)

pub overflow_cast-count : goal.overflow_cast-count
overflow_cast-count c =
    omega (arith, few-marks _ _ _ _ _ _ _ _ _ [] _ c.refused_settings-number.ensures c.if-number-ne0.false (omega (arith, c.if-marks-lt-MARK_BYTES.false)) _ (rw c.in-Ok.is at c.settle.ensures) c.read_schema-read.ensures c.check_sheet-o.ensures c.if-o-eq0.true c.mark_constants-count.ensures)

pub returns-then-o-eq0 : goal.returns-then-o-eq0
returns-then-o-eq0 c =
    ends-accepted _ _ _ _ _ _ _ _ _ _ _ c.refused_settings-number.ensures c.if-number-ne0.false (omega (arith, c.if-marks-lt-MARK_BYTES.false)) _ (rw c.in-Ok.is at c.settle.ensures) c.read_schema-read.ensures c.check_sheet-o.ensures c.if-o-eq0.true c.mark_constants-count.ensures c.unsaid-then-o-eq0.ensures

pub returns-in_default : goal.returns-in_default
returns-in_default c =
    ends-unread _ _ _ _ _ _ _ _ _ _ _ c.refused_settings-number.ensures c.if-number-ne0.false (omega (arith, c.if-marks-lt-MARK_BYTES.false)) _ (rw c.in-Ok.is at c.settle.ensures) c.read_schema-read.ensures c.check_sheet-o.ensures c.if-o-eq0.false c.in_default.is c.unsaid-in_default.ensures

pub shape_of-scratch-then-o-lt11 : goal.shape_of-scratch-then-o-lt11
shape_of-scratch-then-o-lt11 c =
    c.check_sheet-o.ensures.kept.len ∙ c.read_schema-read.ensures.kept.size

pub returns-then-o-lt11 : goal.returns-then-o-lt11
returns-then-o-lt11 c =
    ends-unsaid _ _ _ _ _ _ _ _ _ _ _ c.refused_settings-number.ensures c.if-number-ne0.false (omega (arith, c.if-marks-lt-MARK_BYTES.false)) _ (rw c.in-Ok.is at c.settle.ensures) c.read_schema-read.ensures c.check_sheet-o.ensures c.if-o-eq0.false (omega (arith, c.if-o-lt11.true)) c.unsaid-then-o-lt11.ensures

pub returns-in-Err : goal.returns-in-Err
returns-in-Err c =
    ends-table _ _ _ _ _ _ _ _ _ _ _ c.refused_settings-number.ensures c.if-number-ne0.false (omega (arith, c.if-marks-lt-MARK_BYTES.false)) (rw c.in-Err.is at c.settle.ensures) c.refused-in-Err.ensures c.unsaid-in-Err.ensures

pub shape_of-path : goal.shape_of-path
shape_of-path c =
    c.check_sheet-o.auto.path

pub shape_of-scratch : goal.shape_of-scratch
shape_of-scratch c =
    c.check_sheet-o.ensures.kept.len ∙ c.read_schema-read.ensures.kept.size

pub returns-else-o-lt11 : goal.returns-else-o-lt11
returns-else-o-lt11 c =
    ends-said _ _ _ _ _ _ _ _ _ _ _ c.refused_settings-number.ensures c.if-number-ne0.false (omega (arith, c.if-marks-lt-MARK_BYTES.false)) _ (rw c.in-Ok.is at c.settle.ensures) c.read_schema-read.ensures c.check_sheet-o.ensures c.if-o-eq0.false c.in-Some.is (omega (arith, c.if-o-lt11.false)) c.unbound-scope.ensures c.say-said.ensures
