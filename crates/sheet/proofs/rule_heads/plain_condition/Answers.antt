-- `sheet::rule_heads::plain_condition` meets its contract: the operator, its number and the end of the line.
use native.Mathlib.Omega.{arith}
use Rattle.sheet.specs.Pieces.{shape_for}
use Rattle.sheet.proofs.Plain.{plain-reads, no_plain}
use Rattle.sheet.proofs.rule_heads.plain_condition.Goals as goal

pub returns-then-seems_to_hold : goal.returns-then-seems_to_hold
returns-then-seems_to_hold c = no_plain _ _

pub returns-in_default : goal.returns-in_default
returns-in_default c = no_plain _ _

pub returns-then-values-gt2 : goal.returns-then-values-gt2
returns-then-values-gt2 c = no_plain _ _

pub returns-in_default-item : goal.returns-in_default-item
returns-in_default-item c = no_plain _ _

pub returns-then-end-gt-FURTHEST : goal.returns-then-end-gt-FURTHEST
returns-then-end-gt-FURTHEST c = no_plain _ _

pub overflow_add-result : goal.overflow_add-result
overflow_add-result c = omega (arith, c.if-end-gt-FURTHEST.false, c.if-values-gt2.false)

pub overflow_mul-result : goal.overflow_mul-result
overflow_mul-result c = omega (arith, c.if-end-gt-FURTHEST.false, c.if-values-gt2.false)

pub overflow_add-result-then-is_last_text : goal.overflow_add-result-then-is_last_text
overflow_add-result-then-is_last_text c = omega (arith, c.if-end-gt-FURTHEST.false, c.if-values-gt2.false)

pub returns-then-is_last_text : goal.returns-then-is_last_text
returns-then-is_last_text c =
    let first = rw c.in-Some.is at c.first.ensures in
    let item = rw c.in-Some-item.is at c.item.ensures in
    let text = rw c.if-is_last_text.true at c.is_last_text.ensures in
    let shape = c.shape_of-shape in
    let row = c.condition_row-row in
    plain-reads first.0 (shape_for shape.result) shape.ensures row.result row.ensures c.values_after-values.result c.values_after-values.ensures (omega (arith, c.if-values-gt2.false)) item.0 text

pub returns : goal.returns
returns c = no_plain _ _
