-- `sheet::rule_heads::leaf_end` meets its contract: a type, a length and a text, which is tested where it is a number.
use native.Mathlib.Omega.{arith}
use Rattle.text.specs.Parts.{part_of}
use Rattle.sheet.proofs.Leaves.{leaf-reads, no-leaf}
use Rattle.sheet.proofs.rule_heads.leaf_end.Goals as goal

pub returns-then-number-eq0 : goal.returns-then-number-eq0
returns-then-number-eq0 c = no-leaf _ _

pub overflow_add-at : goal.overflow_add-at
overflow_add-at c =
    let type = c.leaf_type-number.ensures (omega (arith, c.if-number-eq0.false)) in
    omega (arith, type.1.within)

pub returns-in_default : goal.returns-in_default
returns-in_default c = no-leaf _ _

pub overflow_add-start : goal.overflow_add-start
overflow_add-start c =
    let text = rw c.if-is_last_text.true at c.is_last_text.ensures in
    omega (arith, text.within)

pub overflow_add-result : goal.overflow_add-result
overflow_add-result c =
    let text = rw c.if-is_last_text.true at c.is_last_text.ensures in
    omega (arith, text.within)

pub overflow_add-result-then-is_right : goal.overflow_add-result-then-is_right
overflow_add-result-then-is_right c =
    let text = rw c.if-is_last_text.true at c.is_last_text.ensures in
    omega (arith, text.within)

pub returns-then-is_right : goal.returns-then-is_right
unfolding part_of
returns-then-is_right c =
    let type = c.leaf_type-number.ensures (omega (arith, c.if-number-eq0.false)) in
    let length = rw c.in-Some.is at c.numeral.ensures in
    let text = rw c.if-is_last_text.true at c.is_last_text.ensures in
    let right = rw (c.if-is_right.true, c.bytes_of.ensures) at c.is_right.ensures in
    λ h. leaf-reads type length.0 length.2 text c.leaf_most-most.ensures right

pub returns-else-is_right : goal.returns-else-is_right
returns-else-is_right c = no-leaf _ _

pub returns-else-is_last_text : goal.returns-else-is_last_text
returns-else-is_last_text c = no-leaf _ _
