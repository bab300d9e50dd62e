-- `sheet::rule_heads::value_head` meets its contract: the type, its number and its text, which is tested where it is a number.
use Rattle.text.specs.Parts.{part_of}
use native.Mathlib.Omega.{arith}
use Rattle.sheet.proofs.Heads.{value-other, value-no-number, value-no-text, value-wrong, value-reads, value-code, value-counted}
use Rattle.sheet.proofs.rule_heads.value_head.Goals as goal

pub returns-in_err-number : goal.returns-in_err-number
returns-in_err-number c = rw c.from_residual.ensures (let first = rw c.in_err-number.was at c.first.ensures in
    value-other c.args.s.now c.args.at first)

pub returns-in_err-n : goal.returns-in_err-n
returns-in_err-n c = rw c.from_residual-in_err-n.ensures (let first = rw c.in_ok-number.was at c.first.ensures in
    let item = rw c.in_err-n.was at c.item.ensures in
    let kind = c.kind_of-kind in
    let row = c.value_row-row in
    value-no-number first.0 kind.result kind.ensures row.result row.ensures item)

pub overflow_add-start : goal.overflow_add-start
overflow_add-start c =
    let is-last-text = rw c.if-is_last_text.true at c.is_last_text.ensures in
    omega (arith, is-last-text.within)

pub overflow_add-result : goal.overflow_add-result
overflow_add-result c =
    let is-last-text = rw c.if-is_last_text.true at c.is_last_text.ensures in
    omega (arith, is-last-text.within)

pub overflow_add-result-then-is_right : goal.overflow_add-result-then-is_right
overflow_add-result-then-is_right c =
    let is-last-text = rw c.if-is_last_text.true at c.is_last_text.ensures in
    omega (arith, is-last-text.within)

pub returns-then-is_right : goal.returns-then-is_right
unfolding part_of
returns-then-is_right c =
    let first = rw c.in_ok-number.was at c.first.ensures in
    let item = rw c.in_ok-n.was at c.item.ensures in
    let is-last-text = rw c.if-is_last_text.true at c.is_last_text.ensures in
    let kind = c.kind_of-kind in
    let row = c.value_row-row in
    let len = c.text_len-len in
    let right = rw (c.if-is_right.true, c.bytes_of.ensures) at c.is_right.ensures in
    rw (c.value_from.ensures, ← value-code)
    (value-reads first.0 kind.result kind.ensures row.result row.ensures item.0 len.result len.ensures is-last-text right, value-counted kind.result _ _ _ (rw row.ensures at item.2))

pub returns-else-is_right : goal.returns-else-is_right
unfolding part_of
returns-else-is_right c =
    let first = rw c.in_ok-number.was at c.first.ensures in
    let item = rw c.in_ok-n.was at c.item.ensures in
    let is-last-text = rw c.if-is_last_text.true at c.is_last_text.ensures in
    let kind = c.kind_of-kind in
    let row = c.value_row-row in
    let len = c.text_len-len in
    let wrong = rw (c.if-is_right.false, c.bytes_of.ensures) at c.is_right.ensures in
    value-wrong first.0 kind.result kind.ensures row.result row.ensures item.0 len.result len.ensures is-last-text wrong

pub returns-else-is_last_text : goal.returns-else-is_last_text
returns-else-is_last_text c =
    let first = rw c.in_ok-number.was at c.first.ensures in
    let item = rw c.in_ok-n.was at c.item.ensures in
    let is-last-text = rw c.if-is_last_text.false at c.is_last_text.ensures in
    let kind = c.kind_of-kind in
    let row = c.value_row-row in
    let len = c.text_len-len in
    value-no-text first.0 kind.result kind.ensures row.result row.ensures item.0 len.result len.ensures is-last-text
