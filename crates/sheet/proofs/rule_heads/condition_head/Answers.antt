-- `sheet::rule_heads::condition_head` meets its contract: the operator, its number and its text.
use Rattle.text.specs.Parts.{part_of}
use Rattle.sheet.specs.Pieces.{shape_for}
use native.Mathlib.Omega.{arith}
use Rattle.sheet.proofs.Heads.{condition-other, condition-no-number, condition-no-text, condition-reads, condition-code, condition-counted}
use Rattle.sheet.proofs.rule_heads.condition_head.Goals as goal

pub returns-in_err-op : goal.returns-in_err-op
returns-in_err-op c = rw c.from_residual.ensures (let first = rw c.in_err-op.was at c.first.ensures in
    condition-other c.args.s.now c.args.at first)

pub returns-in_err-n : goal.returns-in_err-n
returns-in_err-n c = rw c.from_residual-in_err-n.ensures (let first = rw c.in_ok-op.was at c.first.ensures in
    let item = rw c.in_err-n.was at c.item.ensures in
    let shape = c.shape_of-shape in
    let row = c.condition_row-row in
    condition-no-number first.0 (shape_for shape.result) shape.ensures row.result row.ensures item)

pub overflow_add-start : goal.overflow_add-start
overflow_add-start c =
    let is-last-text = rw c.if-is_last_text.true at c.is_last_text.ensures in
    omega (arith, is-last-text.within)

pub overflow_add-result : goal.overflow_add-result
overflow_add-result c =
    let is-last-text = rw c.if-is_last_text.true at c.is_last_text.ensures in
    omega (arith, is-last-text.within)

pub overflow_add-result-then-is_last_text : goal.overflow_add-result-then-is_last_text
overflow_add-result-then-is_last_text c =
    let is-last-text = rw c.if-is_last_text.true at c.is_last_text.ensures in
    omega (arith, is-last-text.within)

pub returns-then-is_last_text : goal.returns-then-is_last_text
unfolding part_of
returns-then-is_last_text c =
    let first = rw c.in_ok-op.was at c.first.ensures in
    let item = rw c.in_ok-n.was at c.item.ensures in
    let is-last-text = rw c.if-is_last_text.true at c.is_last_text.ensures in
    let shape = c.shape_of-shape in
    let row = c.condition_row-row in
    let len = c.text_len-len in
    rw (c.condition_from-head.ensures, ← condition-code)
    (condition-reads first.0 (shape_for shape.result) shape.ensures row.result row.ensures item.0 len.result len.ensures is-last-text, condition-counted _ _ _ (shape_for shape.result) (rw row.ensures at item.2))

pub returns : goal.returns
returns c =
    let first = rw c.in_ok-op.was at c.first.ensures in
    let item = rw c.in_ok-n.was at c.item.ensures in
    let is-last-text = rw c.if-is_last_text.false at c.is_last_text.ensures in
    let shape = c.shape_of-shape in
    let row = c.condition_row-row in
    let len = c.text_len-len in
    condition-no-text first.0 (shape_for shape.result) shape.ensures row.result row.ensures item.0 len.result len.ensures is-last-text
