-- `sheet::rule_heads::key_head` meets its contract: a length and a text.
use Rattle.text.specs.Parts.{part_of}
use native.Mathlib.Omega.{arith}
use Rattle.sheet.proofs.Heads.{key-other, key_reads, key-no-text}
use Rattle.sheet.proofs.rule_heads.key_head.Goals as goal

pub returns-in_err-len : goal.returns-in_err-len
returns-in_err-len c = rw c.from_residual.ensures (let first = rw c.in_err-len.was at c.first.ensures in
    key-other c.args.s.now c.args.at first)

pub overflow_add-start : goal.overflow_add-start
overflow_add-start c =
    let is-last-text = rw c.if-is_last_text.true at c.is_last_text.ensures in
    omega (arith, is-last-text.within)

pub overflow_add-result : goal.overflow_add-result
overflow_add-result c =
    let is-last-text = rw c.if-is_last_text.true at c.is_last_text.ensures in
    omega (arith, is-last-text.within)

pub overflow_add-result-then-is_last_text : goal.overflow_add-result-then-is_last_text
overflow_add-result-then-is_last_text c =
    let is-last-text = rw c.if-is_last_text.true at c.is_last_text.ensures in
    omega (arith, is-last-text.within)

pub returns-then-is_last_text : goal.returns-then-is_last_text
unfolding part_of
returns-then-is_last_text c =
    let first = rw c.in_ok-len.was at c.first.ensures in
    let is-last-text = rw c.if-is_last_text.true at c.is_last_text.ensures in
    key_reads first.0 is-last-text

pub returns : goal.returns
returns c =
    let first = rw c.in_ok-len.was at c.first.ensures in
    let is-last-text = rw c.if-is_last_text.false at c.is_last_text.ensures in
    key-no-text first.0 is-last-text
