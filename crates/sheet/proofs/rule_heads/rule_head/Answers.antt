-- `sheet::rule_heads::rule_head` meets its contract: by the letter.
use Rattle.sheet.specs.Places.{rule_of}
use native.Mathlib.Omega.{arith}
use Rattle.sheet.proofs.Heads.{rule-named, template-reads, template-no-end, rule-other}
use Rattle.sheet.proofs.rule_heads.rule_head.Goals as goal

pub overflow_add-at : goal.overflow_add-at
overflow_add-at c =
    let starts_with = rw c.if-starts_with.true at c.starts_with.ensures in
    omega (arith, starts_with.within)

pub returns-then-starts_with : goal.returns-then-starts_with
returns-then-starts_with c =
    let starts_with = rw c.if-starts_with.true at c.starts_with.ensures in
    rule-named starts_with c.rule_texts.result c.rule_texts.ensures

pub overflow_add-at-then-starts_with-2 : goal.overflow_add-at-then-starts_with-2
overflow_add-at-then-starts_with-2 c =
    let starts-with2 = rw c.if-starts_with-2.true at c.starts_with-2.ensures in
    omega (arith, starts-with2.within)

pub overflow_add-result : goal.overflow_add-result
overflow_add-result c =
    let starts-with3 = rw c.if-starts_with-3.true at c.starts_with-then-starts_with-2.ensures in
    omega (arith, starts-with3.within)

pub returns-then-starts_with-3 : goal.returns-then-starts_with-3
unfolding rule_of
returns-then-starts_with-3 c =
    let starts_with = rw c.if-starts_with.false at c.starts_with.ensures in
    let starts-with2 = rw c.if-starts_with-2.true at c.starts_with-2.ensures in
    let starts-with3 = rw c.if-starts_with-3.true at c.starts_with-then-starts_with-2.ensures in
    template-reads c.args.s.now c.args.at starts_with starts-with2 starts-with3

pub returns-else-starts_with-3 : goal.returns-else-starts_with-3
returns-else-starts_with-3 c =
    let starts_with = rw c.if-starts_with.false at c.starts_with.ensures in
    let starts-with2 = rw c.if-starts_with-2.true at c.starts_with-2.ensures in
    let starts-with3 = rw c.if-starts_with-3.false at c.starts_with-then-starts_with-2.ensures in
    template-no-end c.args.s.now c.args.at starts_with starts-with2 starts-with3

pub returns-else-starts_with-2 : goal.returns-else-starts_with-2
returns-else-starts_with-2 c =
    let starts_with = rw c.if-starts_with.false at c.starts_with.ensures in
    let starts-with2 = rw c.if-starts_with-2.false at c.starts_with-2.ensures in
    rule-other c.args.s.now c.args.at starts_with starts-with2
