-- `rule::read_rule` meets its contract: each answer is what the decoder answers on the same bytes.
use native.Mathlib.Omega.{arith}
use lib.ListN.{length-set}
use Rattle.rule.proofs.RuleLaws.{rule-long-answer, rule-headless-answer, rule-ready, rule-treeless-answer, rule-unended-answer, tree-limit, rule-answer}
use Rattle.rule.proofs.read_rule.Goals as goal

pub returns-then-s-gt-MAX_SHEET_BYTES : goal.returns-then-s-gt-MAX_SHEET_BYTES
returns-then-s-gt-MAX_SHEET_BYTES c = rule-long-answer c.args.s.now c.args.scratch.now c.if-s-gt-MAX_SHEET_BYTES.true

pub returns-in_err-head : goal.returns-in_err-head
returns-in_err-head c = rw c.from_residual.ensures (rule-headless-answer c.args.s.now c.args.scratch.now c.if-s-gt-MAX_SHEET_BYTES.false (rw c.in_err-head.was at c.opening-heads.ensures.0))

pub read_tree-requires : goal.read_tree-requires
read_tree-requires c = let heads = rw c.in_ok-head.was at c.opening-heads.ensures in (rule-ready c.if-s-gt-MAX_SHEET_BYTES.false c.requires heads.0.within, heads.1)

pub shape_of-scratch-in_err-next : goal.shape_of-scratch-in_err-next
shape_of-scratch-in_err-next c = c.read_tree.auto.words

pub returns-in_err-next : goal.returns-in_err-next
returns-in_err-next c = rw c.from_residual-in_err-next.ensures (let head = rw c.in_ok-head.was at c.opening-heads.ensures.0 in
    let answer = rw c.is_template-template.ensures at (rw c.in_err-next.was at c.read_tree.ensures) in
    rule-treeless-answer c.args.s.now c.args.scratch.now c.read_tree.new.words c.in_ok-head.behind c.if-s-gt-MAX_SHEET_BYTES.false c.in_ok-head.head head.reads answer)

pub word_of-requires : goal.word_of-requires
word_of-requires c =
    let answer = rw c.in_ok-next.was at c.read_tree.ensures in
    (omega arith, tree-limit c.args.s.now c.args.scratch.now c.read_tree.new.words c.in_ok-head.behind c.if-s-gt-MAX_SHEET_BYTES.false c.is_template-template.result c.in_ok-next.next answer)

pub bounds-scratch-0 : goal.bounds-scratch-0
bounds-scratch-0 c = omega (arith, c.read_tree.auto.words, c.requires)

pub shape_of-scratch-then-ends_at : goal.shape_of-scratch-then-ends_at
shape_of-scratch-then-ends_at c = simp length-set c.read_tree.auto.words

pub returns-then-ends_at : goal.returns-then-ends_at
returns-then-ends_at c =
    let head = rw c.in_ok-head.was at c.opening-heads.ensures.0 in
    let answer = rw c.is_template-template.ensures at (rw c.in_ok-next.was at c.read_tree.ensures) in
    rw c.is_template-template.ensures
    (rule-answer c.args.s.now c.args.scratch.now c.read_tree.new.words c.in_ok-head.behind c.if-s-gt-MAX_SHEET_BYTES.false c.in_ok-head.head c.in_ok-next.next head.reads (omega (arith, c.read_tree.auto.words, c.requires)) answer (omega (arith, rw c.if-ends_at.true at c.ends_at.ensures)) c.word_of.ensures)

pub shape_of-scratch : goal.shape_of-scratch
shape_of-scratch c = c.read_tree.auto.words

pub returns : goal.returns
returns c =
    let head = rw c.in_ok-head.was at c.opening-heads.ensures.0 in
    let answer = rw c.is_template-template.ensures at (rw c.in_ok-next.was at c.read_tree.ensures) in
    rule-unended-answer c.args.s.now c.args.scratch.now c.read_tree.new.words c.in_ok-head.behind c.if-s-gt-MAX_SHEET_BYTES.false c.in_ok-head.head c.in_ok-next.next head.reads answer (omega (arith, rw c.if-ends_at.false at c.ends_at.ensures))
