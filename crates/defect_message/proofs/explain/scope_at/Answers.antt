use Rattle.defect_message.proofs.ExplainedSteps.{scope-unread, scope-template, scope-short, scope-past, scope-found}
use Rattle.sheet.specs.Places.{rule_of}
use native.Mathlib.Omega.{arith}
use Rattle.defect_message.proofs.explain.scope_at.Goals as goal

pub returns-in_default : goal.returns-in_default
returns-in_default c = scope-unread c.start_of.ensures (rw c.in_default.is at c.rule_head.ensures)

pub returns-in_default-head : goal.returns-in_default-head
unfolding rule_of
returns-in_default-head c = scope-template c.start_of.ensures (rw (c.in-Some.is, c.in_default-head.is) at c.rule_head.ensures)

pub returns-then-end-le1 : goal.returns-then-end-le1
returns-then-end-le1 c = scope-short c.end_of-end.ensures (omega arith)

pub returns-then-end-target : goal.returns-then-end-target
returns-then-end-target c = scope-past c.end_of-end.ensures c.word_of-target.ensures (omega arith)

pub returns : goal.returns
unfolding rule_of
returns c = scope-found c.start_of.ensures (rw (c.in-Some.is, c.in-Rule.is) at c.rule_head.ensures) c.end_of-end.ensures c.word_of-target.ensures c.scope_below.ensures
