-- `rule::kind::text_at` meets its contract: the text comes after its length.
use native.Mathlib.Omega.{arith}
use Rattle.rule.proofs.KindSteps.{text-known, text-unread, text-past}
use Rattle.rule.proofs.kind.text_at.Goals as goal

pub returns-then-rule-at : goal.returns-then-rule-at
returns-then-rule-at c = text-past c.if-rule-at.true

pub returns-in_default : goal.returns-in_default
returns-in_default c = text-unread (rw c.in_default.is at c.item.ensures)

pub overflow_add-result : goal.overflow_add-result
overflow_add-result c = let e = rw c.in-Some.is at c.item.ensures in omega (arith, e.0.within)

pub returns : goal.returns
returns c = let e = rw c.in-Some.is at c.item.ensures in text-known e.0
