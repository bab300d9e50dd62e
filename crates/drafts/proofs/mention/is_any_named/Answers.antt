use native.Mathlib.Omega.{arith}
use Rattle.drafts.proofs.MentionSteps.{left-begin, left-next, left-found, left-none}
use Rattle.drafts.proofs.mention.is_any_named.Goals as goal

pub loop-i-init : goal.loop-i-init
loop-i-init c = left-begin

pub returns-then-is_named_at : goal.returns-then-is_named_at
returns-then-is_named_at c = left-found c.loop-i.invariant (omega arith) c.is_named_at.ensures c.if-is_named_at.true

pub loop-i-preserved : goal.loop-i-preserved
loop-i-preserved c = left-next c.loop-i.invariant (omega arith) c.is_named_at.ensures c.if-is_named_at.false

pub returns : goal.returns
returns c = left-none c.loop-i.invariant (omega arith)
