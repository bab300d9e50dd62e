use native.Mathlib.Omega.{arith}
use Rattle.drafts.proofs.MentionSteps.{over-other, over-named}
use Rattle.drafts.proofs.mention.is_over_named.Goals as goal

pub returns-then-op-le-TRUTHY : goal.returns-then-op-le-TRUTHY
returns-then-op-le-TRUTHY c = over-other _ _ _ _ _ _ c.string_at-text.ensures c.if-op-le-TRUTHY.true

pub returns : goal.returns
returns c = over-named _ _ _ _ _ _ c.string_at-text.ensures (omega (arith, c.if-op-le-TRUTHY.false)) c.is_named.ensures
