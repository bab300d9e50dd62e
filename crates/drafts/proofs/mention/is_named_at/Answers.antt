use Rattle.drafts.proofs.MentionSteps.{named-reference, named_other}
use Rattle.drafts.proofs.mention.is_named_at.Goals as goal

pub returns-then-is_reference : goal.returns-then-is_reference
returns-then-is_reference c = named-reference _ _ _ _ _ c.string_at-text.ensures c.is_reference.ensures c.if-is_reference.true c.is_named.ensures

pub returns : goal.returns
returns c = named_other _ _ _ _ _ c.string_at-text.ensures c.is_reference.ensures c.if-is_reference.false
