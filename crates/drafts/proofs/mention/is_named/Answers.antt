use Rattle.drafts.proofs.MentionSteps.{named-empty, named-last, named_more}
use Rattle.drafts.proofs.mention.is_named.Goals as goal

pub returns-then-text-eq0 : goal.returns-then-text-eq0
returns-then-text-eq0 c = named-empty _ _ c.if-text-eq0.true

pub returns-then-rest-end : goal.returns-then-rest-end
returns-then-rest-end c = named-last _ _ c.first_end-end.ensures c.if-rest-end.true

pub returns : goal.returns
returns c = named_more _ _ c.first_end-end.ensures c.if-rest-end.false c.first_end-segment.ensures c.same_bytes.ensures
