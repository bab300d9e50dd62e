use Rattle.drafts.proofs.MentionSteps.{that-string, other-string}
use Rattle.drafts.proofs.mention.string_at.Goals as goal

pub returns-then-has_type : goal.returns-then-has_type
returns-then-has_type c = that-string c.start_of-at.ensures c.has_type.ensures c.if-has_type.true c.text_at.ensures c.bytes_of.ensures

pub returns : goal.returns
returns c = other-string c.start_of-at.ensures c.has_type.ensures 0 c.if-has_type.false c.bytes_of-2.ensures
