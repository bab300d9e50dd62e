use Rattle.defect_message.proofs.ExplainedSteps.{message-reference, message-collection, message-settled}
use Rattle.defect_message.proofs.explain.lay_message.Goals as goal

pub returns-then-number-eq18 : goal.returns-then-number-eq18
returns-then-number-eq18 c = message-reference c.if-number-eq18.true c.scope_at-inner.ensures c.word_of.ensures c.lay_said.ensures

pub returns-then-number-eq22 : goal.returns-then-number-eq22
returns-then-number-eq22 c = message-collection c.if-number-eq22.true c.scope_at-inner-then-number-eq22.ensures c.lay_collection.ensures

pub returns : goal.returns
returns c = message-settled c.if-number-eq18.false c.if-number-eq22.false c.lay_settled.ensures
