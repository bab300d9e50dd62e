-- `drafts::mention::mentions` meets its contract.
use Rattle.drafts.proofs.MentionSteps.{template-named, rule-named}
use Rattle.drafts.proofs.mention.mentions.Goals as goal

pub returns-then-is_template : goal.returns-then-is_template
returns-then-is_template c = template-named _ _ _ _ _ c.if-is_template.true c.is_any_named.ensures

pub returns : goal.returns
returns c = rule-named _ _ _ _ _ c.if-is_template.false c.is_condition_named.ensures
