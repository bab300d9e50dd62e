use Rattle.definition.specs.Tree.{Value}
use Rattle.rule.specs.Index.{ValueAt}
use Rattle.defect_message.proofs.ExplainedSteps.{said-laid, said-none}
use Rattle.defect_message.proofs.explain.lay_said.Goals as goal

pub returns-in-Text : goal.returns-in-Text
returns-in-Text c = said-laid (λ (v : Value) (a : ValueAt c.args.rule.now c.args.words.now c.args.i v). rw c.in-Text.is at (c.form_of.ensures v a)) c.bytes_of.ensures c.lay_reference.ensures

pub returns-in-Holder : goal.returns-in-Holder
returns-in-Holder c = said-none (λ (v : Value) (a : ValueAt c.args.rule.now c.args.words.now c.args.i v). (rw c.in-Holder.is at (c.form_of.ensures v a)).1)

pub returns-in-Other : goal.returns-in-Other
returns-in-Other c = said-none (λ (v : Value) (a : ValueAt c.args.rule.now c.args.words.now c.args.i v). (rw c.in-Other.is at (c.form_of.ensures v a)).1)
