use Rattle.text.specs.Ascii.{ascii}
use Rattle.definition.specs.Tree.{Value}
use Rattle.rule.specs.Index.{ValueAt}
use Rattle.defect_message.proofs.CollectionSteps.{string-said, other-said}
use Rattle.defect_message.proofs.collections.lay_collection.Goals as goal

pub returns-in-Text : goal.returns-in-Text
returns-in-Text c = string-said (λ (v : Value) (a : ValueAt c.args.rule.now c.args.words.now c.args.i v). rw c.in-Text.is at (c.form_of.ensures v a)) c.bytes_of.ensures c.lay_collection_text.ensures

pub returns-in-Holder : goal.returns-in-Holder
unfolding ascii
returns-in-Holder c = other-said (λ (v : Value) (a : ValueAt c.args.rule.now c.args.words.now c.args.i v). (rw c.in-Holder.is at (c.form_of.ensures v a)).1) c.lay.ensures

pub returns-in-Other : goal.returns-in-Other
unfolding ascii
returns-in-Other c = other-said (λ (v : Value) (a : ValueAt c.args.rule.now c.args.words.now c.args.i v). (rw c.in-Other.is at (c.form_of.ensures v a)).1) c.lay-in-Other.ensures
