-- `condition_checks::body::collection_of` meets its contract, by the form.
use Rattle.definition.specs.Tree.{Value}
use Rattle.rule.specs.Index.{ValueAt}
use Rattle.condition_checks.proofs.BodySteps.{collection-text, collection-other}
use Rattle.condition_checks.proofs.body.collection_of.Goals as goal

pub returns-in-Text : goal.returns-in-Text
returns-in-Text c = collection-text (λ (v : Value) (a : ValueAt c.args.rule.now c.args.words.now c.args.i v). rw c.in-Text.is at (c.form_of.ensures v a)) c.bytes_of.ensures c.collection_element.ensures

pub returns-in-Holder : goal.returns-in-Holder
returns-in-Holder c = collection-other (λ (v : Value) (a : ValueAt c.args.rule.now c.args.words.now c.args.i v). (rw c.in-Holder.is at (c.form_of.ensures v a)).1)

pub returns-in-Other : goal.returns-in-Other
returns-in-Other c = collection-other (λ (v : Value) (a : ValueAt c.args.rule.now c.args.words.now c.args.i v). (rw c.in-Other.is at (c.form_of.ensures v a)).1)
