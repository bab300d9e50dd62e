use Rattle.definition.specs.Tree.{Value}
use Rattle.rule.specs.Index.{ValueAt}
use Rattle.defect_message.proofs.SettledSteps.{unescaped-string, unescaped-other}
use Rattle.defect_message.proofs.settled.lay_unescaped.Goals as goal

pub returns-in-Text : goal.returns-in-Text
returns-in-Text c = unescaped-string (λ (v : Value) (a : ValueAt c.args.rule.now c.args.words.now c.args.i v). rw c.in-Text.is at (c.form_of.ensures v a)) c.bytes_of.ensures c.lay_behind_first.ensures

pub returns-in-Holder : goal.returns-in-Holder
returns-in-Holder c = unescaped-other (λ (v : Value) (a : ValueAt c.args.rule.now c.args.words.now c.args.i v). (rw c.in-Holder.is at (c.form_of.ensures v a)).1) c.lay_quoted.ensures

pub returns-in-Other : goal.returns-in-Other
returns-in-Other c = unescaped-other (λ (v : Value) (a : ValueAt c.args.rule.now c.args.words.now c.args.i v). (rw c.in-Other.is at (c.form_of.ensures v a)).1) c.lay_quoted-in-Other.ensures
