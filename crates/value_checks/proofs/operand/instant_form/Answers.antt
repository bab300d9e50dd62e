-- `value_checks::operand::instant_form` meets its contract, by the form.
use Rattle.value_checks.proofs.OperandSteps.{form-instant, holder-instant}
use Rattle.definition.specs.Tree.{Value}
use Rattle.rule.specs.Index.{ValueAt}
use Rattle.value_checks.proofs.operand.instant_form.Goals as goal

pub returns-in-Text : goal.returns-in-Text
returns-in-Text c = λ (v : Value) (a : ValueAt c.args.rule.now c.args.words.now c.args.i v). form-instant v (rw c.in-Text.is at (c.form_of.ensures v a)) c.bytes_of.ensures c.instant_text.ensures

pub returns-in-Holder : goal.returns-in-Holder
returns-in-Holder c = λ (v : Value) (a : ValueAt c.args.rule.now c.args.words.now c.args.i v). holder-instant v (rw c.in-Holder.is at (c.form_of.ensures v a)).1

pub returns-in-Other : goal.returns-in-Other
returns-in-Other c = λ (v : Value) (a : ValueAt c.args.rule.now c.args.words.now c.args.i v). holder-instant v (rw c.in-Other.is at (c.form_of.ensures v a)).1
