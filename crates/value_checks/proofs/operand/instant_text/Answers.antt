-- `value_checks::operand::instant_text` meets its contract: a reference, text that begins with `$$`, an instant, or none of these.
use mathlib.Core.Path.{sym, ◌∙◌}
use Rattle.value_checks.proofs.OperandSteps.{instant-reference, instant-dollars, instant-unread, instant-read}
use Rattle.value_checks.proofs.operand.instant_text.Goals as goal

pub returns-then-is_reference : goal.returns-then-is_reference
returns-then-is_reference c = instant-reference _ (rw c.if-is_reference.true at c.is_reference.ensures)

pub returns-then-begins_with_dollar : goal.returns-then-begins_with_dollar
returns-then-begins_with_dollar c = instant-dollars _ (rw c.if-is_reference.false at c.is_reference.ensures) (sym c.begins_with_dollar.ensures ∙ c.if-begins_with_dollar.true)

pub returns-in_default : goal.returns-in_default
returns-in_default c = instant-unread _ (sym c.begins_with_dollar.ensures ∙ c.if-begins_with_dollar.false) (rw c.in_default.is at c.parse.ensures)

pub returns : goal.returns
returns c = instant-read _ (sym c.begins_with_dollar.ensures ∙ c.if-begins_with_dollar.false) (rw c.in-Some.is at c.parse.ensures)
