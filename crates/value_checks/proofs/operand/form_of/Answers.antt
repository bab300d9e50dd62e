-- `value_checks::operand::form_of` meets its contract: each type has its form.
use native.Mathlib.Omega.{arith}
use Rattle.value_checks.proofs.OperandSteps.{form-early, form-late, form-text}
use Rattle.value_checks.proofs.operand.form_of.Goals as goal

pub returns-then-digit-lt-STRING : goal.returns-then-digit-lt-STRING
returns-then-digit-lt-STRING c = let a = c.args in form-early a.rule.now a.words.now a.i c.start_of-at.ensures c.type_at-digit.ensures (omega (arith, c.if-digit-lt-STRING.true))

pub returns-then-digit-gt-STRING : goal.returns-then-digit-gt-STRING
returns-then-digit-gt-STRING c = let a = c.args in form-late a.rule.now a.words.now a.i c.start_of-at.ensures c.type_at-digit.ensures (omega (arith, c.if-digit-gt-STRING.true))

pub returns : goal.returns
returns c = let a = c.args in form-text a.rule.now a.words.now a.i c.start_of-at.ensures c.type_at-digit.ensures c.text_at.ensures (λ h. omega (arith, c.if-digit-lt-STRING.false)) (λ h. omega (arith, c.if-digit-gt-STRING.false))
