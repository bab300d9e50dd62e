use mathlib.Core.Path.{◌≡◌, ◌∙◌, sym}
use lib.ListN.{length}
use native.Mathlib.Omega.{arith}
use Rattle.number.specs.FirstDigit
use Rattle.number.proofs.Digits.{zeros-on, zeros-stop, zeros-out}
use Rattle.number.proofs.magnitude.zeros.Goals as goal

pub loop-i-preserved : goal.loop-i-preserved
loop-i-preserved c = sym (zeros-on _ _ (omega arith) (sym c.digit.ensures ∙ c.if-digit-ne0.false)) ∙ c.loop-i.invariant

pub returns-then-digit-ne0 : goal.returns-then-digit-ne0
returns-then-digit-ne0 c = sym (zeros-stop _ _ (omega arith) (λ e. c.if-digit-ne0.true (c.digit.ensures ∙ e))) ∙ c.loop-i.invariant

pub returns : goal.returns
returns c =
    let last : length c.args.s.now ≡ c.loop-i.i = omega arith in
    last ∙ sym (zeros-out _ _ c.loop-i-test.false) ∙ c.loop-i.invariant
