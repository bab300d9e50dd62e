use Prim.Native.Nat.{max}
use mathlib.Core.Path.{◌≡◌, ◌∙◌, refl, sym}
use native.Mathlib.Omega.{arith}
use Rattle.number.proofs.Reading.{run_on, run-stop, run_out}
use Rattle.number.proofs.grammar.run_end.Goals as goal

pub loop-i-init : goal.loop-i-init
loop-i-init c = (refl, omega arith)

pub loop-i-preserved : goal.loop-i-preserved
loop-i-preserved c = (sym (run_on _ _ (omega arith) (sym c.is_digit.ensures ∙ c.if-not-is_digit.false)) ∙ c.loop-i.invariant.0, omega arith)

pub returns-then-not-is_digit : goal.returns-then-not-is_digit
returns-then-not-is_digit c = sym (run-stop _ _ (omega arith) (sym c.is_digit.ensures ∙ c.if-not-is_digit.true)) ∙ c.loop-i.invariant.0

pub returns : goal.returns
returns c =
    let last : c.max.result ≡ c.loop-i.i = omega arith in
    last ∙ sym (run_out _ _ c.loop-i-test.false) ∙ c.loop-i.invariant.0
