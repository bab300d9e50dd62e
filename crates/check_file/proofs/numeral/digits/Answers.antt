use lib.ListN.{length}
use mathlib.Core.Path.{◌≡◌, sym, ◌∙◌}
use Rattle.text.specs.DecimalLaws.{is_digit-range}
use Rattle.check_file.proofs.Reading.{passed_none, passed-digit, passed-end, passed-stop}
use native.Mathlib.Omega.{arith}
use Rattle.check_file.proofs.numeral.digits.Goals as goal

pub loop-i-init : goal.loop-i-init
loop-i-init c = passed_none c.args.first c.args.s.now c.args.at c.requires.0 c.requires.1

pub overflow_mul-value : goal.overflow_mul-value
overflow_mul-value c = omega (arith, c.loop-i.invariant.answered)

pub overflow_sub-wide : goal.overflow_sub-wide
overflow_sub-wide c = omega (arith, is_digit-range _ (sym c.is_digit.ensures ∙ c.if-not-is_digit.false))

pub overflow_add-value : goal.overflow_add-value
overflow_add-value c = omega (arith, c.loop-i.invariant.answered, is_digit-range _ (sym c.is_digit.ensures ∙ c.if-not-is_digit.false))

pub loop-i-preserved : goal.loop-i-preserved
loop-i-preserved c = passed-digit c.loop-i.invariant (omega arith) (sym c.is_digit.ensures ∙ c.if-not-is_digit.false) (omega (arith, c.capped-value.ensures, c.wide.ensures.0))

pub returns-then-not-is_digit : goal.returns-then-not-is_digit
returns-then-not-is_digit c = passed-stop c.loop-i.invariant (omega arith) (sym c.is_digit.ensures ∙ c.if-not-is_digit.true)

pub returns : goal.returns
returns c =
    let last : c.loop-i.i ≡ length c.args.s.now = omega arith in
    rw last at (passed-end c.loop-i.invariant c.loop-i-test.false)
