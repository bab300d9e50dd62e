use mathlib.Core.Path.{◌≡◌, refl, sym, ◌∙◌}
use lib.ListN.{length}
use native.Mathlib.Omega.{arith}
use Rattle.text.specs.DecimalLaws.{is_digit-range}
use Rattle.text.proofs.Numerals.{digits-end, digits-stop, digits_more, digits-beyond}
use Rattle.text.proofs.numeral.digits.Goals as goal

pub loop-i-init : goal.loop-i-init
loop-i-init c = refl

pub returns-then-not-is_digit : goal.returns-then-not-is_digit
returns-then-not-is_digit c =
    (sym c.loop-i.invariant ∙ digits-stop c.loop-i.value c.args.s.now c.loop-i.i (omega arith) (sym c.is_digit.ensures ∙ c.if-not-is_digit.true), omega arith, omega arith)

pub returns-then-most-value : goal.returns-then-most-value
returns-then-most-value c =
    let a = c.args in
    let l = c.loop-i in
    digits-beyond l.value a.high a.first a.s.now l.i a.at (omega arith) (sym c.is_digit.ensures ∙ c.if-not-is_digit.false) (omega arith) l.invariant

pub overflow_mul-value : goal.overflow_mul-value
overflow_mul-value c = omega arith

pub overflow_sub-value : goal.overflow_sub-value
overflow_sub-value c = omega (arith, is_digit-range _ (sym c.is_digit.ensures ∙ c.if-not-is_digit.false))

pub loop-i-preserved : goal.loop-i-preserved
loop-i-preserved c =
    let d = sym c.is_digit.ensures ∙ c.if-not-is_digit.false in
    sym (digits_more c.loop-i.value c.args.s.now c.loop-i.i (omega arith) d) ∙ c.loop-i.invariant

pub returns : goal.returns
returns c =
    let l = c.loop-i in
    let end : l.i ≡ length c.args.s.now = omega arith in
    (rw end at (sym l.invariant ∙ digits-end l.value c.args.s.now l.i (omega arith)), omega arith, omega arith)
