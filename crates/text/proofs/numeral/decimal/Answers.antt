-- `text::numeral::decimal` meets its contract: a numeral by its first byte.
use mathlib.Core.Path.{sym, ◌∙◌}
use Rattle.text.specs.DecimalLaws.{is_digit-range}
use Rattle.text.proofs.Numerals.{decimal-end, decimal-zero, decimal-none, decimal-some}
use native.Mathlib.Omega.{arith}
use Rattle.text.proofs.numeral.decimal.Goals as goal

pub returns-then-s-at : goal.returns-then-s-at
returns-then-s-at c = decimal-end c.args.high c.args.s.now c.args.at c.if-s-at.true

pub returns-then-b-eq48 : goal.returns-then-b-eq48
returns-then-b-eq48 c = decimal-zero c.args.high c.args.s.now c.args.at c.if-s-at.false c.if-b-eq48.true

pub overflow_cast-b : goal.overflow_cast-b
overflow_cast-b c = omega (arith, c.shared_slice_known-2-1.given c.args.at)

pub overflow_sub-b : goal.overflow_sub-b
overflow_sub-b c = omega (arith, is_digit-range _ (sym c.is_digit.ensures ∙ c.if-is_digit.true))

pub returns-then-is_digit : goal.returns-then-is_digit
returns-then-is_digit c =
    decimal-some c.args.high c.args.s.now c.args.at c.if-s-at.false c.if-b-eq48.false (sym c.is_digit.ensures ∙ c.if-is_digit.true) c.digits.result c.digits.ensures

pub returns : goal.returns
returns c =
    decimal-none c.args.high c.args.s.now c.args.at c.if-s-at.false c.if-b-eq48.false (sym c.is_digit.ensures ∙ c.if-is_digit.false)
