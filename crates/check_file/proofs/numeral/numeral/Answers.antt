-- `check_file::numeral::numeral` meets its contract: a numeral by its first byte.
use mathlib.Core.Path.{sym, ◌∙◌}
use Rattle.text.specs.DecimalLaws.{is_digit-range}
use Rattle.check_file.proofs.Reading.{decimal-end, decimal-zero, decimal-none, decimal-some}
use native.Mathlib.Omega.{arith}
use Rattle.check_file.proofs.numeral.numeral.Goals as goal

pub returns-then-s-at : goal.returns-then-s-at
returns-then-s-at c = decimal-end c.args.s.now c.args.at c.if-s-at.true

pub returns-then-b-eq48 : goal.returns-then-b-eq48
returns-then-b-eq48 c = decimal-zero c.args.s.now c.args.at c.if-s-at.false c.if-b-eq48.true

pub overflow_sub-wide : goal.overflow_sub-wide
overflow_sub-wide c = omega (arith, is_digit-range _ (sym c.is_digit.ensures ∙ c.if-is_digit.true))

pub digits-requires : goal.digits-requires
digits-requires c = (omega arith, omega (arith, is_digit-range _ (sym c.is_digit.ensures ∙ c.if-is_digit.true)))

pub returns-then-is_digit : goal.returns-then-is_digit
returns-then-is_digit c =
    decimal-some c.args.s.now c.args.at c.if-s-at.false c.if-b-eq48.false (sym c.is_digit.ensures ∙ c.if-is_digit.true) c.digits.result
    (rw c.wide.ensures.0 at c.digits.ensures)

pub returns : goal.returns
returns c = decimal-none c.args.s.now c.args.at c.if-s-at.false c.if-b-eq48.false (sym c.is_digit.ensures ∙ c.if-is_digit.false)
