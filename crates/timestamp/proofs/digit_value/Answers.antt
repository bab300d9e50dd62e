-- `timestamp::digit_value` meets its contract.
use native.Mathlib.Omega.{arith}
use mathlib.Core.Path.{sym, ◌∙◌}
use Rattle.text.specs.DecimalLaws.{is_digit-range}
use Rattle.timestamp.proofs.Laws.{digit-worth, digit-none}
use Rattle.timestamp.proofs.digit_value.Goals as goal

pub overflow_sub-result : goal.overflow_sub-result
overflow_sub-result c = let r = is_digit-range c.args.b (sym c.is_digit.ensures ∙ c.if-is_digit.true) in omega arith

pub returns-then-is_digit : goal.returns-then-is_digit
returns-then-is_digit c =
    let r = is_digit-range c.args.b (sym c.is_digit.ensures ∙ c.if-is_digit.true) in
    (digit-worth c.args.b c.is_digit.ensures c.if-is_digit.true, omega arith)

pub returns-else-is_digit : goal.returns-else-is_digit
returns-else-is_digit c = (digit-none c.args.b c.is_digit.ensures c.if-is_digit.false, omega arith)
