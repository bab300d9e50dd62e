-- `number::magnitude::digit_at` meets its contract: the place lies in the first row, in the second, or after both.
use mathlib.Core.Path.{◌∙◌}
use Rattle.number.proofs.Digits.{digit-high, digit_low, digit-out}
use Rattle.number.proofs.magnitude.digit_at.Goals as goal

pub returns-then-i-high : goal.returns-then-i-high
returns-then-i-high c =
    let a = c.args in
    c.digit.ensures ∙ digit-high a.high.now a.low.now a.i c.if-i-high.true

pub returns-then-j-low : goal.returns-then-j-low
returns-then-j-low c =
    let a = c.args in
    c.digit-then-j-low.ensures ∙ digit_low a.high.now a.low.now a.i c.if-i-high.false

pub returns : goal.returns
returns c =
    let a = c.args in
    digit-out a.high.now a.low.now a.i c.if-i-high.false c.if-j-low.false
