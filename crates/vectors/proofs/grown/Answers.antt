-- `vectors::grown` meets its contract.
use mathlib.Core.Path.{sym, ◌∙◌}
use native.Mathlib.Omega.{arith}
use Rattle.text.specs.DecimalLaws.{is_digit-range}
use Rattle.vectors.proofs.grown.Goals as goal

pub overflow_sub-next : goal.overflow_sub-next
overflow_sub-next c = omega (arith, is_digit-range _ (sym c.is_digit.ensures ∙ c.if-is_digit.true))
