-- `number::grammar::frac` meets its contract: each way through the code is a law of the rule `frac` at a place.
use mathlib.Core.Path.{◌∙◌}
use native.Mathlib.Omega.{arith}
use Rattle.number.proofs.Reading.{frac-point, frac-other, frac-end}
use Rattle.number.proofs.grammar.frac.Goals as goal

pub returns-in_err-end : goal.returns-in_err-end
returns-in_err-end c = rw c.from_residual.ensures (frac-point _ _ c.if-at-s.true c.if-s-at-eq46.true ∙ (rw c.in_err-end.was at c.digits.ensures))

pub returns-then-s-at-eq46 : goal.returns-then-s-at-eq46
returns-then-s-at-eq46 c =
    let d = rw c.in_ok-end.was at c.digits.ensures in
    (frac-point _ _ c.if-at-s.true c.if-s-at-eq46.true ∙ d.0, omega (arith, d.1), d.2)

pub returns-else-s-at-eq46 : goal.returns-else-s-at-eq46
returns-else-s-at-eq46 c = (frac-other _ _ c.if-at-s.true c.if-s-at-eq46.false, omega arith, omega arith)

pub returns-else-at-s : goal.returns-else-at-s
returns-else-at-s c = (frac-end _ _ c.if-at-s.false, omega arith, omega arith)
