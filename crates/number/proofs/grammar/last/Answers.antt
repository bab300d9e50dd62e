-- `number::grammar::last` meets its contract: each way through the code is a law of the rule `last` at a place.
use native.Mathlib.Omega.{arith}
use Rattle.number.proofs.Reading.{last_none, last_more, last_end}
use Rattle.number.proofs.grammar.last.Goals as goal

pub returns-in_err-end : goal.returns-in_err-end
returns-in_err-end c = rw c.from_residual.ensures (last_none _ _ (rw c.in_err-end.was at c.digits.ensures))

pub returns-then-end-s : goal.returns-then-end-s
returns-then-end-s c = last_more _ _ _ (rw c.in_ok-end.was at c.digits.ensures) _ c.if-end-s.true

pub returns-else-end-s : goal.returns-else-end-s
returns-else-end-s c =
    let d = rw c.in_ok-end.was at c.digits.ensures in
    (last_end _ _ _ d _ c.if-end-s.false, omega (arith, d.1, d.2))
