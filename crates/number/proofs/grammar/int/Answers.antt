-- `number::grammar::int` meets its contract: each way through the code is a law of the rule `int` at a place.
use native.Mathlib.Omega.{arith}
use Rattle.number.proofs.Reading.{int-none, int-zero, int-one, int-other}
use Rattle.number.proofs.grammar.int.Goals as goal

pub returns-in_err-end : goal.returns-in_err-end
returns-in_err-end c = rw c.from_residual.ensures (int-none _ (rw c.in_err-end.was at c.digits.ensures))

pub bounds-s-at : goal.bounds-s-at
bounds-s-at c =
    let d = rw c.in_ok-end.was at c.digits.ensures in
    omega (arith, d.1, d.2)

pub overflow_add-at : goal.overflow_add-at
overflow_add-at c =
    let d = rw c.in_ok-end.was at c.digits.ensures in
    omega (arith, d.1, d.2)

pub returns-then-at-end : goal.returns-then-at-end
returns-then-at-end c =
    let a = c.args in
    int-zero a.s.now a.at c.in_ok-end.end (rw c.in_ok-end.was at c.digits.ensures) c.if-s-at-eq48.true (omega arith)

pub returns-else-at-end : goal.returns-else-at-end
returns-else-at-end c =
    let a = c.args in
    int-one a.s.now a.at c.in_ok-end.end (rw c.in_ok-end.was at c.digits.ensures) (omega arith)

pub returns-else-s-at-eq48 : goal.returns-else-s-at-eq48
returns-else-s-at-eq48 c = int-other _ _ _ (rw c.in_ok-end.was at c.digits.ensures) c.if-s-at-eq48.false
