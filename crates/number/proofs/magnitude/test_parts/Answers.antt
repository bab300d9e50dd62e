-- `number::magnitude::test_parts` meets its contract: one law for each way: the first nonzero digit is before the point, after it, or nowhere.
use native.Mathlib.Omega.{arith}
use Rattle.number.proofs.Levels.{tests-whole, tests-fraction, tests-zero}
use Rattle.number.proofs.magnitude.test_parts.Goals as goal

pub returns-then-w-whole : goal.returns-then-w-whole
returns-then-w-whole c =
    let a = c.args in
    tests-whole a.whole.now a.fraction.now a.lowered a.exponent.now c.zeros-w.result c.zeros-w.ensures c.if-w-whole.true (omega arith) (rw (c.level_of.ensures, c.capped-e.ensures) at c.by_level.ensures)

pub returns-then-f-fraction : goal.returns-then-f-fraction
returns-then-f-fraction c =
    let a = c.args in
    tests-fraction a.whole.now a.fraction.now a.lowered a.exponent.now c.zeros-w.result c.zeros-w.ensures c.zeros-f.result c.zeros-f.ensures c.if-w-whole.false c.if-f-fraction.true (omega arith) (rw (c.level_of-then-f-fraction.ensures, c.capped-e.ensures) at c.by_level-then-f-fraction.ensures)

pub returns : goal.returns
returns c =
    let a = c.args in
    tests-zero a.whole.now a.fraction.now a.lowered a.exponent.now c.zeros-w.result c.zeros-w.ensures c.zeros-f.result c.zeros-f.ensures c.if-w-whole.false c.if-f-fraction.false
