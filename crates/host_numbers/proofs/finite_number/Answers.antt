-- `host_numbers::finite_number` meets its contract: at most 309 digits are compared, so that twice as much and 1 is a u32.
use native.Mathlib.Omega.{arith}
use Rattle.host_numbers.proofs.NumberTests.{few, packed-finite, packed-other}
use Rattle.host_numbers.proofs.finite_number.Goals as goal

pub overflow_cast-twice : goal.overflow_cast-twice
overflow_cast-twice c = omega (arith, few c.args.text.now c.test-tested.ensures)

pub overflow_mul-twice : goal.overflow_mul-twice
overflow_mul-twice c = omega (arith, few c.args.text.now c.test-tested.ensures)

pub overflow_add-result : goal.overflow_add-result
overflow_add-result c = omega (arith, few c.args.text.now c.test-tested.ensures)

pub returns-then-tested : goal.returns-then-tested
returns-then-tested c = packed-finite c.args.text.now c.test-tested.ensures c.if-tested.true

pub returns-else-tested : goal.returns-else-tested
returns-else-tested c = packed-other c.args.text.now c.test-tested.ensures c.if-tested.false
