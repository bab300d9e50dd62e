-- `json_sheet::value::read_word` meets its contract.
use native.Mathlib.Omega.{arith}
use Rattle.json_sheet.proofs.Scalars.{worded}
use Rattle.json_sheet.proofs.value.read_word.Goals as goal

pub overflow_add-result : goal.overflow_add-result
overflow_add-result c = omega (arith, (rw c.if-is_spelled.true at c.is_spelled.ensures).1)

pub returns-then-is_spelled : goal.returns-then-is_spelled
returns-then-is_spelled c = worded (rw c.if-is_spelled.true at c.is_spelled.ensures) c.lay.ensures

pub returns : goal.returns
returns c = rw c.if-is_spelled.false at c.is_spelled.ensures
