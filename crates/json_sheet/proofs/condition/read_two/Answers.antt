use native.Mathlib.Omega.{arith}
use Prim.Native.Nat.{◌-◌}
use Rattle.sheet.specs.Operators as Operators
use Rattle.json_sheet.specs.Places.{operand_in, pair_rest}
use Rattle.json_sheet.proofs.Operands.{two-flat, two_deep, bracket-flat, bracket-unopened, bracket-opened}
use Rattle.json_sheet.proofs.condition.read_two.Goals as goal

pub returns-then-depth-eq0 : goal.returns-then-depth-eq0
returns-then-depth-eq0 c = bracket-flat (operand_in Operators.two c.args.op c.args.depth) (pair_rest c.args.op (c.args.depth - 1)) c.args.depth 0x5B (two-flat c.args.op c.args.depth) (two_deep c.args.op c.args.depth) c.args.s.now c.args.at c.if-depth-eq0.true

pub overflow_add-at : goal.overflow_add-at
overflow_add-at c = let b = (rw c.if-starts_with.true at c.starts_with.ensures) in omega (arith, b.within)

pub read_pair-requires : goal.read_pair-requires
read_pair-requires c = let b = (rw c.if-starts_with.true at c.starts_with.ensures) in b.within

pub returns-then-starts_with : goal.returns-then-starts_with
returns-then-starts_with c = bracket-opened (operand_in Operators.two c.args.op c.args.depth) (pair_rest c.args.op (c.args.depth - 1)) c.args.depth 0x5B (two-flat c.args.op c.args.depth) (two_deep c.args.op c.args.depth) c.args.s.now c.args.at c.read_pair.result _ _ _ c.if-depth-eq0.false (rw c.if-starts_with.true at c.starts_with.ensures) c.read_pair.ensures

pub returns : goal.returns
returns c = bracket-unopened (operand_in Operators.two c.args.op c.args.depth) (pair_rest c.args.op (c.args.depth - 1)) c.args.depth 0x5B (two-flat c.args.op c.args.depth) (two_deep c.args.op c.args.depth) c.args.s.now c.args.at (rw c.if-starts_with.false at c.starts_with.ensures)
