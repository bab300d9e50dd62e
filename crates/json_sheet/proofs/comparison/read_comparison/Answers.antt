-- `json_sheet::comparison::read_comparison` meets its contract.
use native.Mathlib.Omega.{arith}
use mathlib.Core.Path.{◌∙◌}
use Rattle.json_sheet.proofs.Comparing.{comparison-other, comparison-flat, comparison-bad, comparison-given}
use Rattle.json_sheet.proofs.comparison.read_comparison.Goals as goal

pub returns-then-depth-eq0 : goal.returns-then-depth-eq0
returns-then-depth-eq0 c = comparison-flat c.args.s.now c.args.at c.args.depth c.if-depth-eq0.true

pub overflow_add-at : goal.overflow_add-at
overflow_add-at c = omega (arith, (rw c.if-starts_with.true at c.starts_with.ensures).within)

pub overflow_sub-depth : goal.overflow_sub-depth
overflow_sub-depth c = omega arith

pub read_three-requires : goal.read_three-requires
read_three-requires c = (rw c.if-starts_with.true at c.starts_with.ensures).within

pub shape_of-out-in_err-operand : goal.shape_of-out-in_err-operand
shape_of-out-in_err-operand c = c.read_three.auto.out ∙ c.lay-start.auto.out ∙ c.lay-count.auto.out

pub returns-in_err-operand : goal.returns-in_err-operand
returns-in_err-operand c = rw c.from_residual.ensures (comparison-bad (rw c.if-starts_with.true at c.starts_with.ensures) c.args.depth c.if-depth-eq0.false (rw c.in_err-operand.was at c.read_three.ensures))

pub shape_of-out-then-starts_with : goal.shape_of-out-then-starts_with
shape_of-out-then-starts_with c = c.recount.auto.out ∙ c.swap.auto.out ∙ c.read_three.auto.out ∙ c.lay-start.auto.out ∙ c.lay-count.auto.out

pub returns-then-starts_with : goal.returns-then-starts_with
returns-then-starts_with c = comparison-given (rw c.if-starts_with.true at c.starts_with.ensures) c.args.depth c.if-depth-eq0.false (omega (arith, c.type_inv)) c.lay-count.ensures c.lay-start.ensures (rw c.in_ok-operand.was at c.read_three.ensures) c.swap.ensures c.recount.ensures

pub returns : goal.returns
returns c = comparison-other c.args.s.now c.args.at c.args.depth (rw c.if-starts_with.false at c.starts_with.ensures)
