use native.Mathlib.Omega.{arith}
use Prim.Native.Nat.{◌-◌}
use mathlib.Core.Path.{refl, ◌∙◌}
use Rattle.constants.proofs.MarkSteps.{left-begin, left-next, left-unmarked, left-all}
use Rattle.constants.proofs.mark_conditions.Goals as goal

pub loop-i-init : goal.loop-i-init
loop-i-init c = (omega arith, refl, left-unmarked left-begin c.behind_plain-i.ensures)

pub overflow_add-i : goal.overflow_add-i
overflow_add-i c = omega arith

pub constant_at-requires : goal.constant_at-requires
constant_at-requires c = omega arith

pub mark-count-requires : goal.mark-count-requires
mark-count-requires c = (omega arith, omega arith)

pub children_from-next-requires : goal.children_from-next-requires
children_from-next-requires c = (c.behind.ensures.past c.loop-i-test.true, omega (arith, c.behind.ensures.most))

pub loop-i-smaller : goal.loop-i-smaller
loop-i-smaller c = omega (arith, c.behind_plain-i-in-loop-i.ensures.forth, c.children_from-next.ensures.past)

pub loop-i-preserved : goal.loop-i-preserved
loop-i-preserved c = (
  omega (arith, c.loop-i.invariant.0, c.mark-count.ensures.most, c.children_from-next.ensures.past, c.behind_plain-i-in-loop-i.ensures.forth),
  c.mark-count.auto.marks ∙ c.loop-i.invariant.1,
  left-unmarked
      (left-next c.loop-i-test.true c.start_of.ensures c.operator_at-op.ensures c.constant_at.ensures
      c.behind.ensures c.children_from-next.ensures c.loop-i.invariant.2 c.mark-count.ensures)
      c.behind_plain-i-in-loop-i.ensures,
)

pub shape_of-marks : goal.shape_of-marks
shape_of-marks c = c.loop-i.invariant.1

pub returns : goal.returns
returns c = left-all c.loop-i.invariant.2 c.loop-i-test.false
