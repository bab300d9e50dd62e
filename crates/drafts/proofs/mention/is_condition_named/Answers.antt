use Prim.Native.Nat.{◌-◌}
use native.Mathlib.Omega.{arith}
use Rattle.drafts.proofs.MentionSteps.{conditions-begin, conditions-over, conditions-next, conditions-values, conditions-none}
use Rattle.drafts.proofs.mention.is_condition_named.Goals as goal

pub loop-i-init : goal.loop-i-init
loop-i-init c = conditions-begin

pub children_from-next-requires : goal.children_from-next-requires
children_from-next-requires c = (c.behind.ensures.past c.loop-i-test.true, omega (arith, c.behind.ensures.most))

pub overflow_add-i : goal.overflow_add-i
overflow_add-i c = omega arith

pub returns-then-is_over_named : goal.returns-then-is_over_named
returns-then-is_over_named c = conditions-over c.loop-i.invariant c.loop-i-test.true c.start_of.ensures c.operator_at-op.ensures c.behind.ensures c.children_from-next.ensures c.is_over_named.ensures c.if-is_over_named.true

pub overflow_add-i-in-loop-i : goal.overflow_add-i-in-loop-i
overflow_add-i-in-loop-i c = omega arith

pub returns-then-is_any_named : goal.returns-then-is_any_named
returns-then-is_any_named c = conditions-values c.loop-i.invariant c.loop-i-test.true c.start_of.ensures c.operator_at-op.ensures c.behind.ensures c.children_from-next.ensures c.is_over_named.ensures c.is_any_named.ensures c.if-is_any_named.true

pub loop-i-smaller : goal.loop-i-smaller
loop-i-smaller c = omega (arith, c.children_from-next.ensures.past)

pub loop-i-preserved : goal.loop-i-preserved
loop-i-preserved c = conditions-next c.loop-i.invariant c.loop-i-test.true c.start_of.ensures c.operator_at-op.ensures c.behind.ensures c.children_from-next.ensures c.is_over_named.ensures c.is_any_named.ensures c.if-is_over_named.false c.if-is_any_named.false

pub returns : goal.returns
returns c = conditions-none c.loop-i.invariant c.loop-i-test.false
