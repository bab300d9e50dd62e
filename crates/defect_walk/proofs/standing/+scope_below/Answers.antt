use native.Mathlib.Omega.{arith}
use Prim.Native.Nat.{◌-◌}
use Rattle.defect_walk.proofs.ScopeSteps.{found-own, found-child, found-bad, found-known, found-unknown, found_none}
use Rattle.defect_walk.proofs.standing.+scope_below.Goals as goal

pub children_from-start-requires : goal.children_from-start-requires
children_from-start-requires t c = (c.requires.0, c.requires.1)

pub returns-then-target-start : goal.returns-then-target-start
returns-then-target-start t c = found-own c.start_of.ensures c.operator_at-op.ensures c.children_from-start.ensures c.requires.2 (omega arith)

pub child_at-child-requires : goal.child_at-child-requires
child_at-child-requires t c = (omega (arith, c.requires.2), c.requires.2)

pub scope_below-requires : goal.scope_below-requires
scope_below-requires t c = (omega (arith, c.requires.0, c.requires.0, c.child_at-child.ensures.least, c.child_at-child.ensures.most, c.child_at-child.ensures.inside, c.children_from-start.ensures.past), (c.child_at-child.ensures.inside, omega (arith, c.child_at-child.ensures.most, c.requires.1), c.child_at-child.ensures.holds))

pub returns-then-op-le-NOT : goal.returns-then-op-le-NOT
returns-then-op-le-NOT t c = found-child c.start_of.ensures c.operator_at-op.ensures c.children_from-start.ensures c.requires.2 (omega arith) c.child_at-child.ensures (omega arith) c.scope_below.ensures

pub returns-in_default : goal.returns-in_default
returns-in_default t c = found-bad c.start_of.ensures c.operator_at-op.ensures c.children_from-start.ensures c.requires.2 (omega arith) c.child_at-child.ensures (omega arith) c.bind_of.ensures c.in_default.is

pub overflow_add-i : goal.overflow_add-i
overflow_add-i t c = omega (arith, c.requires.0, c.requires.1)

pub scope_below-requires-in-Ok-Some : goal.scope_below-requires-in-Ok-Some
scope_below-requires-in-Ok-Some t c = (omega (arith, c.requires.0, c.requires.0, c.child_at-child.ensures.least, c.child_at-child.ensures.most, c.child_at-child.ensures.inside, c.children_from-start.ensures.past), (c.child_at-child.ensures.inside, omega (arith, c.child_at-child.ensures.most, c.requires.1), c.child_at-child.ensures.holds))

pub scope_below-requires-in-Ok-None : goal.scope_below-requires-in-Ok-None
scope_below-requires-in-Ok-None t c = (omega (arith, c.requires.0, c.requires.0, c.child_at-child.ensures.least, c.child_at-child.ensures.most, c.child_at-child.ensures.inside, c.children_from-start.ensures.past), (c.child_at-child.ensures.inside, omega (arith, c.child_at-child.ensures.most, c.requires.1), c.child_at-child.ensures.holds))

pub returns-in-Ok-Some : goal.returns-in-Ok-Some
returns-in-Ok-Some t c = found-known c.start_of.ensures c.operator_at-op.ensures c.children_from-start.ensures c.requires.2 (omega (arith, c.if-target-start.false)) c.child_at-child.ensures (omega (arith, c.if-op-le-NOT.false)) c.bind_of.ensures c.in-Some.is c.collection_of.ensures (rw c.in-Ok-Some.field-0-is at c.in-Ok-Some.is) c.bind-inner.ensures c.scope_below-in-Ok-Some.ensures

pub returns-in-Ok-None : goal.returns-in-Ok-None
returns-in-Ok-None t c = found-unknown c.start_of.ensures c.operator_at-op.ensures c.children_from-start.ensures c.requires.2 (omega (arith, c.if-target-start.false)) c.child_at-child.ensures (omega (arith, c.if-op-le-NOT.false)) c.bind_of.ensures c.in-Some.is c.collection_of.ensures (rw c.in-Ok-None.field-0-is at c.in-Ok-None.is) c.bind-inner-in-Ok-None.ensures c.scope_below-in-Ok-None.ensures

pub returns-in-Err : goal.returns-in-Err
returns-in-Err t c = found_none c.start_of.ensures c.operator_at-op.ensures c.children_from-start.ensures c.requires.2 (omega arith) c.child_at-child.ensures (omega arith) c.bind_of.ensures c.in-Some.is c.collection_of.ensures c.in-Err.is
