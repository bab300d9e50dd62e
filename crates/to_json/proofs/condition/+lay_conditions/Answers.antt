use Rattle.to_json.proofs.Laying.{leads-start, leads-more, none-lays}
use mathlib.Core.Path.{◌∙◌}
use native.Mathlib.Omega.{arith}
use Prim.Native.Nat.{◌-◌}
use Rattle.to_json.proofs.condition.+lay_conditions.Goals as goal

pub loop-j-init : goal.loop-j-init
loop-j-init t c = leads-start (omega arith)

pub children_from-inner-requires : goal.children_from-inner-requires
children_from-inner-requires t c = (c.behind-next.ensures.past c.loop-j-test.true, omega (arith, c.behind-next.ensures.most, c.requires))

pub lay_front-a-requires : goal.lay_front-a-requires
lay_front-a-requires t c = omega (arith, c.loop-j-test.true, c.requires)

pub lay_conditions-b-requires : goal.lay_conditions-b-requires
lay_conditions-b-requires t c = omega (arith, c.behind-next.ensures.most, c.requires)

pub loop-j-smaller : goal.loop-j-smaller
loop-j-smaller t c = omega (arith, c.behind-next.ensures.most, c.behind-next.ensures.past c.loop-j-test.true)

pub loop-j-preserved : goal.loop-j-preserved
loop-j-preserved t c = leads-more c.start_of.ensures c.operator_at-op.ensures c.behind-next.ensures c.children_from-inner.ensures c.lay_front-a.ensures c.lay_conditions-b.ensures c.lay_closing-c.ensures c.lay_comma-o.ensures c.loop-j-test.true (omega (arith, c.loop-j.invariant.len, c.type_inv)) (c.lay_comma-o.ensures.len ∙ c.lay_closing-c.ensures.len ∙ c.lay_conditions-b.auto.out ∙ c.lay_front-a.auto.out ∙ c.loop-j.invariant.len) c.loop-j.invariant

pub shape_of-out : goal.shape_of-out
shape_of-out t c = c.loop-j.invariant.len

pub returns : goal.returns
returns t c = c.loop-j.invariant.leads _ _ (none-lays c.loop-j-test.false c.loop-j.invariant.low)
