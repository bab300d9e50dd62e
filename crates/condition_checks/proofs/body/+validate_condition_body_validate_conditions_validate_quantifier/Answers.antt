use native.Mathlib.Omega.{arith}
use mathlib.Core.Path.{refl}
use Rattle.value_checks.specs.Frames.{OperandsJudged}
use Rattle.condition_checks.specs.Bodies.{EntryJudged, LeafJudged, BodyJudged}
use Rattle.value_checks.proofs.Going.{goes-passed, passed_on, required-right}
use Rattle.condition_checks.proofs.BodySteps.{leaf-yes, leaf-no, body-zero, inner-conditions, inner-quantifier, inner-unbound, inner-stopped, body-judged, body-leaf, bodies-begin, bodies-next, bodies-stopped, bodies-all}
use Rattle.condition_checks.proofs.QuantifierSteps.{quantifier-misnamed, quantifier-stopped, quantifier-walked, quantifier-refused}
use Prim.Native.Nat.{◌-◌}
use Rattle.condition_checks.proofs.body.+validate_condition_body_validate_conditions_validate_quantifier.Goals as goal

pub validate_condition_body-returns-then-left-eq0 : goal.validate_condition_body-returns-then-left-eq0
validate_condition_body-returns-then-left-eq0 t c = rw c.going.ensures (body-zero c.if-left-eq0.true)

pub validate_condition_body-validate_leaf-requires : goal.validate_condition_body-validate_leaf-requires
validate_condition_body-validate_leaf-requires t c = c.requires

pub validate_condition_body-returns-then-is_leaf : goal.validate_condition_body-returns-then-is_leaf
validate_condition_body-returns-then-is_leaf t c = body-leaf c.args.schema.now c.args.rule.now c.args.words.now c.args.scope c.args.over c.args.i c.args.end c.args.left _ c.start_of.ensures c.operator_at-op.ensures (leaf-yes c.is_leaf.ensures c.if-is_leaf.true) c.validate_leaf.ensures

pub validate_condition_body-validate_entry-r-requires : goal.validate_condition_body-validate_entry-r-requires
validate_condition_body-validate_entry-r-requires t c = (record { fits = omega (arith, c.requires.0.fits, c.requires.1, c.requires.2) }, omega (arith, c.requires.0.fits, c.requires.1, c.requires.2))

pub validate_condition_body-returns-in_default : goal.validate_condition_body-returns-in_default
validate_condition_body-returns-in_default t c =
    body-judged c.args.schema.now c.args.rule.now c.args.words.now c.args.scope c.args.over c.args.i c.args.end c.args.left _ c.if-left-eq0.false c.start_of.ensures c.operator_at-op.ensures c.validate_entry-r.ensures
    (inner-stopped c.in_default.is)
    (omega (arith, c.requires.1, c.validate_entry-r.ensures.operator.at_most, c.validate_entry-r.ensures.nonempty.at_most))

pub validate_condition_body-overflow_add-i : goal.validate_condition_body-overflow_add-i
validate_condition_body-overflow_add-i t c = omega (arith, c.requires.0.fits, c.requires.1, c.requires.2)

pub validate_condition_body-overflow_sub-left : goal.validate_condition_body-overflow_sub-left
validate_condition_body-overflow_sub-left t c = omega (arith, c.if-left-eq0.false)

pub validate_condition_body-validate_conditions-requires : goal.validate_condition_body-validate_conditions-requires
validate_condition_body-validate_conditions-requires t c = (omega (arith, c.if-left-eq0.false), (record { fits = omega (arith, c.requires.0.fits, c.requires.1, c.requires.2, c.validate_entry-r.ensures.operator.at_most, c.validate_entry-r.ensures.nonempty.at_most) }, c.requires.2))

pub validate_condition_body-returns-then-op-le-NOT : goal.validate_condition_body-returns-then-op-le-NOT
validate_condition_body-returns-then-op-le-NOT t c =
    body-judged c.args.schema.now c.args.rule.now c.args.words.now c.args.scope c.args.over c.args.i c.args.end c.args.left _ c.if-left-eq0.false c.start_of.ensures c.operator_at-op.ensures (goes-passed (EntryJudged _ _ _ _ _ _) c.in-Ok.is c.validate_entry-r.ensures)
    (inner-conditions (leaf-no c.is_leaf.ensures c.if-is_leaf.false) (omega (arith, c.if-op-le-NOT.true)) c.validate_conditions.ensures)
    (omega (arith, c.requires.1, c.validate_entry-r.ensures.operator.at_most, c.validate_entry-r.ensures.nonempty.at_most, c.validate_conditions.ensures.at_most))

pub validate_condition_body-returns-in_default-bind_of : goal.validate_condition_body-returns-in_default-bind_of
validate_condition_body-returns-in_default-bind_of t c =
    rw c.going-in_default-bind_of.ensures
    (body-judged c.args.schema.now c.args.rule.now c.args.words.now c.args.scope c.args.over c.args.i c.args.end c.args.left _ c.if-left-eq0.false c.start_of.ensures c.operator_at-op.ensures (goes-passed (EntryJudged _ _ _ _ _ _) c.in-Ok.is c.validate_entry-r.ensures)
    (inner-unbound (leaf-no c.is_leaf.ensures c.if-is_leaf.false) (omega (arith, c.if-op-le-NOT.false)) c.bind_of.ensures c.in_default-bind_of.is)
    (omega (arith, c.requires.1, c.validate_entry-r.ensures.operator.at_most, c.validate_entry-r.ensures.nonempty.at_most)))

pub validate_condition_body-overflow_sub-left-2 : goal.validate_condition_body-overflow_sub-left-2
validate_condition_body-overflow_sub-left-2 t c = omega (arith, c.if-left-eq0.false)

pub validate_condition_body-validate_quantifier-requires : goal.validate_condition_body-validate_quantifier-requires
validate_condition_body-validate_quantifier-requires t c = (omega (arith, c.if-left-eq0.false), (record { fits = omega (arith, c.requires.0.fits, c.requires.1, c.requires.2, c.validate_entry-r.ensures.operator.at_most, c.validate_entry-r.ensures.nonempty.at_most) }, c.requires.1, c.requires.2))

pub validate_condition_body-returns : goal.validate_condition_body-returns
validate_condition_body-returns t c =
    body-judged c.args.schema.now c.args.rule.now c.args.words.now c.args.scope c.args.over c.args.i c.args.end c.args.left _ c.if-left-eq0.false c.start_of.ensures c.operator_at-op.ensures (goes-passed (EntryJudged _ _ _ _ _ _) c.in-Ok.is c.validate_entry-r.ensures)
    (inner-quantifier (leaf-no c.is_leaf.ensures c.if-is_leaf.false) (omega (arith, c.if-op-le-NOT.false)) c.bind_of.ensures c.in-Some.is c.validate_quantifier.ensures)
    (omega (arith, c.requires.1, c.validate_entry-r.ensures.operator.at_most, c.validate_entry-r.ensures.nonempty.at_most, c.validate_quantifier.ensures.at_most))

pub validate_conditions-loop-i-init : goal.validate_conditions-loop-i-init
validate_conditions-loop-i-init t c = (omega arith, omega arith, bodies-begin)

pub validate_conditions-validate_leaf-r-requires : goal.validate_conditions-validate_leaf-r-requires
validate_conditions-validate_leaf-r-requires t c = (record { fits = omega (arith, c.loop-i.invariant.0, c.loop-i.invariant.2.at_most, c.requires.0.fits, c.behind-next.ensures.most) }, c.behind-next.ensures.past c.loop-i-test.true, omega (arith, c.behind-next.ensures.most, c.requires.1))

pub validate_conditions-returns-in_default : goal.validate_conditions-returns-in_default
validate_conditions-returns-in_default t c =
    bodies-stopped c.in_default.is (omega (arith, c.behind-next.ensures.most))
    (bodies-next c.loop-i-test.true c.behind-next.ensures (body-leaf c.args.schema.now c.args.rule.now c.args.words.now c.args.scope c.args.over c.loop-i.i c.behind-next.result c.args.left _ c.start_of.ensures c.operator_at-op.ensures (leaf-yes c.is_leaf.ensures c.if-is_leaf.true) c.validate_leaf-r.ensures) c.loop-i.invariant.0 c.loop-i.invariant.2)

pub validate_conditions-loop-i-smaller-then-is_leaf : goal.validate_conditions-loop-i-smaller-then-is_leaf
validate_conditions-loop-i-smaller-then-is_leaf t c = omega (arith, c.behind-next.ensures.past c.loop-i-test.true)

pub validate_conditions-loop-i-preserved-then-is_leaf : goal.validate_conditions-loop-i-preserved-then-is_leaf
validate_conditions-loop-i-preserved-then-is_leaf t c = (
  omega (arith, c.behind-next.ensures.past c.loop-i-test.true, c.loop-i.invariant.0),
  omega (arith, c.behind-next.ensures.most),
  bodies-next c.loop-i-test.true c.behind-next.ensures (body-leaf c.args.schema.now c.args.rule.now c.args.words.now c.args.scope c.args.over c.loop-i.i c.behind-next.result c.args.left _ c.start_of.ensures c.operator_at-op.ensures (leaf-yes c.is_leaf.ensures c.if-is_leaf.true) (goes-passed (LeafJudged _ _ _ _ _) c.in-Ok.is c.validate_leaf-r.ensures)) c.loop-i.invariant.0 c.loop-i.invariant.2,
)

pub validate_conditions-validate_condition_body-r-requires : goal.validate_conditions-validate_condition_body-r-requires
validate_conditions-validate_condition_body-r-requires t c = (omega arith, (record { fits = omega (arith, c.loop-i.invariant.0, c.loop-i.invariant.2.at_most, c.requires.0.fits, c.behind-next.ensures.most) }, c.behind-next.ensures.past c.loop-i-test.true, omega (arith, c.behind-next.ensures.most, c.requires.1)))

pub validate_conditions-returns-in_default-verdict : goal.validate_conditions-returns-in_default-verdict
validate_conditions-returns-in_default-verdict t c =
    bodies-stopped c.in_default-verdict.is (omega (arith, c.behind-next.ensures.most))
    (bodies-next c.loop-i-test.true c.behind-next.ensures c.validate_condition_body-r.ensures c.loop-i.invariant.0 c.loop-i.invariant.2)

pub validate_conditions-loop-i-smaller : goal.validate_conditions-loop-i-smaller
validate_conditions-loop-i-smaller t c = omega (arith, c.behind-next.ensures.past c.loop-i-test.true)

pub validate_conditions-loop-i-preserved : goal.validate_conditions-loop-i-preserved
validate_conditions-loop-i-preserved t c = (
  omega (arith, c.behind-next.ensures.past c.loop-i-test.true, c.loop-i.invariant.0),
  omega (arith, c.behind-next.ensures.most),
  bodies-next c.loop-i-test.true c.behind-next.ensures (goes-passed (BodyJudged _ _ _ _ _) c.in-Ok-verdict.is c.validate_condition_body-r.ensures) c.loop-i.invariant.0 c.loop-i.invariant.2,
)

pub validate_conditions-returns : goal.validate_conditions-returns
validate_conditions-returns t c = rw c.going.ensures (bodies-all c.loop-i-test.false c.loop-i.invariant.1 c.loop-i.invariant.2)

pub validate_quantifier-overflow_add-start : goal.validate_quantifier-overflow_add-start
validate_quantifier-overflow_add-start t c = omega (arith, c.requires.0.fits, c.requires.1, c.requires.2)

pub validate_quantifier-returns-then-is_wrong_bind : goal.validate_quantifier-returns-then-is_wrong_bind
validate_quantifier-returns-then-is_wrong_bind t c = quantifier-misnamed c.args.name c.bytes_of.ensures c.is_wrong_bind.ensures c.if-is_wrong_bind.true c.fail.ensures

pub validate_quantifier-overflow_add-passed : goal.validate_quantifier-overflow_add-passed
validate_quantifier-overflow_add-passed t c = omega (arith, c.requires.0.fits, c.requires.1, c.requires.2)

pub validate_quantifier-validate_operands-r-requires : goal.validate_quantifier-validate_operands-r-requires
validate_quantifier-validate_operands-r-requires t c = (record { fits = omega (arith, c.requires.0.fits, c.requires.1, c.requires.2, c.behind-mid.ensures.most, c.behind-mid.ensures.least (omega (arith, c.requires.1))) }, omega (arith, c.requires.0.fits, c.requires.1, c.requires.2, c.behind-mid.ensures.most, c.behind-mid.ensures.least (omega (arith, c.requires.1))))

pub validate_quantifier-returns-in_default : goal.validate_quantifier-returns-in_default
validate_quantifier-returns-in_default t c = quantifier-stopped c.args.schema.now c.args.rule.now c.args.words.now c.args.scope c.args.over c.args.name c.args.i c.args.end c.args.left c.requires.1 c.behind-mid.ensures c.bytes_of.ensures c.is_wrong_bind.ensures (required-right c.if-is_wrong_bind.false passed_on) c.validate_operands-r.ensures c.in_default.is

pub validate_quantifier-overflow_add-within : goal.validate_quantifier-overflow_add-within
validate_quantifier-overflow_add-within t c = omega (arith, c.requires.0.fits, c.requires.1, c.requires.2)

pub validate_quantifier-overflow_add-n : goal.validate_quantifier-overflow_add-n
validate_quantifier-overflow_add-n t c = omega (arith, c.requires.0.fits, c.requires.1, c.requires.2, c.behind-mid.ensures.most, c.behind-mid.ensures.least (omega (arith, c.requires.1)), c.validate_operands-r.ensures.at_most)

pub validate_quantifier-validate_conditions-requires : goal.validate_quantifier-validate_conditions-requires
validate_quantifier-validate_conditions-requires t c = (omega arith, (record { fits = omega (arith, c.requires.0.fits, c.requires.1, c.requires.2, c.behind-mid.ensures.most, c.behind-mid.ensures.least (omega (arith, c.requires.1)), c.validate_operands-r.ensures.at_most) }, c.requires.2))

pub validate_quantifier-returns-in-Ok-collection_of : goal.validate_quantifier-returns-in-Ok-collection_of
validate_quantifier-returns-in-Ok-collection_of t c =
    quantifier-walked c.args.schema.now c.args.rule.now c.args.words.now c.args.scope c.args.over c.args.name c.args.i c.args.end c.args.left c.requires.1 c.behind-mid.ensures c.bytes_of.ensures c.is_wrong_bind.ensures (required-right c.if-is_wrong_bind.false passed_on) (goes-passed (OperandsJudged _ _ _ _ _) c.in-Ok.is c.validate_operands-r.ensures)
    _ c.collection_of.ensures c.in-Ok-collection_of.is c.bind-inner.ensures passed_on c.validate_conditions.ensures

pub validate_quantifier-returns-in-Err : goal.validate_quantifier-returns-in-Err
validate_quantifier-returns-in-Err t c =
    quantifier-refused c.args.schema.now c.args.rule.now c.args.words.now c.args.scope c.args.over c.args.name c.args.i c.args.end c.args.left c.requires.1 c.behind-mid.ensures c.bytes_of.ensures c.is_wrong_bind.ensures (required-right c.if-is_wrong_bind.false passed_on) (goes-passed (OperandsJudged _ _ _ _ _) c.in-Ok.is c.validate_operands-r.ensures)
    c.collection_of.ensures c.in-Err.is refl c.fail-in-Err.ensures
