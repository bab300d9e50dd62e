-- `condition_checks::rules::validate_rule_definition` meets its contract: name, message, depth, literals, body.
use native.Mathlib.Omega.{arith}
use Rattle.value_checks.proofs.Going.{goes-passed, passed_on, required-right}
use Rattle.condition_checks.specs.Rules.{PassJudged}
use Rattle.condition_checks.proofs.BodySteps.{body-stopped}
use Rattle.condition_checks.proofs.RuleSteps.{definition-unnamed, definition-untold, definition-none, definition-deep, definition-judged}
use Rattle.condition_checks.proofs.rules.validate_rule_definition.Goals as goal

pub returns-then-is_blank_text : goal.returns-then-is_blank_text
returns-then-is_blank_text c = definition-unnamed c.is_blank_text.ensures c.if-is_blank_text.true c.fail.ensures

pub returns-then-is_blank_text-2 : goal.returns-then-is_blank_text-2
returns-then-is_blank_text-2 c = definition-untold c.is_blank_text.ensures c.is_blank_text-2.ensures (required-right c.if-is_blank_text.false passed_on) c.if-is_blank_text-2.true c.fail-then-is_blank_text-2.ensures

pub returns-then-end-le1 : goal.returns-then-end-le1
returns-then-end-le1 c = definition-none c.if-end-le1.true

pub condition_depth-requires : goal.condition_depth-requires
condition_depth-requires c = (omega (arith, c.if-end-le1.false), omega (arith, c.requires))

pub returns-then-most-condition_depth : goal.returns-then-most-condition_depth
returns-then-most-condition_depth c = definition-deep c.is_blank_text.ensures c.is_blank_text-2.ensures (required-right c.if-is_blank_text.false passed_on) (required-right c.if-is_blank_text-2.false passed_on) c.condition_depth.ensures c.if-most-condition_depth.true c.fail-then-most-condition_depth.ensures

pub validate_condition_literals-r-requires : goal.validate_condition_literals-r-requires
validate_condition_literals-r-requires c = (record { fits = omega (arith, c.requires) }, omega (arith, c.requires))

pub returns-in_default : goal.returns-in_default
returns-in_default c = definition-judged c.is_blank_text.ensures c.is_blank_text-2.ensures (required-right c.if-is_blank_text.false passed_on) (required-right c.if-is_blank_text-2.false passed_on) c.condition_depth.ensures c.if-most-condition_depth.false passed_on c.validate_condition_literals-r.ensures (body-stopped c.in_default.is)

pub validate_condition_body-requires : goal.validate_condition_body-requires
validate_condition_body-requires c = (record { fits = omega (arith, c.validate_condition_literals-r.ensures.at_most, c.requires) }, omega (arith, c.if-end-le1.false), c.requires)

pub returns : goal.returns
returns c = definition-judged c.is_blank_text.ensures c.is_blank_text-2.ensures (required-right c.if-is_blank_text.false passed_on) (required-right c.if-is_blank_text-2.false passed_on) c.condition_depth.ensures c.if-most-condition_depth.false passed_on
    (goes-passed (PassJudged _ _ _ _ _) c.in-Ok.is c.validate_condition_literals-r.ensures) c.validate_condition_body.ensures
