-- `value_checks::operand::validate_affix` meets its contract: only a text passes.
use Rattle.value_checks.proofs.OperandSteps.{affix-passes, affix-fails}
use Rattle.value_checks.proofs.operand.validate_affix.Goals as goal

pub pass-requires : goal.pass-requires
pass-requires c = c.requires.0

pub returns-then-type_at-eq-STRING : goal.returns-then-type_at-eq-STRING
returns-then-type_at-eq-STRING c = affix-passes c.start_of.ensures c.type_at.ensures c.if-type_at-eq-STRING.true c.pass.ensures

pub returns : goal.returns
returns c = affix-fails c.start_of.ensures c.type_at.ensures c.if-type_at-eq-STRING.false c.fail.ensures
