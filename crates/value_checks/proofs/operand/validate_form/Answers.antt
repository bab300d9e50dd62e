-- `value_checks::operand::validate_form` meets its contract: by the operator, an instant, a string or anything.
use Rattle.value_checks.proofs.OperandSteps.{after-instant, after-affix, after-other}
use Rattle.value_checks.proofs.operand.validate_form.Goals as goal

pub validate_instant-requires : goal.validate_instant-requires
validate_instant-requires c = c.requires

pub returns-then-is_instant_test : goal.returns-then-is_instant_test
returns-then-is_instant_test c = after-instant c.args.op c.is_instant_test.ensures c.if-is_instant_test.true c.validate_instant.ensures

pub validate_affix-requires : goal.validate_affix-requires
validate_affix-requires c = c.requires

pub returns-then-is_affix : goal.returns-then-is_affix
returns-then-is_affix c = after-affix c.args.op c.is_instant_test.ensures c.is_affix.ensures c.if-is_instant_test.false c.if-is_affix.true c.validate_affix.ensures

pub returns : goal.returns
returns c = rw c.going.ensures (after-other c.args.op c.is_instant_test.ensures c.is_affix.ensures c.if-is_instant_test.false c.if-is_affix.false)
