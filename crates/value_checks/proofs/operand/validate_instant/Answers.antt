-- `value_checks::operand::validate_instant` meets its contract: a reference and a literal pass.
use Rattle.value_checks.specs.Frames.{form_of}
use Rattle.value_checks.proofs.OperandSteps.{instant-passes, instant-fails}
use Rattle.value_checks.proofs.operand.validate_instant.Goals as goal

pub pass-requires : goal.pass-requires
pass-requires c = c.requires.0

pub returns-in-Ok : goal.returns-in-Ok
unfolding form_of
returns-in-Ok c = instant-passes c.instant_form.ensures (rw c.in-Ok.is) c.pass.ensures

pub returns-in-Err : goal.returns-in-Err
returns-in-Err c = instant-fails c.instant_form.ensures c.in-Err.is c.fail.ensures
