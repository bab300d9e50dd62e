-- `condition_checks::body::validate_entry` meets its contract: a service operator is there under service alone.
use native.Mathlib.Omega.{arith}
use Rattle.condition_checks.proofs.BodySteps.{operator-service, operator-fails, entry-early, entry-late}
use Rattle.condition_checks.proofs.body.validate_entry.Goals as goal

pub pass-requires : goal.pass-requires
pass-requires c = record { fits = omega (arith, c.requires.0.fits) }

pub returns-then-scope : goal.returns-then-scope
returns-then-scope c =
    let s = c.is_service_operator.ensures in
    let t = c.if-is_service_operator.true in
    entry-late s t (operator-service s t c.if-scope.true c.pass.ensures)

pub returns-then-is_service_operator : goal.returns-then-is_service_operator
returns-then-is_service_operator c =
    let s = c.is_service_operator.ensures in
    let t = c.if-is_service_operator.true in
    entry-late s t (operator-fails s t c.if-scope.false c.fail.ensures)

pub overflow_add-passed : goal.overflow_add-passed
overflow_add-passed c = omega (arith, c.requires.0.fits)

pub validate_nonempty-requires : goal.validate_nonempty-requires
validate_nonempty-requires c = (record { fits = omega (arith, c.requires.0.fits) }, c.requires.1)

pub returns : goal.returns
returns c = entry-early c.is_service_operator.ensures c.if-is_service_operator.false c.validate_nonempty.ensures
