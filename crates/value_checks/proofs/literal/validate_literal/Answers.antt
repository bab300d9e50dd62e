-- `value_checks::literal::validate_literal` meets its contract: only a number is asked.
use Rattle.value_checks.proofs.LiteralSteps.{literal-other, literal-number}
use Rattle.value_checks.proofs.literal.validate_literal.Goals as goal

pub returns-then-has_type : goal.returns-then-has_type
returns-then-has_type c = literal-number c.start_of-at.ensures c.has_type.ensures c.if-has_type.true c.text_at.ensures c.bytes_of.ensures c.is_finite-finite.ensures c.require.ensures

pub returns : goal.returns
returns c = rw c.going.ensures (literal-other c.start_of-at.ensures c.has_type.ensures c.if-has_type.false)
