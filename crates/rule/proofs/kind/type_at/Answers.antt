-- `rule::kind::type_at` meets its contract.
use Rattle.rule.proofs.KindSteps.{type-byte}
use Rattle.rule.proofs.kind.type_at.Goals as goal

pub returns : goal.returns
returns c = type-byte c.byte_after.ensures
