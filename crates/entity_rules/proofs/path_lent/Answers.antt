-- `entity_rules::path_lent` meets its contract.
use Rattle.entity_rules.proofs.Entries.{lent-nothing, lent-all}
use native.Mathlib.Omega.{arith}
use Rattle.entity_rules.proofs.path_lent.Goals as goal

pub returns-then-res-need : goal.returns-then-res-need
returns-then-res-need c = lent-nothing _ _ _ (omega arith)

pub returns-else-res-need : goal.returns-else-res-need
returns-else-res-need c = lent-all _ _ _ (omega arith)
