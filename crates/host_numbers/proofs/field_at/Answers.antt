-- `host_numbers::field_at` meets its contract.
use Rattle.host_numbers.proofs.CountSteps.{field-missing, field-there}
use native.Mathlib.Omega.{arith}
use Rattle.host_numbers.proofs.field_at.Goals as goal

pub returns-then-res-at : goal.returns-then-res-at
returns-then-res-at c = field-missing _ _ (omega arith)

pub returns : goal.returns
returns c = field-there _ _ _ (omega arith) c.read_u32.ensures
