-- `json_laying::lay_comma` meets its contract.
use native.Mathlib.Omega.{arith}
use Rattle.json_laying.proofs.Laying.{comma-laid, no-comma}
use Rattle.json_laying.proofs.lay_comma.Goals as goal

pub returns-then-i-end : goal.returns-then-i-end
returns-then-i-end c = comma-laid _ _ (omega arith) c.lay_byte.ensures

pub returns : goal.returns
returns c = no-comma _ _ _ _ (omega arith) (omega arith)
