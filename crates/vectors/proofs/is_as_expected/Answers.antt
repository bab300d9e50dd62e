-- `vectors::is_as_expected` meets its contract: it compares with the output by definition.
use Rattle.vectors.proofs.Compared.{compared}
use native.Mathlib.Omega.{arith}
use Rattle.vectors.proofs.is_as_expected.Goals as goal

pub returns : goal.returns
returns c = compared c.output-n.ensures (omega arith) c.same.ensures
