use Rattle.defect_message.proofs.LayingLaws.{laid-two}
use native.Mathlib.Omega.{arith}
use Rattle.defect_message.proofs.collections.lay_named.Goals as goal

pub returns : goal.returns
returns c = laid-two (omega arith) c.lay_quoted-next.ensures c.lay.ensures
