use Rattle.defect_message.proofs.LayingLaws.{laid-two}
use native.Mathlib.Omega.{arith}
use Rattle.defect_message.proofs.collections.lay_naming.Goals as goal

pub returns : goal.returns
returns c = laid-two (omega arith) c.lay-next.ensures c.lay_quoted.ensures
