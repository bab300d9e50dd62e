use Rattle.defect_message.proofs.LayingLaws.{laid-three}
use native.Mathlib.Omega.{arith}
use Rattle.defect_message.proofs.collections.lay_between.Goals as goal

pub returns : goal.returns
returns c = laid-three (omega arith) c.lay-a.ensures c.lay_kind-b.ensures c.lay.ensures
