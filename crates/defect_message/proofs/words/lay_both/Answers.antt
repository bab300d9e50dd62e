use Rattle.defect_message.proofs.LayingLaws.{laid-four}
use native.Mathlib.Omega.{arith}
use Rattle.defect_message.proofs.words.lay_both.Goals as goal

pub returns : goal.returns
returns c = laid-four (omega arith) c.lay_quoted-first.ensures c.lay-next.ensures c.lay_quoted-second.ensures c.lay.ensures
