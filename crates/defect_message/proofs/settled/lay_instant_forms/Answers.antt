use Rattle.text.specs.Ascii.{ascii}
use Rattle.message.specs.Message.{instant_forms}
use Rattle.defect_message.proofs.LayingLaws.{laid-two}
use native.Mathlib.Omega.{arith}
use Rattle.defect_message.proofs.settled.lay_instant_forms.Goals as goal

pub returns : goal.returns
unfolding instant_forms ascii
returns c = laid-two (omega arith) c.lay-next.ensures c.lay.ensures
