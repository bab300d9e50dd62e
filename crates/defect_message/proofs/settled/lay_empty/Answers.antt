use Rattle.text.specs.Ascii.{ascii}
use Rattle.defect_message.proofs.SettledSteps.{empty-laid}
use native.Mathlib.Omega.{arith}
use Rattle.defect_message.proofs.settled.lay_empty.Goals as goal

pub returns : goal.returns
unfolding ascii
returns c = empty-laid _ (omega arith) c.lay_byte-a.ensures c.lay_operator-b.ensures c.lay.ensures
