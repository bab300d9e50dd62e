use Rattle.text.specs.Ascii.{ascii}
use Rattle.message.specs.Tell.{may_read}
use Rattle.defect_message.proofs.LayingLaws.{laid-four}
use native.Mathlib.Omega.{arith}
use Rattle.defect_message.proofs.words.lay_may_read.Goals as goal

pub returns : goal.returns
unfolding may_read ascii
returns c = λ t. laid-four (omega arith) c.lay-a.ensures c.lay_what-b.ensures c.lay-c.ensures c.lay_allowed.ensures
