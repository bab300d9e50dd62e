use Rattle.text.specs.Ascii.{ascii}
use Rattle.message.specs.Tell.{not_available}
use Rattle.defect_message.proofs.LayingLaws.{laid-three}
use native.Mathlib.Omega.{arith}
use Rattle.defect_message.proofs.references.lay_not_available.Goals as goal

pub returns : goal.returns
unfolding not_available ascii
returns c = laid-three (omega arith) c.lay_quoted-a.ensures c.lay-b.ensures (c.lay_may_read.ensures _)
