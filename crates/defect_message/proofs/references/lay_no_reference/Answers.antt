use Rattle.text.specs.Ascii.{ascii}
use Rattle.message.specs.Tell.{no_reference}
use Rattle.defect_message.proofs.LayingLaws.{laid-three}
use native.Mathlib.Omega.{arith}
use Rattle.defect_message.proofs.references.lay_no_reference.Goals as goal

pub returns : goal.returns
unfolding no_reference ascii
returns c = laid-three (omega arith) c.lay_quoted-a.ensures c.lay-b.ensures (c.lay_may_read.ensures _)
