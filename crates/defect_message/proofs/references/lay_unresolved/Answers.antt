use Rattle.text.specs.Ascii.{ascii}
use Rattle.defect_message.proofs.LayingLaws.{laid-two}
use native.Mathlib.Omega.{arith}
use Rattle.defect_message.proofs.references.lay_unresolved.Goals as goal

pub returns : goal.returns
unfolding ascii
returns c = laid-two (omega arith) c.lay_quoted-a.ensures c.lay.ensures
