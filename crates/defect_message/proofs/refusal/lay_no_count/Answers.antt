use Rattle.text.specs.Ascii.{ascii}
use Rattle.message.specs.Tell.{no_count}
use Rattle.defect_message.proofs.LayingLaws.{laid-four}
use native.Mathlib.Omega.{arith}
use Rattle.defect_message.proofs.refusal.lay_no_count.Goals as goal

pub returns : goal.returns
unfolding no_count ascii
returns c = laid-four (omega arith) c.lay_quoted-a.ensures c.lay-b.ensures c.lay_kind-c.ensures c.lay.ensures
