use Rattle.text.specs.Ascii.{ascii}
use Rattle.message.specs.Tell.{no_member}
use Rattle.defect_message.proofs.LayingLaws.{laid-six}
use native.Mathlib.Omega.{arith}
use Rattle.defect_message.proofs.refusal.lay_no_member.Goals as goal

pub returns : goal.returns
unfolding no_member ascii
returns c = laid-six (omega arith) c.lay_quoted-a.ensures c.lay-b.ensures c.lay_kind-c.ensures c.lay-d.ensures c.lay_quoted-e.ensures c.lay.ensures
