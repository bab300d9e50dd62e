use Rattle.text.specs.Ascii.{ascii}
use Rattle.defect_message.proofs.RefusalLaws.{union-tagged, union-untagged}
use native.Mathlib.Omega.{arith}
use Rattle.defect_message.proofs.refusal.lay_union.Goals as goal

pub returns-in-Some : goal.returns-in-Some
unfolding ascii
returns-in-Some c = union-tagged _ _ _ (omega arith) c.in-Some.is c.lay_both-next.ensures c.bytes_of.ensures c.lay_carried.ensures

pub returns-in-None : goal.returns-in-None
unfolding ascii
returns-in-None c = union-untagged _ _ _ (omega arith) c.in-None.is c.lay_both-next.ensures c.lay_both.ensures
