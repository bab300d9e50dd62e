use Rattle.text.specs.Ascii.{ascii}
use Rattle.defect_message.proofs.RefusalLaws.{carried-content, carried-value}
use Rattle.defect_message.proofs.refusal.lay_carried.Goals as goal

pub returns-then-same_bytes : goal.returns-then-same_bytes
unfolding ascii
returns-then-same_bytes c = carried-content _ c.same_bytes.ensures c.if-same_bytes.true c.lay_both.ensures

pub returns : goal.returns
unfolding ascii
returns c = carried-value _ c.same_bytes.ensures c.if-same_bytes.false c.lay_both-2.ensures
