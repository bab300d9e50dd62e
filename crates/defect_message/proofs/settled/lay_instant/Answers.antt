use Rattle.text.specs.Ascii.{ascii}
use Rattle.defect_message.proofs.SettledSteps.{instant-escaped, instant-unread}
use native.Mathlib.Omega.{arith}
use Rattle.defect_message.proofs.settled.lay_instant.Goals as goal

pub returns-then-detail-eq1 : goal.returns-then-detail-eq1
unfolding ascii
returns-then-detail-eq1 c = instant-escaped _ (omega arith) c.if-detail-eq1.true c.lay_value_and-a.ensures c.lay_unescaped-b.ensures c.lay-c.ensures c.lay_instant_forms.ensures

pub returns : goal.returns
unfolding ascii
returns c = instant-unread _ (omega arith) c.if-detail-eq1.false c.lay_value_and-a-2.ensures c.lay_instant_forms-2.ensures
