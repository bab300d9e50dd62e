use Rattle.text.specs.Ascii.{ascii}
use Rattle.defect_message.proofs.SettledSteps.{valued-literal, valued-affix, valued-instant}
use Rattle.defect_message.proofs.settled.lay_valued.Goals as goal

pub returns-then-number-eq14 : goal.returns-then-number-eq14
unfolding ascii
returns-then-number-eq14 c = valued-literal _ _ c.if-number-eq14.true c.lay_value_and.ensures

pub returns-then-number-eq19 : goal.returns-then-number-eq19
unfolding ascii
returns-then-number-eq19 c = valued-affix _ _ c.if-number-eq19.true c.lay_value_and-then-number-eq19.ensures

pub returns : goal.returns
returns c = valued-instant _ _ c.if-number-eq14.false c.if-number-eq19.false c.lay_instant.ensures
