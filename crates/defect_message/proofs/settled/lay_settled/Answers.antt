use Rattle.text.specs.Ascii.{ascii}
use Rattle.defect_message.proofs.SettledSteps.{settled-name, settled-message, settled-depth, settled-side, settled-valued, settled-headed}
use Rattle.defect_message.proofs.settled.lay_settled.Goals as goal

pub returns-then-number-eq11 : goal.returns-then-number-eq11
unfolding ascii
returns-then-number-eq11 c = settled-name c.if-number-eq11.true c.lay.ensures

pub returns-then-number-eq12 : goal.returns-then-number-eq12
unfolding ascii
returns-then-number-eq12 c = settled-message c.if-number-eq12.true c.lay-then-number-eq12.ensures

pub returns-then-number-eq13 : goal.returns-then-number-eq13
returns-then-number-eq13 c = settled-depth c.if-number-eq13.true c.lay_depth.ensures

pub returns-then-number-eq17 : goal.returns-then-number-eq17
returns-then-number-eq17 c = settled-side c.if-number-eq17.true c.lay_side.ensures

pub returns-then-names_value : goal.returns-then-names_value
returns-then-names_value c = settled-valued c.if-number-eq11.false c.if-number-eq12.false c.if-number-eq13.false c.if-number-eq17.false c.names_value.ensures c.word_of.ensures c.if-names_value.true c.lay_valued.ensures

pub returns : goal.returns
returns c = settled-headed c.if-number-eq11.false c.if-number-eq12.false c.if-number-eq13.false c.if-number-eq17.false c.names_value.ensures c.word_of-2.ensures c.if-names_value.false c.lay_headed.ensures
