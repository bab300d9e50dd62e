-- `number::magnitude::level_of` meets its contract: the place of the first nonzero digit, without a sum that could pass the largest `usize`.
use mathlib.Core.Path.{◌∙◌, sym}
use Rattle.number.specs.FirstDigit.{level_of}
use Rattle.number.proofs.Levels.{level-behind, level_before, level-high}
use Rattle.number.proofs.magnitude.level_of.Goals as goal

pub returns-then-places-zeros : goal.returns-then-places-zeros
returns-then-places-zeros c = rw c.if-lowered.true (sym (level-behind _ _ _ c.if-places-zeros.true))

pub returns-then-lowered : goal.returns-then-lowered
returns-then-lowered c = rw c.if-lowered.true (c.order.ensures ∙ level_before _ _ _ c.if-places-zeros.false)

pub returns-then-zeros-exponent : goal.returns-then-zeros-exponent
returns-then-zeros-exponent c = rw c.if-lowered.false (sym (level-high _ _ _ c.if-zeros-exponent.true))

pub returns : goal.returns
unfolding level_of
returns c = rw c.if-lowered.false c.order-2.ensures
