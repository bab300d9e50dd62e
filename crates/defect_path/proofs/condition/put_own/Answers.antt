use Rattle.buffer.specs.WroteLaws.{wrote_nothing}
use Rattle.defect_path.specs.Heads.{own_part}
use Rattle.sheet.specs.Places.{condition_of}
use borrow.Author.Tests.{le-leb, lt-leb}
use Rattle.validation.specs.Location.{at_quantifier}
use Rattle.defect_path.proofs.condition.put_own.Goals as goal

pub returns-then-number-ge-BIND : goal.returns-then-number-ge-BIND
unfolding own_part condition_of at_quantifier
returns-then-number-ge-BIND c = λ s. rw (c.in-Quantifier.is, le-leb 21 _ c.if-number-ge-BIND.true) c.put_operator.ensures

pub returns-in-Literal : goal.returns-in-Literal
unfolding own_part condition_of
returns-in-Literal c = λ s. rw c.in-Literal.is (wrote_nothing _ _)

pub returns-in-Many : goal.returns-in-Many
unfolding own_part condition_of
returns-in-Many c = λ s. rw c.in-Many.is (wrote_nothing _ _)

pub returns-in-Negation : goal.returns-in-Negation
unfolding own_part condition_of
returns-in-Negation c = λ s. rw c.in-Negation.is (wrote_nothing _ _)

pub returns-in-One : goal.returns-in-One
unfolding own_part condition_of
returns-in-One c = λ s. rw c.in-One.is (wrote_nothing _ _)

pub returns-in-Two : goal.returns-in-Two
unfolding own_part condition_of
returns-in-Two c = λ s. rw c.in-Two.is (wrote_nothing _ _)

pub returns-in-Comparison : goal.returns-in-Comparison
unfolding own_part condition_of
returns-in-Comparison c = λ s. rw c.in-Comparison.is (wrote_nothing _ _)

pub returns-else-number-ge-BIND : goal.returns-else-number-ge-BIND
unfolding own_part condition_of at_quantifier
returns-else-number-ge-BIND c = λ s. rw (c.in-Quantifier.is, lt-leb 21 _ c.if-number-ge-BIND.false) (wrote_nothing _ _)
