use Rattle.text.specs.Ascii.{ascii}
use Rattle.buffer.specs.WroteLaws.{wrote_nothing}
use Rattle.defect_path.specs.Heads.{part_at}
use Rattle.sheet.specs.Places.{condition_of}
use Rattle.defect_path.proofs.condition.put_part.Goals as goal

pub returns-in-Literal : goal.returns-in-Literal
unfolding part_at condition_of
returns-in-Literal c = λ s. rw c.in-Literal.is (wrote_nothing _ _)

pub returns-in-Many : goal.returns-in-Many
unfolding part_at condition_of
returns-in-Many c = λ s. rw c.in-Many.is c.put_child.ensures

pub returns-in-Negation : goal.returns-in-Negation
unfolding part_at condition_of ascii
returns-in-Negation c = λ s. rw c.in-Negation.is c.put.ensures

pub returns-in-One : goal.returns-in-One
unfolding part_at condition_of
returns-in-One c = λ s. rw c.in-One.is c.put_operator.ensures

pub returns-in-Two : goal.returns-in-Two
unfolding part_at condition_of
returns-in-Two c = λ s. rw c.in-Two.is c.put_child-in-Two.ensures

pub returns-in-Comparison : goal.returns-in-Comparison
unfolding part_at condition_of
returns-in-Comparison c = λ s. rw c.in-Comparison.is c.put_side.ensures

pub returns-in-Quantifier : goal.returns-in-Quantifier
unfolding part_at condition_of
returns-in-Quantifier c = λ s. rw c.in-Quantifier.is c.put_scope.ensures
