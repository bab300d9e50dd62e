use Rattle.defect_path.specs.Heads.{is_whole}
use Rattle.sheet.specs.Places.{condition_of}
use Rattle.defect_path.proofs.condition.is_whole.Goals as goal

pub returns-in-Literal : goal.returns-in-Literal
unfolding is_whole condition_of
returns-in-Literal c = λ s. rw c.in-Literal.is

pub returns-in-Many : goal.returns-in-Many
unfolding is_whole condition_of
returns-in-Many c = λ s. rw c.in-Many.is

pub returns-in-Negation : goal.returns-in-Negation
unfolding is_whole condition_of
returns-in-Negation c = λ s. rw c.in-Negation.is

pub returns-in-One : goal.returns-in-One
unfolding is_whole condition_of
returns-in-One c = λ s. rw c.in-One.is

pub returns-in-Two : goal.returns-in-Two
unfolding is_whole condition_of
returns-in-Two c = λ s. rw c.in-Two.is

pub returns-in-Comparison : goal.returns-in-Comparison
unfolding is_whole condition_of
returns-in-Comparison c = λ s. rw c.in-Comparison.is

pub returns-in-Quantifier : goal.returns-in-Quantifier
unfolding is_whole condition_of
returns-in-Quantifier c = λ s. rw c.in-Quantifier.is
