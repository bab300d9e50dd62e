-- `rule::condition::operands_of` meets its contract, a head at a time.
use Rattle.rule.specs.Read.{operands_of}
use Rattle.rule.proofs.condition.operands_of.Goals as goal

pub returns-in-Literal : goal.returns-in-Literal
unfolding operands_of
returns-in-Literal c = rw c.in-Literal.is

pub returns-in-Many : goal.returns-in-Many
unfolding operands_of
returns-in-Many c = rw c.in-Many.is

pub returns-in-Negation : goal.returns-in-Negation
unfolding operands_of
returns-in-Negation c = rw c.in-Negation.is

pub returns-in-One : goal.returns-in-One
unfolding operands_of
returns-in-One c = rw c.in-One.is

pub returns-in-Two : goal.returns-in-Two
unfolding operands_of
returns-in-Two c = rw c.in-Two.is

pub returns-in-Comparison : goal.returns-in-Comparison
unfolding operands_of
returns-in-Comparison c = rw c.in-Comparison.is

pub returns-in-Quantifier : goal.returns-in-Quantifier
unfolding operands_of
returns-in-Quantifier c = rw c.in-Quantifier.is
