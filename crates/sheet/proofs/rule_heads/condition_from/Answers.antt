-- `sheet::rule_heads::condition_from` meets its contract: shape by shape.
use Rattle.sheet.specs.Pieces.{condition_from, shape_for}
use Rattle.sheet.proofs.rule_heads.condition_from.Goals as goal

pub returns-in-Literal : goal.returns-in-Literal
unfolding condition_from shape_for
returns-in-Literal c = rw c.in-Literal.is

pub returns-in-Many : goal.returns-in-Many
unfolding condition_from shape_for
returns-in-Many c = rw c.in-Many.is

pub returns-in-Negation : goal.returns-in-Negation
unfolding condition_from shape_for
returns-in-Negation c = rw c.in-Negation.is

pub returns-in-One : goal.returns-in-One
unfolding condition_from shape_for
returns-in-One c = rw c.in-One.is

pub returns-in-Two : goal.returns-in-Two
unfolding condition_from shape_for
returns-in-Two c = rw c.in-Two.is

pub returns-in-Comparison : goal.returns-in-Comparison
unfolding condition_from shape_for
returns-in-Comparison c = rw c.in-Comparison.is

pub returns-in-Quantifier : goal.returns-in-Quantifier
unfolding condition_from shape_for
returns-in-Quantifier c = rw c.in-Quantifier.is
