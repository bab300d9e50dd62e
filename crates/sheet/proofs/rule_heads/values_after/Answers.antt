-- `sheet::rule_heads::values_after` meets its contract: shape by shape.
use Rattle.sheet.specs.Pieces.{shape_for, values_after}
use Rattle.sheet.proofs.rule_heads.values_after.Goals as goal

pub returns-in-Literal : goal.returns-in-Literal
unfolding values_after shape_for
returns-in-Literal c = rw c.in-Literal.is

pub returns-in-Many : goal.returns-in-Many
unfolding values_after shape_for
returns-in-Many c = rw c.in-Many.is

pub returns-in-Negation : goal.returns-in-Negation
unfolding values_after shape_for
returns-in-Negation c = rw c.in-Negation.is

pub returns-in-One : goal.returns-in-One
unfolding values_after shape_for
returns-in-One c = rw c.in-One.is

pub returns-in-Two : goal.returns-in-Two
unfolding values_after shape_for
returns-in-Two c = rw c.in-Two.is

pub returns-in-Comparison : goal.returns-in-Comparison
unfolding values_after shape_for
returns-in-Comparison c = rw c.in-Comparison.is

pub returns-in-Quantifier : goal.returns-in-Quantifier
unfolding values_after shape_for
returns-in-Quantifier c = rw c.in-Quantifier.is
