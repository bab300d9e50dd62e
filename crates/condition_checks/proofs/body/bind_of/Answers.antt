-- `condition_checks::body::bind_of` meets its contract: a quantifier's head alone has a bind.
use Rattle.sheet.specs.Places.{condition_of}
use Rattle.condition_checks.specs.Bodies.{bind_by}
use Rattle.condition_checks.proofs.BodySteps.{bind_in, bind-bad, bind-read}
use Rattle.condition_checks.proofs.body.bind_of.Goals as goal

pub returns-in_err-head : goal.returns-in_err-head
returns-in_err-head c = rw c.from_residual.ensures (bind-bad c.start_of.ensures (rw c.in_err-head.was at c.condition_head.ensures))

pub returns-in-Literal : goal.returns-in-Literal
unfolding bind_by bind_in condition_of
returns-in-Literal c = bind-read c.start_of.ensures (rw c.in_ok-head.was at c.condition_head.ensures).0 (rw c.in-Literal.is)

pub returns-in-Many : goal.returns-in-Many
unfolding bind_by bind_in condition_of
returns-in-Many c = bind-read c.start_of.ensures (rw c.in_ok-head.was at c.condition_head.ensures).0 (rw c.in-Many.is)

pub returns-in-Negation : goal.returns-in-Negation
unfolding bind_by bind_in condition_of
returns-in-Negation c = bind-read c.start_of.ensures (rw c.in_ok-head.was at c.condition_head.ensures).0 (rw c.in-Negation.is)

pub returns-in-One : goal.returns-in-One
unfolding bind_by bind_in condition_of
returns-in-One c = bind-read c.start_of.ensures (rw c.in_ok-head.was at c.condition_head.ensures).0 (rw c.in-One.is)

pub returns-in-Two : goal.returns-in-Two
unfolding bind_by bind_in condition_of
returns-in-Two c = bind-read c.start_of.ensures (rw c.in_ok-head.was at c.condition_head.ensures).0 (rw c.in-Two.is)

pub returns-in-Comparison : goal.returns-in-Comparison
unfolding bind_by bind_in condition_of
returns-in-Comparison c = bind-read c.start_of.ensures (rw c.in_ok-head.was at c.condition_head.ensures).0 (rw c.in-Comparison.is)

pub returns-in-Quantifier : goal.returns-in-Quantifier
unfolding bind_by bind_in condition_of
returns-in-Quantifier c = bind-read c.start_of.ensures (rw c.in_ok-head.was at c.condition_head.ensures).0 (rw c.in-Quantifier.is)
