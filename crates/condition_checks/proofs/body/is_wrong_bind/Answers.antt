-- `condition_checks::body::is_wrong_bind` meets its contract.
use mathlib.Core.Path.{sym, ◌∙◌}
use Rattle.condition_checks.proofs.BodySteps.{dot-parts}
use Rattle.condition_checks.proofs.body.is_wrong_bind.Goals as goal

pub returns-then-is_blank : goal.returns-then-is_blank
returns-then-is_blank c = rw (sym c.is_blank.ensures, c.if-is_blank.true)

pub returns : goal.returns
returns c = rw (sym c.is_blank.ensures, c.if-is_blank.false) (c.has_dot.ensures ∙ sym (dot-parts _))
