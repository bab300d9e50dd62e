-- `timestamp::is_end` meets its contract.
use mathlib.Core.Path.{refl, ap, ◌∙◌}
use borrow.Author.Tests.{eq-eqb, ne_eqb}
use Rattle.timestamp.specs.Instant.{is_zone, is_end}
use Rattle.text.proofs.Bools.{and-taken, and_left}
use Rattle.timestamp.proofs.is_end.Goals as goal

pub returns-then-s-at : goal.returns-then-s-at
unfolding is_end
returns-then-s-at c = rw (eq-eqb _ _ c.if-s-at.true)

pub returns-then-is_zone : goal.returns-then-is_zone
unfolding is_end
returns-then-is_zone c =
    rw (ne_eqb _ _ c.if-s-at.false)
    (and-taken _ _ (c.is_zone.ensures ∙ ap is_zone c.byte_at.ensures) c.if-is_zone.true refl)

pub returns-else-is_zone : goal.returns-else-is_zone
unfolding is_end
returns-else-is_zone c =
    rw (ne_eqb _ _ c.if-s-at.false)
    (and_left _ _ (c.is_zone.ensures ∙ ap is_zone c.byte_at.ensures) c.if-is_zone.false)
