-- `timestamp::is_fraction` meets its contract.
use mathlib.Core.Path.{ap, ◌∙◌}
use lib.Dec.{eqb}
use borrow.Author.Tests.{eq-eqb, ne_eqb}
use Rattle.text.specs.Decimal.{is_digit}
use Rattle.timestamp.specs.Instant.{is_end, is_fraction}
use Rattle.text.proofs.Bools.{and-taken, and_none}
use Rattle.timestamp.proofs.is_fraction.Goals as goal

pub returns-then-is_digit : goal.returns-then-is_digit
unfolding is_fraction
returns-then-is_digit c =
    and-taken _ _ (ap (λ x. eqb x 0x2E) c.byte_at.ensures)
    (eq-eqb _ _ c.if-byte_at-eq46.true)
    (and-taken _ _
    (c.is_digit.ensures ∙ ap is_digit c.byte_at-then-byte_at-eq46.ensures)
    c.if-is_digit.true
    (c.is_end.ensures ∙ ap (λ n. is_end c.args.s.now n)
    c.fraction_end.ensures.0))

pub returns-else-is_digit : goal.returns-else-is_digit
unfolding is_fraction
returns-else-is_digit c =
    and-taken _ _ (ap (λ x. eqb x 0x2E) c.byte_at.ensures)
    (eq-eqb _ _ c.if-byte_at-eq46.true)
    (and_none _ _ (c.is_digit.ensures ∙ ap is_digit c.byte_at-then-byte_at-eq46.ensures) c.if-is_digit.false)

pub returns-else-byte_at-eq46 : goal.returns-else-byte_at-eq46
unfolding is_fraction
returns-else-byte_at-eq46 c = and_none _ _ (ap (λ x. eqb x 0x2E) c.byte_at.ensures) (ne_eqb _ _ c.if-byte_at-eq46.false)
