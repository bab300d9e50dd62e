-- `timestamp::is_marked_two` meets its contract.
use mathlib.Core.Path.{ap}
use lib.Dec.{eqb}
use borrow.Author.Tests.{eq-eqb, ne_eqb}
use Rattle.timestamp.specs.Instant.{is_marked_two}
use Rattle.text.proofs.Bools.{and-taken, and_none}
use Rattle.timestamp.proofs.is_marked_two.Goals as goal

pub returns-then-byte_at-mark : goal.returns-then-byte_at-mark
unfolding is_marked_two
returns-then-byte_at-mark c =
    and-taken _ _ (ap (λ x. eqb x c.args.mark) c.byte_at.ensures)
    (eq-eqb _ _ c.if-byte_at-mark.true) c.is_two.ensures

pub returns-else-byte_at-mark : goal.returns-else-byte_at-mark
unfolding is_marked_two
returns-else-byte_at-mark c =
    and_none _ _ (ap (λ x. eqb x c.args.mark) c.byte_at.ensures)
    (ne_eqb _ _ c.if-byte_at-mark.false)
