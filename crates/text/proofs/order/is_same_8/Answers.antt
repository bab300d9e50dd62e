-- `text::order::is_same_8` meets its contract: numbers that are equal have equal digits.
use borrow.Author.Tests.{eqb-true}
use Rattle.text.proofs.DigitLaws.{same_digits}
use Rattle.text.proofs.order.is_same_8.Goals as goal

pub returns : goal.returns
returns c t =
    same_digits 8 c.args.a.now c.args.b.now c.args.i c.eight_at.ensures c.eight_at-2.ensures (eqb-true _ _ t)
