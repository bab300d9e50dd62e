-- `text::eight_at` meets its contract.
use native.Mathlib.Omega.{arith}
use Rattle.text.proofs.DigitLaws.{eight-digits}
use Rattle.text.proofs.eight_at.Goals as goal

pub returns : goal.returns
returns c =
    eight-digits c.args.s.now c.args.at c.four_at.result c.four_at-2.result _ c.four_at.ensures c.four_at-2.ensures (omega (arith, c.wider-2.ensures, c.wider.ensures))
