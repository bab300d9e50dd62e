-- `text::four_at` meets its contract.
use native.Mathlib.Omega.{arith}
use Rattle.text.proofs.DigitLaws.{four-digits}
use Rattle.text.proofs.four_at.Goals as goal

pub returns : goal.returns
returns c =
    four-digits c.args.s.now c.args.at c.four.result (λ i. omega (arith, c.shared_slice_known-5-1.given i)) c.four.ensures
