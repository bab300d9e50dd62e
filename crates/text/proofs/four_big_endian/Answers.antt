-- `text::four_big_endian` meets its contract.
use native.Mathlib.Omega.{arith}
use Rattle.text.proofs.DigitLaws.{four-big-endian}
use Rattle.text.proofs.four_big_endian.Goals as goal

pub returns : goal.returns
returns c =
    four-big-endian c.args.s.now c.args.at c.four.result (λ i. omega (arith, c.shared_slice_known-5-1.given i)) c.four.ensures
