-- `text::is_ascii_8` meets its contract: a number without any byte's highest bit has ASCII bytes only.
use native.Mathlib.Omega.{arith}
use mathlib.Core.Path.{refl}
use borrow.Author.Tests.{eqb-true}
use Rattle.text.specs.Digits.{number, high_bits}
use Rattle.text.proofs.DigitLaws.{digits-ascii}
use Rattle.text.proofs.is_ascii_8.Goals as goal

pub returns : goal.returns
unfolding number high_bits
returns c t = digits-ascii 8 8 c.args.s.now c.args.at (omega arith) c.eight_at.ensures refl (eqb-true _ _ t)
