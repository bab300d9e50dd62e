-- Which bytes are digits.
use Rattle.std.specs.Prelude.{ℕ, ◌+◌, ◌<◌, ◌≤◌, ◌≡◌, true, leb}
use Rattle.std.proofs.Common.{arith, leb-true, le-leb}
use Rattle.std.proofs.Math.Bool.{and-eq-true_iff}
use Rattle.text.specs.Decimal.{is_digit}

pub is_digit-range : (b : ℕ) → is_digit b ≡ true → (48 ≤ b) × (b ≤ 57)
unfolding is_digit
is_digit-range b e = let h = (and-eq-true_iff (leb 48 b) (leb b 57)).0 e in (leb-true 48 b h.0, leb-true b 57 h.1)

pub is_digit-of : (d : ℕ) → d < 10 → is_digit (48 + d) ≡ true
unfolding is_digit
is_digit-of d h = rw (le-leb 48 (48 + d) (omega arith), le-leb (48 + d) 57 (omega arith))
