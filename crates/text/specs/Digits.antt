-- Bytes as the digits of one number.
use Rattle.std.specs.Prelude.{ℕ, zero, suc, ◌+◌, ◌*◌, ◌<◌, List, ◌≡◌, get_or}

-- the number to base 256 of so many digits, the lowest first
unfoldable pub number : ℕ → (ℕ → ℕ) → ℕ
number zero digit = 0
number (suc n) digit = digit 0 + 256 * number n (λ k. digit (suc k))

-- the highest bits of `n` bytes
unfoldable pub high_bits : ℕ → ℕ
high_bits n = number n (λ k. 0x80)

-- `n` bytes of a text, from a place on, are the digits of a number
pub record Digits (n : ℕ) (s : List ℕ) (at value : ℕ) : Type 0 where
  pub value-is : value ≡ number n (λ k. get_or s (at + k) 0)
  pub below : (i : ℕ) → get_or s i 0 < 256

-- the number to base 256 whose digits are those of `so_far`, then `n` bytes of a text from a place on: the first is the highest
unfoldable pub big_endian : ℕ → List ℕ → ℕ → ℕ → ℕ
big_endian zero s at so_far = so_far
big_endian (suc n) s at so_far = big_endian n s (at + 1) (so_far * 256 + get_or s at 0)

-- `n` bytes of a text, from a place on, are the digits of a number, the highest first
pub record BigEndian (n : ℕ) (s : List ℕ) (at value : ℕ) : Type 0 where
  pub value-is : value ≡ big_endian n s at 0
  pub below : (i : ℕ) → get_or s i 0 < 256
