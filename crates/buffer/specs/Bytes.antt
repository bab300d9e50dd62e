-- Numbers as bytes, four for each, least significant first.
use Rattle.std.specs.Prelude.{ℕ, ◌+◌, ◌*◌, ◌/◌, ◌%◌, ◌^◌, ◌<◌, cond, List, [], ◌∷◌, ◌++◌, leb, length, get_or}

unfoldable pub little_endian : ℕ → List ℕ
little_endian n = n % 256 ∷ n / 256 % 256 ∷ n / 256 ^ 2 % 256 ∷ n / 256 ^ 3 % 256 ∷ []

unfoldable pub bytes_of : List ℕ → List ℕ
bytes_of [] = []
bytes_of (n ∷ ns) = little_endian n ++ bytes_of ns

-- numbers of 32 bits at most, so that four bytes hold each
pub data InFourBytes : List ℕ → Type 0 where
  no_more : InFourBytes []
  one_more : {n : ℕ} {ns : List ℕ} → n < 2 ^ 32 → InFourBytes ns → InFourBytes (n ∷ ns)

-- the number that four bytes stand for, the first of them at `at`
unfoldable pub number_at : (at : ℕ) → List ℕ → ℕ
number_at at bytes =
    get_or bytes at 0
    + get_or bytes (at + 1) 0 * 256
    + get_or bytes (at + 2) 0 * 256 ^ 2
    + get_or bytes (at + 3) 0 * 256 ^ 3

-- a number by its index, or 0 where its bytes do not all lie in the buffer
unfoldable pub field_at : (index : ℕ) → List ℕ → ℕ
field_at index bytes = cond (leb (4 * index + 4) (length bytes)) (number_at (4 * index) bytes) 0
