-- Counts as bytes, eight for each, least significant first; how they lie in a result, and what `rulecheck_count` reads (docs/FORMAT.md, "The C interface").
use Rattle.std.specs.Prelude.{ℕ, ◌+◌, ◌*◌, ◌/◌, ◌%◌, ◌^◌, ◌<◌, cond, List, [], ◌∷◌, ◌++◌, leb, length}
use Rattle.std.proofs.lemmas.List.Edits.{sets}
use Rattle.buffer.specs.Bytes.{little_endian, number_at}

-- those of the lower half, then those of the upper
unfoldable pub eight_bytes : ℕ → List ℕ
eight_bytes n = little_endian (n % 256 ^ 4) ++ little_endian (n / 256 ^ 4)

unfoldable pub long_bytes_of : List ℕ → List ℕ
long_bytes_of [] = []
long_bytes_of (n ∷ ns) = eight_bytes n ++ long_bytes_of ns

-- numbers of 64 bits at most, so that eight bytes hold each
pub data InEightBytes : List ℕ → Type 0 where
  no_more : InEightBytes []
  one_more : {n : ℕ} {ns : List ℕ} → n < 2 ^ 64 → InEightBytes ns → InEightBytes (n ∷ ns)

-- the number that eight bytes stand for, the first of them at `at`
unfoldable pub long_at : (at : ℕ) → List ℕ → ℕ
long_at at bytes = number_at at bytes + number_at (at + 4) bytes * 256 ^ 4

-- a number by its index, or 0 where its bytes do not all lie in the buffer
unfoldable pub count_at : (index : ℕ) → List ℕ → ℕ
count_at index bytes = cond (leb (8 * index + 8) (length bytes)) (long_at (8 * index) bytes) 0

-- the result buffer after a call: the numbers lie at its start, and all other bytes keep their values; one too short for them is unchanged
unfoldable pub counts_after : (numbers before : List ℕ) → List ℕ
counts_after numbers before = cond (leb (8 * length numbers) (length before)) (sets before 0 (long_bytes_of numbers)) before
