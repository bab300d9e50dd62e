-- Counts that were written into a result are read back as they were.
use Rattle.std.specs.Prelude.{ℕ, zero, suc, ◌+◌, ◌*◌, ◌/◌, ◌%◌, ◌^◌, ◌≤◌, ◌<◌, List, [], ◌∷◌, ◌++◌, ◌≡◌, refl, length, drop, get_or}
use Rattle.std.proofs.Common.{arith, append_assoc, le-leb}
use Rattle.std.proofs.lemmas.List.Edits.{sets-eq}
use Rattle.std.proofs.Math.Seq.{length-sets}
use Rattle.buffer.specs.Bytes.{little_endian, bytes_of, InFourBytes}
use Rattle.buffer.specs.Bytes as four
use Rattle.buffer.specs.BytesLaws.{number-of-bytes}
use Rattle.host_numbers.specs.Counts.{eight_bytes, long_bytes_of, InEightBytes, no_more, one_more, long_at, count_at, counts_after}

-- Numbers of eight bytes are numbers of four, two for each.

unfoldable halves_of : List ℕ → List ℕ
halves_of [] = []
halves_of (n ∷ ns) = n % 256 ^ 4 ∷ n / 256 ^ 4 ∷ halves_of ns

long-halves : (ns : List ℕ) → long_bytes_of ns ≡ bytes_of (halves_of ns)
unfolding long_bytes_of eight_bytes bytes_of halves_of
long-halves [] = refl
long-halves (n ∷ ns) = rw (append_assoc, long-halves ns)

halves-count : (ns : List ℕ) → length (halves_of ns) ≡ 2 * length ns
unfolding halves_of
halves-count [] = refl
halves-count (n ∷ ns) = omega (arith, halves-count ns)

halves-fit : (ns : List ℕ) → InEightBytes ns → InFourBytes (halves_of ns)
unfolding halves_of
halves-fit [] no_more = four.no_more
halves-fit (n ∷ ns) (one_more h hs) =
    four.one_more {n = n % 256 ^ 4} (omega arith) (four.one_more {n = n / 256 ^ 4} (omega arith) (halves-fit ns hs))

lower-half : (ns : List ℕ) (i : ℕ) → i < length ns → get_or (halves_of ns) (2 * i) 0 ≡ get_or ns i 0 % 4294967296
unfolding halves_of
lower-half [] i less = absurd (omega arith)
lower-half (n ∷ ns) zero less = refl
lower-half (n ∷ ns) (suc i) less =
    let place : 2 * suc i ≡ suc (suc (2 * i)) = omega arith in
    rw place (lower-half ns i (omega arith))

upper-half : (ns : List ℕ) (i : ℕ) → i < length ns → get_or (halves_of ns) (2 * i + 1) 0 ≡ get_or ns i 0 / 4294967296
unfolding halves_of
upper-half [] i less = absurd (omega arith)
upper-half (n ∷ ns) zero less = refl
upper-half (n ∷ ns) (suc i) less =
    let place : 2 * suc i + 1 ≡ suc (suc (2 * i + 1)) = omega arith in
    rw place (upper-half ns i (omega arith))

long-of-bytes : (ns : List ℕ) (i : ℕ) (rest : List ℕ) → i < length ns → InEightBytes ns → long_at (8 * i) (long_bytes_of ns ++ rest) ≡ get_or ns i 0
unfolding long_at
long-of-bytes ns i rest less small =
    let count = halves-count ns in
    let low = number-of-bytes (halves_of ns) (2 * i) rest (omega (arith, count)) (halves-fit ns small) in
    let high = number-of-bytes (halves_of ns) (2 * i + 1) rest (omega (arith, count)) (halves-fit ns small) in
    let first : 8 * i ≡ 4 * (2 * i) = omega arith in
    let second : 4 * (2 * i) + 4 ≡ 4 * (2 * i + 1) = omega arith in
    rw (long-halves ns, first, second, low, high, lower-half ns i less, upper-half ns i less) (omega arith)

long-bytes : (ns : List ℕ) → length (long_bytes_of ns) ≡ 8 * length ns
unfolding long_bytes_of eight_bytes little_endian
long-bytes [] = refl
long-bytes (n ∷ ns) = omega (arith, long-bytes ns)

-- the number at index i of a written result is the i-th
pub count-of-written : (numbers before : List ℕ) (i : ℕ) → i < length numbers → 8 * length numbers ≤ length before → InEightBytes numbers
    → count_at i (counts_after numbers before) ≡ get_or numbers i 0
unfolding count_at counts_after
count-of-written numbers before i less room small =
    let bytes = long-bytes numbers in
    rw (
      le-leb (8 * length numbers) (length before) room,
      length-sets before 0 (long_bytes_of numbers),
      le-leb (8 * i + 8) (length before) (omega arith),
      sets-eq (long_bytes_of numbers) before 0 (omega arith),
    )
    (long-of-bytes numbers i (drop (0 + length (long_bytes_of numbers)) before) less small)
