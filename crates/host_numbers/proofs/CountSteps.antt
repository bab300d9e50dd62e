-- Counts as bytes, as the code writes and reads them.
use Prim.Native.Nat.{ℕ, ◌+◌, ◌*◌, ◌/◌, ◌%◌, ◌-◌, ◌<◌, ◌≤◌}
use native.Mathlib.Omega.{arith}
use mathlib.Core.List.{List, [], ◌∷◌, ◌++◌, append_assoc, append-nil}
use mathlib.Core.Path.{◌≡◌, refl, ap, ◌∙◌}
use native.Mathlib.Numerals.{add-one}
use lib.ListN.{length, take, get_or, replicate}
use lib.Seq.{sets, length-sets, take_all, take-suc}
use borrow.Author.Tests.{le-leb, lt-leb}
use Rattle.buffer.specs.Wrote.{Wrote}
use Rattle.buffer.specs.WroteLaws.{wrote_then}
use Rattle.buffer.specs.Bytes.{little_endian, number_at, field_at}
use Rattle.host_numbers.specs.Counts.{eight_bytes, long_bytes_of, long_at, count_at, counts_after}

-- Eight bytes for a number.

pub long-written : {l middle after : List ℕ} {at low high : ℕ} (n : ℕ) → at + 8 ≤ length l
    → low ≡ n % 4294967296
    → high ≡ n / 4294967296
    → middle ≡ sets l at (little_endian low)
    → after ≡ sets middle (at + 4) (little_endian high)
    → Wrote l after at (eight_bytes n) (at + 8)
unfolding eight_bytes little_endian
long-written {l} {middle} {after} {at} {low} {high} n room e f u w = rw (← e, ← f) (wrote_then first second)
  where
    first : Wrote l middle at (little_endian low) (at + 4)
    first = record { stands = u; ends = omega arith }

    second : Wrote middle after (at + 4) (little_endian high) (at + 8)
    second =
        let same = ap length u ∙ length-sets l at (little_endian low) in
        record { stands = w; ends = omega (arith, same) }

-- All of them.

long-append : (ns ms : List ℕ) → long_bytes_of (ns ++ ms) ≡ long_bytes_of ns ++ long_bytes_of ms
unfolding long_bytes_of
long-append [] ms = refl
long-append (n ∷ ns) ms = rw (long-append ns ms, append_assoc)

pub one-long-more : {before middle after : List ℕ} (ns : List ℕ) (i : ℕ) → i < length ns
    → Wrote before middle 0 (long_bytes_of (take i ns)) (i * 8)
    → Wrote middle after (i * 8) (eight_bytes (get_or ns i 0)) (i * 8 + 8)
    → Wrote before after 0 (long_bytes_of (take (i + 1) ns)) ((i + 1) * 8)
unfolding long_bytes_of
one-long-more ns i less u w =
    let next : (i + 1) * 8 ≡ i * 8 + 8 = omega arith in
    rw (next, add-one, take-suc ns i 0 less, long-append (take i ns) (get_or ns i 0 ∷ []), append-nil) (wrote_then u w)

pub counts-short : (numbers l : List ℕ) → length l / 8 < length numbers → l ≡ counts_after numbers l
unfolding counts_after
counts-short numbers l short = rw (lt-leb (8 * length numbers) (length l) (omega arith))

pub counts-written : {before after : List ℕ} {next : ℕ} (numbers : List ℕ) (i : ℕ) → length numbers ≤ i → length numbers ≤ length before / 8
    → Wrote before after 0 (long_bytes_of (take i numbers)) next
    → after ≡ counts_after numbers before
unfolding counts_after
counts-written {before} numbers i end room w =
    rw (le-leb (8 * length numbers) (length before) (omega arith), ← (take_all i numbers end)) w.stands

-- A number by its index.

pub count-missing : (index : ℕ) (l : List ℕ) → length l < index * 8 + 8 → 0 ≡ count_at index l
unfolding count_at
count-missing index l short = rw (lt-leb (8 * index + 8) (length l) (omega arith))

pub count-there : {low high : ℕ} (index : ℕ) (l : List ℕ) → index * 8 + 8 ≤ length l
    → low ≡ number_at (index * 8) l
    → high ≡ number_at (index * 8 + 4) l
    → low + high * 4294967296 ≡ count_at index l
unfolding count_at long_at
count-there index l fits e f =
    let same : index * 8 ≡ 8 * index = omega arith in
    rw (le-leb (8 * index + 8) (length l) (omega arith), e, f, same)

-- A number of four bytes by its index.

pub field-missing : (index : ℕ) (l : List ℕ) → length l < index * 4 + 4 → 0 ≡ field_at index l
unfolding field_at
field-missing index l short = rw (lt-leb (4 * index + 4) (length l) (omega arith))

pub field-there : (index r : ℕ) (l : List ℕ) → index * 4 + 4 ≤ length l → r ≡ number_at (index * 4) l → r ≡ field_at index l
unfolding field_at
field-there index r l fits e =
    let same : index * 4 ≡ 4 * index = omega arith in
    rw (le-leb (4 * index + 4) (length l) (omega arith), ← same) e

-- A count above 2^32, in its bytes and read back; one byte less, and there is none.

large-written : counts_after (7 ∷ 0x0102030405060708 ∷ []) (replicate 17 9)
    ≡ 7 ∷ 0 ∷ 0 ∷ 0 ∷ 0 ∷ 0 ∷ 0 ∷ 0 ∷ 8 ∷ 7 ∷ 6 ∷ 5 ∷ 4 ∷ 3 ∷ 2 ∷ 1 ∷ 9 ∷ []
unfolding counts_after long_bytes_of eight_bytes little_endian
large-written = refl

large-kept : counts_after (7 ∷ 0x0102030405060708 ∷ []) (replicate 15 9) ≡ replicate 15 9
unfolding counts_after
large-kept = refl

large-read : count_at 1 (replicate 8 0 ++ 8 ∷ 7 ∷ 6 ∷ 5 ∷ 4 ∷ 3 ∷ 2 ∷ 1 ∷ []) ≡ 0x0102030405060708
unfolding count_at long_at number_at
large-read = refl

past-32-bits : count_at 0 (5 ∷ 0 ∷ 0 ∷ 0 ∷ 1 ∷ 0 ∷ 0 ∷ 0 ∷ []) ≡ 4294967301
unfolding count_at long_at number_at
past-32-bits = refl

largest-read : count_at 0 (replicate 8 255) ≡ 18446744073709551615
unfolding count_at long_at number_at
largest-read = refl

short-read : count_at 0 (replicate 7 255) ≡ 0
unfolding count_at long_at number_at
short-read = refl
