-- Numbers as bytes: one list after the other, how long they are, and each number read back as it was written.
use Rattle.std.specs.Prelude.{ℕ, zero, suc, ◌+◌, ◌*◌, ◌/◌, ◌%◌, ◌^◌, ◌≤◌, ◌<◌, List, [], ◌∷◌, ◌++◌, ◌≡◌, refl, length, drop, get_or}
use Rattle.std.proofs.Common.{arith, append_assoc, append-nil, sym, ◌∙◌, le-leb}
use Rattle.std.proofs.lemmas.List.Edits.{sets, sets-eq}
use Rattle.std.proofs.Math.Seq.{length-sets, drop-append_seam}
use Rattle.buffer.specs.Bytes.{little_endian, bytes_of, InFourBytes, no_more, one_more, number_at, field_at}

pub bytes-append : (xs ys : List ℕ) → bytes_of (xs ++ ys) ≡ bytes_of xs ++ bytes_of ys
unfolding bytes_of
bytes-append [] ys = refl
bytes-append (x ∷ xs) ys = rw (bytes-append xs ys, append_assoc)

pub bytes-of-one : (n : ℕ) → bytes_of (n ∷ []) ≡ little_endian n
unfolding bytes_of
bytes-of-one n = append-nil (little_endian n)

pub bytes-length : (ns : List ℕ) → length (bytes_of ns) ≡ 4 * length ns
unfolding bytes_of little_endian
bytes-length [] = refl
bytes-length (n ∷ ns) = let h = bytes-length ns in omega arith

whole : (n : ℕ) → n ≡ n / 256 * 256 + n % 256
whole n = omega arith

put-together : (n a b c w x y z : ℕ)
    → n ≡ a * 256 + w
    → a ≡ b * 256 + x
    → b ≡ c * 256 + y
    → c ≡ z
    → w + x * 256 + y * 65536 + z * 16777216 ≡ n
put-together n a b c w x y z e f g h = omega arith

number-first : (n : ℕ) (rest : List ℕ) → n < 2 ^ 32 → number_at 0 (little_endian n ++ rest) ≡ n
unfolding number_at little_endian
number-first n rest small =
    let second : n / 65536 ≡ n / 256 / 256 = omega arith in
    let third : n / 16777216 ≡ n / 256 / 256 / 256 = omega arith in
    let top : n / 256 / 256 / 256 ≡ n / 256 / 256 / 256 % 256 = omega arith in
    rw (second, third)
    (put-together n (n / 256) (n / 256 / 256) (n / 256 / 256 / 256) _ _ _ _ (whole n) (whole (n / 256)) (whole (n / 256 / 256)) top)

number-later : (n i : ℕ) (rest : List ℕ) → number_at (4 * suc i) (little_endian n ++ rest) ≡ number_at (4 * i) rest
unfolding number_at little_endian
number-later n i rest =
    let zeroth : 4 * suc i ≡ suc (suc (suc (suc (4 * i)))) = omega arith in
    let first : 4 * suc i + 1 ≡ suc (suc (suc (suc (4 * i + 1)))) = omega arith in
    let second : 4 * suc i + 2 ≡ suc (suc (suc (suc (4 * i + 2)))) = omega arith in
    let third : 4 * suc i + 3 ≡ suc (suc (suc (suc (4 * i + 3)))) = omega arith in
    rw (first, second, third, zeroth)

pub number-of-bytes : (ns : List ℕ) (i : ℕ) (rest : List ℕ) → i < length ns → InFourBytes ns → number_at (4 * i) (bytes_of ns ++ rest) ≡ get_or ns i 0
unfolding bytes_of
number-of-bytes [] i rest less no_more = absurd (omega arith)
number-of-bytes (n ∷ ns) zero rest less (one_more h hs) = rw append_assoc (number-first n (bytes_of ns ++ rest) h)
number-of-bytes (n ∷ ns) (suc i) rest less (one_more h hs) =
    rw append_assoc (number-later n i (bytes_of ns ++ rest) ∙ number-of-bytes ns i rest (omega arith) hs)

-- Numbers written to the start of a buffer that has room for them: each is read back, and the bytes after them keep their values.
module _ (ns before : List ℕ) (room : 4 * length ns ≤ length before) where
  spelt : sets before 0 (bytes_of ns) ≡ bytes_of ns ++ drop (4 * length ns) before
  spelt =
      let size = bytes-length ns in
      let behind : 0 + length (bytes_of ns) ≡ 4 * length ns = omega arith in
      rw behind at (sets-eq (bytes_of ns) before 0 (omega arith))

  pub field-written : (i : ℕ) → i < length ns → InFourBytes ns → field_at i (sets before 0 (bytes_of ns)) ≡ get_or ns i 0
  unfolding field_at
  field-written i less small =
      let size = length-sets before 0 (bytes_of ns) in
      rw (le-leb (4 * i + 4) (length (sets before 0 (bytes_of ns))) (omega arith), spelt) (number-of-bytes ns i _ less small)

  pub past-written : drop (4 * length ns) (sets before 0 (bytes_of ns)) ≡ drop (4 * length ns) before
  past-written =
      let size : 4 * length ns ≡ length (bytes_of ns) = sym (bytes-length ns) in
      rw spelt (rw size (drop-append_seam (bytes_of ns) (drop (length (bytes_of ns)) before)))
