-- How long a line is.
use Rattle.std.specs.Prelude.{ℕ, zero, suc, ◌+◌, ◌/◌, ◌%◌, ◌^◌, ◌≤◌, ◌<◌, List, [], ◌∷◌, length, ltb}
use Rattle.std.proofs.Common.{ap, arith, length-append, ltb-true, ltb-false}
use Rattle.text.specs.Numeral.{decimal_of}
use Rattle.text.specs.NumeralLaws.{decimal_of-one, decimal_of-last}
use Rattle.text.specs.CaseLaws.{by-test}
use Rattle.check_file.specs.Line.{field_of, written, line_of, numbers}

decimal_of-length : (k n : ℕ) → n < 10 ^ suc k → length (decimal_of n) ≤ suc k
decimal_of-length zero n h = omega (arith, ap length (decimal_of-one n (omega arith)))
decimal_of-length (suc k) n h =
    by-test (ltb n 10) (λ e. omega (arith, ap length (decimal_of-one n (ltb-true n 10 e))))
    (λ e.
    let large = ltb-false n 10 e in
    omega (arith, ap length (decimal_of-last n large), length-append (decimal_of (n / 10)) ((48 + n % 10) ∷ []), decimal_of-length k (n / 10) (omega arith)))

written-length : (n : ℕ) (ns path : List ℕ) → n < 2 ^ 32 → length (written (n ∷ ns) path) ≤ 11 + length (written ns path)
unfolding written field_of
written-length n ns path h =
    omega (arith, length-append (field_of n) (written ns path), length-append (decimal_of n) (44 ∷ []), decimal_of-length 9 n (omega arith))

-- numbers of 32 bits take up 66 bytes at most
pub line-length : (number family detail place over_place passed path_length : ℕ) (path : List ℕ) → number < 2 ^ 32 → family < 2 ^ 32 → detail < 2 ^ 32
    → place < 2 ^ 32 → over_place < 2 ^ 32 → passed < 2 ^ 32 → length (line_of (numbers number family detail place over_place passed path_length) path) ≤ 67 + length path
unfolding line_of written
line-length number family detail place over_place passed path_length path h1 h2 h3 h4 h5 h6 =
    omega (
      arith,
      written-length number (family ∷ detail ∷ place ∷ over_place ∷ passed ∷ []) path h1,
      written-length family (detail ∷ place ∷ over_place ∷ passed ∷ []) path h2,
      written-length detail (place ∷ over_place ∷ passed ∷ []) path h3,
      written-length place (over_place ∷ passed ∷ []) path h4,
      written-length over_place (passed ∷ []) path h5,
      written-length passed [] path h6,
      length-append path (10 ∷ []),
    )
