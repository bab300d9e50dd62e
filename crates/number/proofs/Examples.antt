-- Worked examples, computed from the definitions: number text by RFC 8259, and both sides of the limit. A comment gives each text.
use Prim.Native.Nat.{ℕ, ◌+◌}
use mathlib.Core.Path.{◌≡◌, refl, sym}
use mathlib.Core.Bool.{Bool, true, false}
use mathlib.Core.List.{List, [], ◌∷◌, ◌++◌, map}
use mathlib.Core.Option.{bind}
use lib.ListN.{take, replicate}
use Rattle.text.specs.Decimal.{is_digit}
use Rattle.number.specs.Bound.{bound}
use Rattle.number.specs.Grammar.{run, past, some_digits, digits, leads, int, frac, is_empty, last, power, exp, unsigned, number, is_some, is_number}
use Rattle.number.specs.Finite.{numeral_from, numeral, value, is_below, is_below_at, finite, finite_if, is_finite}
use Rattle.number.specs.FirstDigit.{zeros, significant, order, level_of, level_by, digits_in, level_in, is_less, decided}
use Rattle.number.proofs.Decides.{finite-decided}
use Rattle.number.proofs.Numeral.{tens}

-- opens the grammar, so that a text is read
read : List ℕ → Bool
unfolding is_digit run past some_digits digits leads int frac is_empty last power exp unsigned number is_some is_number bind
read s = is_number s

-- opens the magnitude too
judged : List ℕ → Bool
unfolding read numeral_from numeral value is_below is_below_at finite finite_if is_finite bound
judged s = is_finite s

-- opens the way by the first nonzero digit, for exponents whose power of ten nobody computes
placed : List ℕ → Bool
unfolding read numeral_from numeral value tens zeros significant order level_of level_by digits_in level_in is_less decided finite_if is_finite
placed s = is_finite s

ascii : List ℕ → List ℕ
ascii ds = map (λ d. 0x30 + d) ds

-- -0.5E+07
number-signs : is_number (0x2D ∷ 0x30 ∷ 0x2E ∷ 0x35 ∷ 0x45 ∷ 0x2B ∷ 0x30 ∷ 0x37 ∷ []) ≡ true
unfolding read
number-signs = refl

-- -0
number-zero : is_number (0x2D ∷ 0x30 ∷ []) ≡ true
unfolding read
number-zero = refl

-- nothing
number-empty : is_number [] ≡ false
unfolding read
number-empty = refl

-- 01
number-leading-zero : is_number (0x30 ∷ 0x31 ∷ []) ≡ false
unfolding read
number-leading-zero = refl

-- 1.
number-no-fraction : is_number (0x31 ∷ 0x2E ∷ []) ≡ false
unfolding read
number-no-fraction = refl

-- .5
number-no-whole : is_number (0x2E ∷ 0x35 ∷ []) ≡ false
unfolding read
number-no-whole = refl

-- 1e+
number-no-power : is_number (0x31 ∷ 0x65 ∷ 0x2B ∷ []) ≡ false
unfolding read
number-no-power = refl

-- +1
number-plus : is_number (0x2B ∷ 0x31 ∷ []) ≡ false
unfolding read
number-plus = refl

-- 1
number-blank-behind : is_number (0x31 ∷ 0x20 ∷ []) ≡ false
unfolding read
number-blank-behind = refl

-- 0e99999999999999999999
finite-zero : is_finite (0x30 ∷ 0x65 ∷ 0x39 ∷ 0x39 ∷ 0x39 ∷ 0x39 ∷ 0x39 ∷ 0x39 ∷ 0x39 ∷ 0x39 ∷ 0x39 ∷ 0x39 ∷ 0x39 ∷ 0x39 ∷ 0x39 ∷ 0x39 ∷ 0x39 ∷ 0x39 ∷ 0x39 ∷ 0x39 ∷ 0x39 ∷ 0x39 ∷ []) ≡ true
unfolding judged
finite-zero = refl

-- -1.7976931348623157e308
finite-largest-double : is_finite (0x2D ∷ 0x31 ∷ 0x2E ∷ 0x37 ∷ 0x39 ∷ 0x37 ∷ 0x36 ∷ 0x39 ∷ 0x33 ∷ 0x31 ∷ 0x33 ∷ 0x34 ∷ 0x38 ∷ 0x36 ∷ 0x32 ∷ 0x33 ∷ 0x31 ∷ 0x35 ∷ 0x37 ∷ 0x65 ∷ 0x33 ∷ 0x30 ∷ 0x38 ∷ []) ≡ true
unfolding judged
finite-largest-double = refl

-- 1.7976931348623158e308
finite-rounds-down : is_finite (0x31 ∷ 0x2E ∷ 0x37 ∷ 0x39 ∷ 0x37 ∷ 0x36 ∷ 0x39 ∷ 0x33 ∷ 0x31 ∷ 0x33 ∷ 0x34 ∷ 0x38 ∷ 0x36 ∷ 0x32 ∷ 0x33 ∷ 0x31 ∷ 0x35 ∷ 0x38 ∷ 0x65 ∷ 0x33 ∷ 0x30 ∷ 0x38 ∷ []) ≡ true
unfolding judged
finite-rounds-down = refl

-- 1.7976931348623159E308
finite-rounds-up : is_finite (0x31 ∷ 0x2E ∷ 0x37 ∷ 0x39 ∷ 0x37 ∷ 0x36 ∷ 0x39 ∷ 0x33 ∷ 0x31 ∷ 0x33 ∷ 0x34 ∷ 0x38 ∷ 0x36 ∷ 0x32 ∷ 0x33 ∷ 0x31 ∷ 0x35 ∷ 0x39 ∷ 0x45 ∷ 0x33 ∷ 0x30 ∷ 0x38 ∷ []) ≡ false
unfolding judged
finite-rounds-up = refl

-- 1e308
finite-308 : is_finite (0x31 ∷ 0x65 ∷ 0x33 ∷ 0x30 ∷ 0x38 ∷ []) ≡ true
unfolding judged
finite-308 = refl

-- 1e309
finite-309 : is_finite (0x31 ∷ 0x65 ∷ 0x33 ∷ 0x30 ∷ 0x39 ∷ []) ≡ false
unfolding judged
finite-309 = refl

-- 0.001e311
finite-shifted : is_finite (0x30 ∷ 0x2E ∷ 0x30 ∷ 0x30 ∷ 0x31 ∷ 0x65 ∷ 0x33 ∷ 0x31 ∷ 0x31 ∷ []) ≡ true
unfolding judged
finite-shifted = refl

-- 1e-400
finite-small : is_finite (0x31 ∷ 0x65 ∷ 0x2D ∷ 0x34 ∷ 0x30 ∷ 0x30 ∷ []) ≡ true
unfolding judged
finite-small = refl

-- 1e
finite-no-number : is_finite (0x31 ∷ 0x65 ∷ []) ≡ false
unfolding judged
finite-no-number = refl

-- the limit itself
finite-limit : is_finite (ascii bound) ≡ false
unfolding judged ascii
finite-limit = refl

-- the limit less one tenth: its last digit is 2
finite-under-limit : is_finite (ascii (take 308 bound) ++ 0x31 ∷ 0x2E ∷ 0x39 ∷ []) ≡ true
unfolding judged ascii
finite-under-limit = refl

-- 0. and the limit's digits, e309
finite-limit-shifted : is_finite (0x30 ∷ 0x2E ∷ ascii bound ++ 0x65 ∷ 0x33 ∷ 0x30 ∷ 0x39 ∷ []) ≡ false
unfolding judged ascii
finite-limit-shifted = refl

-- 1e and five hundred nines
finite-long-power : is_finite (0x31 ∷ 0x65 ∷ replicate 500 0x39) ≡ false
unfolding placed
finite-long-power = sym (finite-decided (record { whole = 0x31 ∷ []; fraction = []; lowered = false; exponent = replicate 500 0x39 }) refl)

-- 1e- and five hundred nines
finite-long-low-power : is_finite (0x31 ∷ 0x65 ∷ 0x2D ∷ replicate 500 0x39) ≡ true
unfolding placed
finite-long-low-power = sym (finite-decided (record { whole = 0x31 ∷ []; fraction = []; lowered = true; exponent = replicate 500 0x39 }) refl)
