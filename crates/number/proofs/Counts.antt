-- How many digits are compared, computed beside the answer: where the place decides, at the first digit that differs, and at the bound itself.
use Prim.Native.Nat.{ℕ, ◌+◌}
use Prim.Native.Char.{code}
use Prim.Native.String.{String, [], ◌∷◌}
use mathlib.Core.Path.{◌≡◌, refl}
use mathlib.Core.Bool.{Bool, true, false}
use mathlib.Core.List as List
use mathlib.Core.Option.{bind}
use lib.ListN.{take}
use Rattle.text.specs.Decimal.{is_digit}
use Rattle.number.specs.Bound.{bound}
use Rattle.number.specs.Grammar.{run, past, some_digits, digits, leads, int, frac, is_empty, last, power, exp, unsigned, number}
use Rattle.number.specs.Finite.{numeral_from, numeral, value, is_below, is_below_at, finite, finite_if, is_finite}
use Rattle.number.specs.FirstDigit.{zeros, significant, order, level_of, level_by, digits_in, level_in, matched, compared_at, compared_in, compared}

ascii : String → List.List ℕ
ascii [] = List.[]
ascii (c ∷ t) = List.◌∷◌ (code c) (ascii t)

-- some of the bound's digits as text
cut : List.List ℕ → List.List ℕ
cut ds = List.map (λ d. 0x30 + d) ds

-- whether a text is finite, and how many digits are compared
unfoldable tested : List.List ℕ → Bool × ℕ
unfolding ascii cut is_digit run past some_digits digits leads int frac is_empty last power exp unsigned number bind numeral_from numeral value is_below is_below_at finite finite_if is_finite bound zeros significant order level_of level_by digits_in level_in matched compared_at compared_in compared
tested s = (is_finite s, compared s)

no_number : tested (ascii "x") ≡ (false, 0)
unfolding tested
no_number = refl

no-number-at-308 : tested (ascii "1e308x") ≡ (false, 0)
unfolding tested
no-number-at-308 = refl

zero : tested (ascii "0") ≡ (true, 0)
unfolding tested
zero = refl

-- a digit other than 0 would be at 10^308 here, and one place on
zero-at-308 : tested (ascii "0e308") ≡ (true, 0)
unfolding tested
zero-at-308 = refl

zero-at-309 : tested (ascii "0e309") ≡ (true, 0)
unfolding tested
zero-at-309 = refl

zero-far : tested (ascii "0e99999") ≡ (true, 0)
unfolding tested
zero-far = refl

-- places
place-307 : tested (ascii "9.99e307") ≡ (true, 0)
unfolding tested
place-307 = refl

place-307-one : tested (ascii "1e307") ≡ (true, 0)
unfolding tested
place-307-one = refl

place-308 : tested (ascii "1e308") ≡ (true, 2)
unfolding tested
place-308 = refl

place-309 : tested (ascii "1e309") ≡ (false, 0)
unfolding tested
place-309 = refl

first-differs : tested (ascii "2e308") ≡ (false, 1)
unfolding tested
first-differs = refl

second-differs : tested (ascii "1.8e308") ≡ (false, 2)
unfolding tested
second-differs = refl

-- the bound goes on with 079, and missing digits are 0
largest-double : tested (ascii "1.7976931348623157e308") ≡ (true, 17)
unfolding tested
largest-double = refl

rounds-down : tested (ascii "1.7976931348623158e308") ≡ (true, 19)
unfolding tested
rounds-down = refl

rounds-up : tested (ascii "1.7976931348623159e308") ≡ (false, 17)
unfolding tested
rounds-up = refl

-- neither sign nor leading zeros nor the point's place count
shifted : tested (ascii "-0.00017976931348623158e312") ≡ (true, 19)
unfolding tested
shifted = refl

shifted_up : tested (ascii "-0.00017976931348623159e+312") ≡ (false, 17)
unfolding tested
shifted_up = refl

-- the bound
at_bound : tested (cut bound) ≡ (false, 309)
unfolding tested
at_bound = refl

-- its last digit is 2
below-bound : tested (List.◌++◌ (cut (take 308 bound)) (ascii "1")) ≡ (true, 309)
unfolding tested
below-bound = refl

above-bound : tested (List.◌++◌ (cut (take 308 bound)) (ascii "3")) ≡ (false, 309)
unfolding tested
above-bound = refl

-- the digit before the last is 9
last-but-one : tested (List.◌++◌ (cut (take 307 bound)) (ascii "89")) ≡ (true, 308)
unfolding tested
last-but-one = refl

-- what follows the 309th digit is not looked at
half-behind : tested (List.◌++◌ (cut bound) (ascii ".5")) ≡ (false, 309)
unfolding tested
half-behind = refl

nines-behind : tested (List.◌++◌ (cut (take 308 bound)) (ascii "1.999")) ≡ (true, 309)
unfolding tested
nines-behind = refl

bound-shifted : tested (List.◌++◌ (ascii "-0.000") (List.◌++◌ (cut bound) (ascii "e312"))) ≡ (false, 309)
unfolding tested
bound-shifted = refl

bound-too-low : tested (List.◌++◌ (ascii "-0.000") (List.◌++◌ (cut bound) (ascii "e311"))) ≡ (true, 0)
unfolding tested
bound-too-low = refl

bound-too-high : tested (List.◌++◌ (ascii "-0.000") (List.◌++◌ (cut bound) (ascii "e313"))) ≡ (false, 0)
unfolding tested
bound-too-high = refl

bound-lowered : tested (List.◌++◌ (cut bound) (ascii "000e-3")) ≡ (false, 309)
unfolding tested
bound-lowered = refl
