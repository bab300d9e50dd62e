-- Which numbers are finite: those whose magnitude is below 2^1024 - 2^970 (docs/FORMAT.md). Digits, fraction length and exponent
-- are numbers without a bound, so that every number text has its answer. Text that is not a number is not finite.
use Rattle.std.specs.Prelude.{ℕ, zero, suc, ◌+◌, ◌*◌, ◌-◌, ◌^◌, Bool, true, false, List, [], ◌∷◌, ◌++◌, map, length, ltb}
use Rattle.std.proofs.Math.Option.{Option, none, some}
use Rattle.number.specs.Grammar.{Number, number}

-- the number that a row of digits writes after v
unfoldable pub numeral_from : ℕ → List ℕ → ℕ
numeral_from v [] = v
numeral_from v (d ∷ ds) = numeral_from (v * 10 + d) ds

unfoldable pub numeral : List ℕ → ℕ
numeral ds = numeral_from 0 ds

abbrev pub digit : ℕ → ℕ
digit b = b - 0x30

-- the number that a text of digits writes
unfoldable pub value : List ℕ → ℕ
value s = numeral (map digit s)

abbrev pub limit : ℕ
limit = 2 ^ 1024 - 2 ^ 970

-- m * 10^up / 10^down is below the limit. Zero is, and no power of 10 is computed for it
unfoldable pub is_below : ℕ → ℕ → ℕ → Bool
is_below zero up down = true
is_below (suc m) up down = ltb (suc m * 10 ^ up) (limit * 10 ^ down)

-- the digits without the point write m, and f of them are after it: the magnitude is m / 10^f, times 10^e or, lowered, by 10^e
unfoldable pub is_below_at : Bool → ℕ → ℕ → ℕ → Bool
is_below_at false m f e = is_below m e f
is_below_at true m f e = is_below m 0 (f + e)

unfoldable pub finite : Number → Bool
finite n = is_below_at n.lowered (value (n.whole ++ n.fraction)) (length n.fraction) (value n.exponent)

unfoldable pub finite_if : Option Number → Bool
finite_if none = false
finite_if (some n) = finite n

unfoldable pub is_finite : List ℕ → Bool
is_finite s = finite_if (number s)
