-- How the code decides whether a number is finite, and how many digits it compares for that: by the place of the first nonzero digit, and by
-- the digits only where that place is 10^308.
use Rattle.std.specs.Prelude.{ℕ, suc, ◌+◌, Bool, true, false, cond, List, [], ◌∷◌, ◌++◌, map, length, get_or, drop, ltb, eqb}
use Rattle.std.proofs.Math.Option.{Option, none, some}
use Rattle.number.specs.Bound.{bound}
use Rattle.number.specs.Grammar.{Number, number}
use Rattle.number.specs.Finite.{digit, value}
use Rattle.std.specs.declared.cmp.Ordering.TheVariants.{Equal, Greater, Less}
use Rattle.std.specs.declared.cmp.Ordering.{Ordering}

-- an exponent from here on counts as this one: no text is long enough for them to differ
abbrev pub largest : ℕ
largest = 10_000_000_000_000_000_000

-- how many zeros lead
unfoldable pub zeros : List ℕ → ℕ
zeros [] = 0
zeros (d ∷ ds) = cond (eqb d 0) (suc (zeros ds)) 0

-- the digits from the first nonzero one on
unfoldable pub significant : List ℕ → List ℕ
significant ds = drop (zeros ds) ds

unfoldable pub order : ℕ → ℕ → Ordering
order a b = cond (ltb a b) Less (cond (ltb b a) Greater Equal)

-- of n digits f are after the point: the first is at 10^(n - f - 1), times 10^e or, lowered, by 10^e. Here that place against 10^308
unfoldable pub level_of : Bool → ℕ → ℕ → ℕ → Ordering
level_of false n f e = order (n + e) (309 + f)
level_of true n f e = order n (309 + (f + e))

-- of digits whose first is not zero. Zero has none
unfoldable pub level_by : Bool → List ℕ → ℕ → ℕ → Ordering
level_by lowered [] f e = Less
level_by lowered (d ∷ ds) f e = level_of lowered (suc (length ds)) f e

-- a number's digits from the first nonzero one on, and their level
unfoldable pub digits_in : Number → List ℕ
digits_in n = significant (map digit (n.whole ++ n.fraction))

unfoldable pub level_in : Number → Ordering
level_in n = level_by n.lowered (digits_in n) (length n.fraction) (value n.exponent)

-- digit by digit, the first that differs decides. Missing digits are 0; the bound itself is not less
unfoldable pub is_less : List ℕ → List ℕ → Bool
is_less ds [] = false
is_less ds (b ∷ bs) = cond (ltb (get_or ds 0 0) b) true (cond (ltb b (get_or ds 0 0)) false (is_less (drop 1 ds) bs))

-- how many digits that takes: up to and with the first that differs
unfoldable pub matched : List ℕ → List ℕ → ℕ
matched ds [] = 0
matched ds (b ∷ bs) = let more = matched (drop 1 ds) bs in cond (eqb (get_or ds 0 0) b) (suc more) 1

unfoldable pub decided : Ordering → Bool → Bool
decided Less less = true
decided Equal less = less
decided Greater less = false

unfoldable pub compared_at : Ordering → List ℕ → ℕ
compared_at Less ds = 0
compared_at Equal ds = matched ds bound
compared_at Greater ds = 0

unfoldable pub compared_in : Option Number → ℕ
compared_in none = 0
compared_in (some n) = compared_at (level_in n) (digits_in n)

-- how many digits of a text are compared with the bound's
unfoldable pub compared : List ℕ → ℕ
compared s = compared_in (number s)
