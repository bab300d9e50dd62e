-- How many digits are compared: never more than the bound has.
use Rattle.std.specs.Prelude.{ℕ, suc, ◌≤◌, Bool, true, false, cond, List, [], ◌∷◌, length, get_or, drop, eqb}
use Rattle.std.proofs.Math.Option.{Option, none, some}
use Rattle.std.proofs.Common.{arith}
use Rattle.number.specs.Bound.{bound}
use Rattle.number.specs.Grammar.{number}
use Rattle.number.specs.FirstDigit.{digits_in, level_in, matched, compared_at, compared_in, compared}
use Rattle.std.specs.declared.cmp.Ordering.TheVariants.{Equal, Greater, Less}
use Rattle.std.specs.declared.cmp.Ordering.{Ordering}

matched-within : (ds bs : List ℕ) → matched ds bs ≤ length bs
unfolding matched
matched-within ds [] = omega arith
matched-within ds (b ∷ bs) = go (eqb (get_or ds 0 0) b) (matched-within (drop 1 ds) bs)
  where
    go : (t : Bool) → matched (drop 1 ds) bs ≤ length bs → cond t (suc (matched (drop 1 ds) bs)) 1 ≤ suc (length bs)
    go true h = omega (arith, h)
    go false h = omega arith

within-at : (l : Ordering) (ds : List ℕ) → compared_at l ds ≤ 309
unfolding compared_at bound
within-at Less ds = omega arith
within-at Equal ds = matched-within ds bound
within-at Greater ds = omega arith

within : (n : Option _) → compared_in n ≤ 309
unfolding compared_in
within none = omega arith
within (some n) = within-at (level_in n) (digits_in n)

pub compared-within : (s : List ℕ) → compared s ≤ 309
unfolding compared
compared-within s = within (number s)
