-- Paths: segments separated by dots.
use Rattle.std.specs.Prelude.{ℕ, Bool, true, false, not, cond, ◌&&◌, ◌||◌, List, [], ◌∷◌, eqb}
use Prim.Native.Char.{code}
use Rattle.text.specs.Decimal.{is_digit}
use Rattle.text.specs.Ascii.{ascii}
use Rattle.text.specs.Order.{same_bytes}
use Rattle.definition.specs.Tree.{Text}

-- the first segment, and those after the first dot, if there is one
pub record Segments : Type 0 where
  pub first : Text
  pub others : List Text

unfoldable pub cut : Segments → Segments
cut p = record { first = []; others = p.first ∷ p.others }

unfoldable pub extend : ℕ → Segments → Segments
extend b p = record { first = b ∷ p.first; others = p.others }

unfoldable pub split : Text → Segments
split [] = record { first = []; others = [] }
split (b ∷ t) = cond (eqb b (code ".")) (cut (split t)) (extend b (split t))

unfoldable pub is_digits : Text → Bool
is_digits [] = true
is_digits (b ∷ t) = is_digit b && is_digits t

-- `0`, or digits without a leading zero, any number of them
unfoldable pub is_ordinal : Text → Bool
is_ordinal [] = false
is_ordinal (b ∷ t) = same_bytes (b ∷ t) (ascii "0") || not (eqb b (code "0")) && is_digits (b ∷ t)

unfoldable pub is_count : Text → Bool
is_count t = same_bytes t (ascii "count")
