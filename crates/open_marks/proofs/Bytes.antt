-- A mark's byte in a sheet.
use Prim.Native.Nat.{ℕ, ◌+◌, ◌≤◌}
use mathlib.Core.Bool.{Bool, true, false}
use mathlib.Core.List.{List, [], ◌∷◌, ◌++◌}
use mathlib.Core.Path.{◌≡◌, ap, ◌∙◌}
use native.Mathlib.Omega.{arith}
use lib.ListN.{length, drop, set, length-append, length-drop}
use lib.Seq.{set_at, set_out}
use Rattle.text.specs.Ascii.{ascii}
use Rattle.text.specs.NumeralLaws.{decimal_of-one}
use Rattle.sheet.specs.Write.{mark_of, write_item, write_mark}

-- a mark is a comma and a digit
pub mark-written : (b : Bool) → write_mark b ≡ 44 ∷ (48 + mark_of b) ∷ []
unfolding write_mark write_item ascii mark_of
mark-written true = rw (decimal_of-one 1 (omega arith))
mark-written false = rw (decimal_of-one 0 (omega arith))

-- where reading stopped, by what is in front
pub front_length : (s front rest : List ℕ) (next : ℕ) → s ≡ front ++ rest → drop next s ≡ rest → next ≤ length s → length front ≡ next
front_length s front rest next e d l = omega (arith, ap length e, length-append front rest, ap length d, length-drop next s)

pub set-mark : (s front : List ℕ) (y : ℕ) (ys : List ℕ) (place : ℕ) → s ≡ front ++ y ∷ ys → length front ≡ place → set s place 49 ≡ front ++ 49 ∷ ys
set-mark s front y ys place e l = ap (λ (x : List ℕ). set x place 49) e ∙ set_at front y ys 49 place l

-- past the end nothing is set
pub nothing-set : (s front rest after : List ℕ) → s ≡ front ++ rest → rest ≡ after → set s (length s) 49 ≡ front ++ after
nothing-set s front rest after e f = set_out s (length s) 49 (omega arith) ∙ rw (← f) e
