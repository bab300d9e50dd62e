-- What is laid into a lent buffer, with its true end.
use Rattle.std.specs.Prelude.{ℕ, ◌+◌, ◌≤◌, min, List, ◌∷◌, ◌++◌, ◌≡◌, length}
use Rattle.std.proofs.lemmas.List.Edits.{sets}
use Rattle.text.specs.Numeral.{decimal_of}

-- the last place that a number of the code holds
abbrev pub most_place : ℕ
most_place = 18446744073709551615

-- `next` is after the bytes, which are there from `o` on if they fit; if not, nothing is said of what is there
pub record Laid (before after : List ℕ) (o : ℕ) (bytes : List ℕ) (next : ℕ) : Type 0 where
  pub len : length after ≡ length before
  pub ends : next ≡ min (o + length bytes) most_place
  pub stands : o + length bytes ≤ length before → after ≡ sets before o bytes

-- whatever was laid behind the digit 0 now lies behind the numeral of n
pub record Recounted (before after : List ℕ) (at end n next : ℕ) : Type 0 where
  pub len : length after ≡ length before
  pub lies : (start others : List ℕ) → Laid start before at (48 ∷ others) end → Laid start after at (decimal_of n ++ others) next
