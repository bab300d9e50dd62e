-- How many digits are compared, without saying how they are found: none unless the first nonzero digit stands at 10^308, else up to and with the first
-- that differs from the bound's. Missing digits are 0.
use Rattle.std.specs.Prelude.{ℕ, ◌+◌, ◌*◌, ◌≤◌, ◌<◌, ◌^◌, Bool, true, false, List, ◌++◌, ◌≡◌, length, get_or}
use Rattle.number.specs.Bound.{bound}
use Rattle.number.specs.Grammar.{Number}
use Rattle.number.specs.Finite.{value}
use Rattle.number.specs.FirstDigit.{digits_in}

-- m * 10^up / 10^down is at least 10^308 and below 10^309
pub record Between (m up down : ℕ) : Type 0 where
  pub least : 10 ^ 308 * 10 ^ down ≤ m * 10 ^ up
  pub most : m * 10 ^ up < 10 ^ 309 * 10 ^ down

-- the same, where the digits without the point write m and f of them are after it, times 10^e or, lowered, by 10^e
abbrev pub BetweenAt : Bool → (m f e : ℕ) → Type 0
BetweenAt false m f e = Between m e f
BetweenAt true m f e = Between m 0 (f + e)

-- the first nonzero digit of a number stands at 10^308: its magnitude is at least 10^308 and below 10^309
abbrev pub StandsThere : Number → Type 0
StandsThere n = BetweenAt n.lowered (value (n.whole ++ n.fraction)) (length n.fraction) (value n.exponent)

-- digits up to and with the first that differs from the other row's, or all where none does
pub record UpTo (ds bs : List ℕ) (count : ℕ) : Type 0 where
  pub some-digit : 1 ≤ count
  pub most : count ≤ length bs
  pub same : (i : ℕ) → i + 1 < count → get_or ds i 0 ≡ get_or bs i 0
  pub differs : (i : ℕ) → i + 1 ≡ count → count < length bs → get_or ds i 0 ≡ get_or bs i 0 → ⊥

pub record ComparedSays (n : Number) (count : ℕ) : Type 0 where
  pub elsewhere : (StandsThere n → ⊥) → count ≡ 0
  pub there : StandsThere n → UpTo (digits_in n) bound count
