-- What the code's readers answer, by cases: what a reader of the definitions reads from place `at` of the bytes on, and the place after it.
use Rattle.std.specs.Prelude.{ℕ, ◌+◌, ◌<◌, ◌≤◌, Bool, true, false, List, ◌≡◌, length, drop, Option, Some, None}
use Rattle.std.proofs.Math.Option.{none, some}
use Rattle.text.specs.Reader.{Reader}
use Rattle.text.specs.ByteReaders.{byte}
use Rattle.text.specs.Numeral.{digits, decimal}

-- `p` reads `a` from place `at` on, and stops further on, at `next`
pub record ReadsTo {A : Type 0} (p : Reader (List ℕ) A) (s : List ℕ) (at : ℕ) (a : A) (next : ℕ) : Type 0 where
  pub reads : p (drop at s) ≡ some (a, drop next s)
  pub past : at < next
  pub within : next ≤ length s

-- `p` reads nothing from place `at` on
abbrev pub Refuses : {A : Type 0} → Reader (List ℕ) A → List ℕ → ℕ → Type 0
Refuses p s at = p (drop at s) ≡ none

abbrev pub StartsWith : ℕ → List ℕ → ℕ → Bool → Type 0
StartsWith b s at true = ReadsTo (byte b) s at tt (at + 1)
StartsWith b s at false = Refuses (byte b) s at

abbrev pub NumeralIs : Reader (List ℕ) ℕ → ℕ → ℕ → List ℕ → ℕ → Option (ℕ × ℕ) → Type 0
NumeralIs p low high s at (Some (n, next)) = ReadsTo p s at n next × (low ≤ n) × (n ≤ high)
NumeralIs p low high s at None = Refuses p s at

-- the digits after those whose value is `value`; `None` where their value is above `high`
abbrev pub DigitsAre : ℕ → ℕ → List ℕ → ℕ → Option (ℕ × ℕ) → Type 0
DigitsAre value high s at (Some (n, next)) = (digits value (drop at s) ≡ (n, drop next s)) × (at ≤ next) × (next ≤ length s)
DigitsAre value high s at None = high < (digits value (drop at s)).0

-- a numeral; `None` where there is none, or one above `high`
abbrev pub DecimalIs : ℕ → List ℕ → ℕ → Option (ℕ × ℕ) → Type 0
DecimalIs high s at (Some (n, next)) = ReadsTo decimal s at n next
DecimalIs high s at None = (n : ℕ) (t : List ℕ) → decimal (drop at s) ≡ some (n, t) → high < n
