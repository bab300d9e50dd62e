-- Numerals: decimal, without leading zeros.
use Rattle.std.specs.Prelude.{ℕ, zero, suc, ◌+◌, ◌*◌, ◌-◌, ◌/◌, ◌%◌, cond, ◌&&◌, List, [], ◌∷◌, leb, ltb, eqb}
use Rattle.std.proofs.Math.Option.{none, some}
use Rattle.text.specs.Decimal.{is_digit}
use Rattle.text.specs.Reader.{Reader, ◌>>=◌, ◌>>◌, ensure, pure}

-- the digits that lie ahead, after those whose value is `value`
unfoldable pub digits : ℕ → List ℕ → ℕ × List ℕ
digits value [] = (value, [])
digits value (b ∷ s) = let more = digits (value * 10 + (b - 48)) s in cond (is_digit b) more (value, b ∷ s)

-- a numeral of any length: 0, or digits of which the first is not 0
unfoldable pub decimal : Reader (List ℕ) ℕ
decimal [] = none
decimal (b ∷ s) = cond (eqb b 48) (some (0, s)) (cond (is_digit b) (some (digits (b - 48) s)) none)

-- a numeral from `low` to `high`
unfoldable pub numeral : ℕ → ℕ → Reader (List ℕ) ℕ
numeral low high = do
  n ← decimal
  ensure (leb low n && leb n high)
  pure n

-- the numeral of a number, in front of what follows it; a number has no more digits than it has units and one
unfoldable pub decimal_in : (turns n : ℕ) → List ℕ → List ℕ
decimal_in zero n behind = behind
decimal_in (suc turns) n behind =
    let more = decimal_in turns (n / 10) ((48 + n % 10) ∷ behind) in
    cond (ltb n 10) ((48 + n) ∷ behind) more

unfoldable pub decimal_of : ℕ → List ℕ
decimal_of n = decimal_in (suc n) n []
