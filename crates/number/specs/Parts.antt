-- What the code's readers answer, as places in the text, by cases.
use Rattle.std.specs.Prelude.{ℕ, ◌-◌, ◌<◌, ◌≤◌, ◌≡◌, Bool, List, length, take, drop, Option as Optional, Some, None}
use Rattle.std.proofs.Math.Option.{Option, none, some}
use Rattle.number.specs.Grammar.{Number, Read}
use Rattle.number.specs.declared.grammar.Parts.{Parts}

-- the bytes from place a up to place e
abbrev pub part : List ℕ → ℕ → ℕ → List ℕ
part s a e = take (e - a) (drop a s)

-- the digits that a rule reads from place at on
abbrev pub Ends : Option Read → List ℕ → ℕ → Optional ℕ → Type 0
Ends o s at (Some e) = (o ≡ some (record { digits = part s at e; rest = drop e s })) × (at < e) × (e ≤ length s)
Ends o s at None = o ≡ none

abbrev pub Spans : Option Read → List ℕ → Optional (ℕ × ℕ) → Type 0
Spans o s (Some (a, e)) = (o ≡ some (record { digits = part s a e; rest = drop e s })) × (a ≤ e) × (e ≤ length s)
Spans o s None = o ≡ none

abbrev pub Raises : Option (Bool × List ℕ) → List ℕ → Optional (Bool × ℕ) → Type 0
Raises o s (Some (lowered, a)) = (o ≡ some (lowered, drop a s)) × (a ≤ length s)
Raises o s None = o ≡ none

unfoldable pub number_at : List ℕ → Parts → Number
number_at s p =
    record {
      whole = part s p.whole p.point;
      fraction = part s p.fraction p.end;
      lowered = p.lowered;
      exponent = drop p.exponent s;
    }

-- the places lie in the text, in their order
pub record Ordered (s : List ℕ) (p : Parts) : Type 0 where
  pub whole : p.whole ≤ p.point
  pub point : p.point ≤ length s
  pub fraction : p.fraction ≤ p.end
  pub end : p.end ≤ length s
  pub exponent : p.exponent ≤ length s

abbrev pub Splits : Option Number → List ℕ → Optional Parts → Type 0
Splits o s (Some p) = (o ≡ some (number_at s p)) × Ordered s p
Splits o s None = o ≡ none
