-- Laws of numerals at a place of the bytes: each way through the code's reader, as an equation of the definition.
use Rattle.std.specs.Prelude.{Option as Optional, Some, None}
use Prim.Native.Nat.{ℕ, ◌+◌, ◌*◌, ◌-◌, ◌/◌, ◌<◌, ◌≤◌}
use mathlib.Core.Path.{◌≡◌, refl, sym, ap, ◌∙◌}
use mathlib.Core.Bool.{Bool, true, false, cond, and-false}
use mathlib.Core.List.{List, [], ◌∷◌}
use mathlib.Core.Option.{Option, none, some, none-ne-some, some-injective}
use native.Mathlib.Omega.{arith}
use native.Mathlib.Numerals.{add-one}
use lib.ListN.{length, drop, get_or, drop_of_length-le}
use lib.Seq.{drop-cons}
use borrow.Author.Tests.{le-leb, lt-leb, eq-eqb, ne_eqb}
use Rattle.text.specs.Decimal.{is_digit}
use Rattle.text.specs.Reader.{◌>>=◌, ◌>>◌, and_then, ensure, pure}
use Rattle.text.specs.Numeral.{digits, decimal, numeral}
use Rattle.text.specs.ReadAt.{ReadsTo, Refuses, DigitsAre, DecimalIs}

-- a value only grows
digits-grow : (value : ℕ) (s : List ℕ) → value ≤ (digits value s).0
unfolding digits
digits-grow value [] = omega arith
digits-grow value (b ∷ s) = go (is_digit b) (digits-grow (value * 10 + (b - 48)) s)
  where
    go : (t : Bool) → value * 10 + (b - 48) ≤ (digits (value * 10 + (b - 48)) s).0
        → value ≤ (cond t (digits (value * 10 + (b - 48)) s) (value, b ∷ s)).0
    go true h = omega arith
    go false h = omega arith

-- the digits from place i on: none at the end, none before another byte, one more
pub digits-end : (value : ℕ) (s : List ℕ) (i : ℕ) → length s ≤ i → digits value (drop i s) ≡ (value, drop i s)
unfolding digits
digits-end value s i h = rw (drop_of_length-le s h)

pub digits-stop : (value : ℕ) (s : List ℕ) (i : ℕ) → i < length s → is_digit (get_or s i 0) ≡ false → digits value (drop i s) ≡ (value, drop i s)
unfolding digits
digits-stop value s i h d = rw (drop-cons s i 0 h, d)

pub digits_more : (value : ℕ) (s : List ℕ) (i : ℕ) → i < length s → is_digit (get_or s i 0) ≡ true
    → digits value (drop i s) ≡ digits (value * 10 + (get_or s i 0 - 48)) (drop (i + 1) s)
unfolding digits
digits_more value s i h d = rw (add-one, drop-cons s i 0 h, d)

pub digits_above : (value high first : ℕ) (s t : List ℕ) → high < value → digits value s ≡ digits first t → high < (digits first t).0
digits_above value high first s t h e = let g = digits-grow value s in rw (← e) (omega arith)

-- one digit more, after a value that is above a tenth of `high`
pub digits-beyond : (value high first : ℕ) (s : List ℕ) (i at : ℕ) → i < length s → is_digit (get_or s i 0) ≡ true
    → high / 10 < value
    → digits value (drop i s) ≡ digits first (drop at s)
    → high < (digits first (drop at s)).0
digits-beyond value high first s i at h d more e =
    digits_above (value * 10 + (get_or s i 0 - 48)) high first (drop (i + 1) s) (drop at s) (omega arith)
    (sym (digits_more value s i h d) ∙ e)

-- a numeral of any length by its first byte
pub decimal-end : (high : ℕ) (s : List ℕ) (at : ℕ) → length s ≤ at → DecimalIs high s at None
unfolding decimal
decimal-end high s at h n t e = absurd (none-ne-some (n, t) (rw (drop_of_length-le s h) at e))

module _ (high : ℕ) (s : List ℕ) (at : ℕ) (h : at < length s) where
  pub decimal-zero : get_or s at 0 ≡ 48 → DecimalIs high s at (Some (0, at + 1))
  unfolding decimal
  decimal-zero e =
      record {
        reads = rw (add-one, drop-cons s at 0 h, eq-eqb (get_or s at 0) 48 e);
        past = omega arith;
        within = omega arith;
      }

  module _ (other : get_or s at 0 ≡ 48 → ⊥) where
    pub decimal-none : is_digit (get_or s at 0) ≡ false → DecimalIs high s at None
    unfolding decimal
    decimal-none d n t e = absurd (none-ne-some (n, t) (rw (drop-cons s at 0 h, ne_eqb (get_or s at 0) 48 other, d) at e))

    by_digits : is_digit (get_or s at 0) ≡ true → decimal (drop at s) ≡ some (digits (get_or s at 0 - 48) (drop (at + 1) s))
    unfolding decimal
    by_digits d = rw (add-one, drop-cons s at 0 h, ne_eqb (get_or s at 0) 48 other, d)

    pub decimal-some : is_digit (get_or s at 0) ≡ true → (r : Optional (ℕ × ℕ)) → DigitsAre (get_or s at 0 - 48) high s (at + 1) r → DecimalIs high s at r
    decimal-some d (Some (n, next)) e =
        record {
          reads = by_digits d ∙ ap (λ (x : ℕ × List ℕ). some x) e.0;
          past = omega (arith, e.1);
          within = e.2;
        }
    decimal-some d None e = λ n t f.
        let same = some-injective (digits (get_or s at 0 - 48) (drop (at + 1) s)) (n, t) (sym (by_digits d) ∙ f) in
        rw (ap (λ (x : ℕ × List ℕ). x.0) same) at e

-- a numeral from `low` to `high`
pub numeral-within : {s : List ℕ} {at n next : ℕ} (low high : ℕ) → ReadsTo decimal s at n next → low ≤ n → n ≤ high → ReadsTo (numeral low high) s at n next
unfolding numeral ◌>>=◌ ◌>>◌ and_then ensure pure
numeral-within {s} {at} {n} low high d l h =
    record {
      reads = rw (d.reads, le-leb low n l, le-leb n high h);
      past = d.past;
      within = d.within;
    }

pub numeral-below : {s : List ℕ} {at n next : ℕ} (low high : ℕ) → ReadsTo decimal s at n next → n < low → Refuses (numeral low high) s at
unfolding numeral ◌>>=◌ ◌>>◌ and_then ensure pure
numeral-below {n = n} low high d l = rw (d.reads, lt-leb low n l)

numeral-above : (l : List ℕ) (n : ℕ) (t : List ℕ) (low high : ℕ) → decimal l ≡ some (n, t) → high < n → numeral low high l ≡ none
unfolding numeral ◌>>=◌ ◌>>◌ and_then ensure pure
numeral-above l n t low high d h = rw (d, lt-leb n high h, and-false)

pub numeral-beyond : {s : List ℕ} {at n next : ℕ} (low high : ℕ) → ReadsTo decimal s at n next → high < n → Refuses (numeral low high) s at
numeral-beyond {s} {at} {n} {next} low high d h = numeral-above (drop at s) n (drop next s) low high d.reads h

numeral-missing : (l : List ℕ) (low high : ℕ) → decimal l ≡ none → numeral low high l ≡ none
unfolding numeral ◌>>=◌ ◌>>◌ and_then
numeral-missing l low high d = rw d

pub numeral-none : (low high most : ℕ) (s : List ℕ) (at : ℕ) → most ≡ high → DecimalIs most s at None → Refuses (numeral low high) s at
numeral-none low high most s at same bad = go (decimal (drop at s)) refl
  where
    go : (o : Option (ℕ × List ℕ)) → decimal (drop at s) ≡ o → Refuses (numeral low high) s at
    go none e = numeral-missing (drop at s) low high e
    go (some (n, t)) e = numeral-above (drop at s) n t low high e (omega (arith, bad n t e))
