-- Laws of numerals at a place of the file: each way through the code's readers.
use Rattle.std.specs.Prelude.{Option, Some, None}
use Prim.Native.Nat.{ℕ, ◌+◌, ◌*◌, ◌-◌, ◌<◌, ◌≤◌, min}
use mathlib.Core.Bool.{true, false}
use mathlib.Core.List.{List}
use mathlib.Core.Option.{none, some}
use mathlib.Core.Path.{◌≡◌, refl, sym, ap, ◌∙◌}
use native.Mathlib.Omega.{arith}
use native.Mathlib.Numerals.{add-one}
use lib.ListN.{length, drop, get_or, drop_of_length-le}
use lib.Seq.{drop-cons}
use borrow.Author.Tests.{eq-eqb, ne_eqb}
use Rattle.text.specs.Decimal.{is_digit}
use Rattle.text.specs.Reader.{◌>>=◌, ◌>>◌, and_then, pure}
use Rattle.text.specs.Numeral.{digits, decimal}
use Rattle.text.specs.ByteReaders.{byte}
use Rattle.check_file.specs.File.{field}
use Rattle.check_file.specs.Places.{too_large, CappedTo, CappedIs, digits_behind}

-- The digits from place i on, after those whose value is n: none at the end, none before another byte, one more.

digits-end : (n : ℕ) (s : List ℕ) (i : ℕ) → length s ≤ i → digits n (drop i s) ≡ (n, drop i s)
unfolding digits
digits-end n s i h = rw (drop_of_length-le s h)

digits-stop : (n : ℕ) (s : List ℕ) (i : ℕ) → i < length s → is_digit (get_or s i 0) ≡ false → digits n (drop i s) ≡ (n, drop i s)
unfolding digits
digits-stop n s i h d = rw (drop-cons s i 0 h, d)

digits_more : (n : ℕ) (s : List ℕ) (i : ℕ) → i < length s → is_digit (get_or s i 0) ≡ true
    → digits n (drop i s) ≡ digits (n * 10 + (get_or s i 0 - 48)) (drop (i + 1) s)
unfolding digits
digits_more n s i h d = rw (add-one, drop-cons s i 0 h, d)

-- what is known between two digits: those passed have the value `number`
pub record Passed (first : ℕ) (s : List ℕ) (at value i : ℕ) : Type 0 where
  pub number : ℕ
  pub answered : value ≡ min number too_large
  pub ahead : digits number (drop i s) ≡ digits first (drop at s)
  pub within : i ≤ length s

pub passed_none : (first : ℕ) (s : List ℕ) (at : ℕ) → at ≤ length s → first ≤ 9 → Passed first s at first at
passed_none first s at h small = record { number = first; answered = omega arith; ahead = refl; within = h }

module _ {first : ℕ} {s : List ℕ} {at value i : ℕ} (p : Passed first s at value i) where
  pub passed-digit : {more : ℕ} → i < length s → is_digit (get_or s i 0) ≡ true → more ≡ min (value * 10 + (get_or s i 0 - 48)) too_large → Passed first s at more (i + 1)
  passed-digit h d e =
      record {
        number = p.number * 10 + (get_or s i 0 - 48);
        answered = omega (arith, p.answered);
        ahead = sym (digits_more p.number s i h d) ∙ p.ahead;
        within = omega arith;
      }

  pub passed-end : length s ≤ i → CappedTo (digits_behind first) s at value i
  unfolding digits_behind
  passed-end h =
      record {
        number = p.number;
        reads = ap (λ (r : ℕ × List ℕ). some r) (sym p.ahead ∙ digits-end p.number s i h);
        answered = p.answered;
        within = p.within;
      }

  pub passed-stop : i < length s → is_digit (get_or s i 0) ≡ false → CappedTo (digits_behind first) s at value i
  unfolding digits_behind
  passed-stop h d =
      record {
        number = p.number;
        reads = ap (λ (r : ℕ × List ℕ). some r) (sym p.ahead ∙ digits-stop p.number s i h d);
        answered = p.answered;
        within = p.within;
      }

-- A numeral by its first byte.

pub decimal-end : (s : List ℕ) (at : ℕ) → length s ≤ at → decimal (drop at s) ≡ none
unfolding decimal
decimal-end s at h = rw (drop_of_length-le s h)

module _ (s : List ℕ) (at : ℕ) (h : at < length s) where
  pub decimal-zero : get_or s at 0 ≡ 48 → CappedTo decimal s at 0 (at + 1)
  unfolding decimal
  decimal-zero e =
      record {
        number = 0;
        reads = rw (add-one, drop-cons s at 0 h, eq-eqb (get_or s at 0) 48 e);
        answered = omega arith;
        within = omega arith;
      }

  module _ (other : get_or s at 0 ≡ 48 → ⊥) where
    pub decimal-none : is_digit (get_or s at 0) ≡ false → decimal (drop at s) ≡ none
    unfolding decimal
    decimal-none d = rw (drop-cons s at 0 h, ne_eqb (get_or s at 0) 48 other, d)

    decimal-digits : is_digit (get_or s at 0) ≡ true → decimal (drop at s) ≡ digits_behind (get_or s at 0 - 48) (drop (at + 1) s)
    unfolding decimal digits_behind
    decimal-digits d = rw (add-one, drop-cons s at 0 h, ne_eqb (get_or s at 0) 48 other, d)

    pub decimal-some : is_digit (get_or s at 0) ≡ true → (r : Option (ℕ × ℕ)) → CappedIs (digits_behind (get_or s at 0 - 48)) s (at + 1) r → CappedIs decimal s at r
    decimal-some d (Some (value, next)) e =
        record {
          number = e.number;
          reads = decimal-digits d ∙ e.reads;
          answered = e.answered;
          within = e.within;
        }
    decimal-some d None e = decimal-digits d ∙ e

-- A numeral and the comma after it.

pub field-none : (s : List ℕ) (at : ℕ) → decimal (drop at s) ≡ none → field (drop at s) ≡ none
unfolding field ◌>>=◌ and_then
field-none s at e = rw e

module _ {s : List ℕ} {at value next : ℕ} (r : CappedTo decimal s at value next) where
  pub field-end : length s ≤ next → field (drop at s) ≡ none
  unfolding field ◌>>=◌ ◌>>◌ and_then byte
  field-end h = rw (r.reads, drop_of_length-le s h)

  pub field-other : next < length s → (get_or s next 0 ≡ 44 → ⊥) → field (drop at s) ≡ none
  unfolding field ◌>>=◌ ◌>>◌ and_then byte
  field-other h other = rw (r.reads, drop-cons s next 0 h, ne_eqb (get_or s next 0) 44 other)

  pub field-some : next < length s → get_or s next 0 ≡ 44 → CappedTo field s at value (next + 1)
  unfolding field ◌>>=◌ ◌>>◌ and_then byte pure
  field-some h e =
      record {
        number = r.number;
        reads = rw (r.reads, drop-cons s next 0 h, eq-eqb (get_or s next 0) 44 e, add-one);
        answered = r.answered;
        within = omega arith;
      }
