-- The fields of an instant are small: four digits, two, or nine.
use Rattle.std.specs.Prelude.{ℕ, ◌+◌, ◌-◌, ◌≤◌, Bool, true, false, cond, List, ◌≡◌, refl, get_or}
use Rattle.std.proofs.Common.{arith, subst}
use Rattle.std.proofs.Math.Option.{none, some, none-ne-some, some-injective}
use Rattle.text.specs.Decimal.{is_digit}
use Rattle.text.specs.Blank.{trim}
use Rattle.text.specs.DecimalLaws.{is_digit-range}
use Rattle.timestamp.specs.Instant.{digit_value, two, three, fields_of, is_instant, instant_in, instant, SmallFields}
use Rattle.timestamp.specs.declared.Fields.{Fields}

digit_low : (b : ℕ) → digit_value b ≤ 9
unfolding digit_value
digit_low b = go (is_digit b) refl
  where
    go : (t : Bool) → is_digit b ≡ t → cond t (b - 0x30) 0 ≤ 9
    go true e = omega (arith, (is_digit-range b e).1)
    go false e = omega arith

two-low : (s : List ℕ) (at : ℕ) → two s at ≤ 99
unfolding two
two-low s at = omega (arith, digit_low (get_or s at 0), digit_low (get_or s (at + 1) 0))

three-low : (s : List ℕ) (at : ℕ) → three s at ≤ 999
unfolding three
three-low s at = omega (arith, two-low s at, digit_low (get_or s (at + 2) 0))

fields-low : (s : List ℕ) → SmallFields (fields_of s)
unfolding fields_of
fields-low s =
    record {
      year = omega (arith, two-low s 0, two-low s 2);
      month = two-low s 5;
      day = two-low s 8;
      hour = two-low s 11;
      minute = two-low s 14;
      second = two-low s 17;
      nanoseconds = omega (arith, three-low s 20, three-low s 23, three-low s 26);
    }

found-low : (t : Bool) (g f : Fields) → SmallFields g → cond t (some g) none ≡ some f → SmallFields f
found-low true g f low e = subst SmallFields (some-injective g f e) low
found-low false g f low e = absurd (none-ne-some f e)

pub instant-low : (s : List ℕ) (f : Fields) → instant s ≡ some f → SmallFields f
unfolding instant instant_in
instant-low s f e = found-low (is_instant (trim s) (fields_of (trim s))) (fields_of (trim s)) f (fields-low (trim s)) e
