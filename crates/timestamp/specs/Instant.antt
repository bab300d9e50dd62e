-- Instants as docs/FORMAT.md, "Instants" has them, by the places of their characters:
--
--     0    5  8  11 14 17 20
--     YYYY-MM-DDTHH:MM:SS.nnnnnnnnn_z
--
-- A byte past the end counts as 0, neither a digit nor a mark, so no place has to be tested for being there.
use Rattle.std.specs.Prelude.{ℕ, zero, suc, ◌+◌, ◌*◌, ◌-◌, ◌%◌, ◌≤◌, Bool, cond, not, ◌&&◌, ◌||◌, List, leb, eqb, length, get_or}
use Rattle.std.proofs.Math.Option.{Option, none, some}
use Rattle.text.specs.Utf8.{between}
use Rattle.text.specs.Blank.{trim}
use Rattle.text.specs.Decimal.{is_digit}
use Rattle.timestamp.specs.declared.Fields.{Fields}

-- what is not a digit counts as 0, and so does a digit that the text leaves out
unfoldable pub digit_value : ℕ → ℕ
digit_value b = cond (is_digit b) (b - 0x30) 0

unfoldable pub is_two : List ℕ → ℕ → Bool
is_two s at = is_digit (get_or s at 0) && is_digit (get_or s (at + 1) 0)

unfoldable pub two : List ℕ → ℕ → ℕ
two s at = digit_value (get_or s at 0) * 10 + digit_value (get_or s (at + 1) 0)

unfoldable pub three : List ℕ → ℕ → ℕ
three s at = two s at * 10 + digit_value (get_or s (at + 2) 0)

-- a mark with two digits after it
unfoldable pub is_marked_two : List ℕ → ℕ → ℕ → Bool
is_marked_two s at mark = eqb (get_or s at 0) mark && is_two s (at + 1)

unfoldable pub fields_of : List ℕ → Fields
fields_of s =
    record {
      year = two s 0 * 100 + two s 2;
      month = two s 5;
      day = two s 8;
      hour = two s 11;
      minute = two s 14;
      second = two s 17;
      nanoseconds = three s 20 * 1000000 + three s 23 * 1000 + three s 26;
    }

-- Gregorian, also before there was that calendar: the year 0000 is leap
unfoldable pub is_leap : ℕ → Bool
is_leap year = eqb (year % 4) 0 && (eqb (year % 400) 0 || not (eqb (year % 100) 0))

unfoldable pub days_in : ℕ → ℕ → ℕ
days_in year month =
    cond (eqb month 2) (cond (is_leap year) 29 28)
    (cond (eqb month 4 || eqb month 6 || eqb month 9 || eqb month 11) 30 31)

unfoldable pub is_date : List ℕ → Bool
is_date s = is_two s 0 && (is_two s 2 && (is_marked_two s 4 0x2D && is_marked_two s 7 0x2D))

unfoldable pub is_day : ℕ → ℕ → ℕ → Bool
is_day year month day = between 1 12 month && between 1 (days_in year month) day

-- T, t or a space
unfoldable pub is_separator : ℕ → Bool
is_separator b = eqb b 0x54 || eqb b 0x74 || eqb b 0x20

unfoldable pub is_time : List ℕ → Bool
is_time s = is_separator (get_or s 10 0) && (is_two s 11 && (is_marked_two s 13 0x3A && is_marked_two s 16 0x3A))

-- a second of 60 may occur at any time
unfoldable pub is_clock : ℕ → ℕ → ℕ → Bool
is_clock hour minute second = leb hour 23 && (leb minute 59 && leb second 60)

unfoldable pub is_zone : ℕ → Bool
is_zone b = eqb b 0x5A || eqb b 0x7A

-- the text ends here, or after a Z or z that is here
unfoldable pub is_end : List ℕ → ℕ → Bool
is_end s at = eqb (length s) at || is_zone (get_or s at 0) && eqb (length s) (at + 1)

-- where the digits from a place on end, of which no more than some are passed
unfoldable pub skip_digits : List ℕ → ℕ → ℕ → ℕ
skip_digits s at zero = at
skip_digits s at (suc left) = cond (is_digit (get_or s at 0)) (skip_digits s (at + 1) left) at

-- a dot and one to nine digits
unfoldable pub is_fraction : List ℕ → Bool
is_fraction s = eqb (get_or s 19 0) 0x2E && (is_digit (get_or s 20 0) && is_end s (skip_digits s 20 9))

unfoldable pub is_time_end : List ℕ → Bool
is_time_end s = is_end s 19 || is_fraction s

unfoldable pub is_timed : List ℕ → Fields → Bool
is_timed s f = is_time s && (is_clock f.hour f.minute f.second && is_time_end s)

unfoldable pub is_instant : List ℕ → Fields → Bool
is_instant s f = is_date s && (is_day f.year f.month f.day && (eqb (length s) 10 || is_timed s f))

-- the fields of an instant, where the text is one
unfoldable pub instant_in : List ℕ → Option Fields
instant_in s = cond (is_instant s (fields_of s)) (some (fields_of s)) none

unfoldable pub instant : List ℕ → Option Fields
instant s = instant_in (trim s)

pub record SmallFields (f : Fields) : Type 0 where
  pub year : f.year ≤ 9999
  pub month : f.month ≤ 99
  pub day : f.day ≤ 99
  pub hour : f.hour ≤ 99
  pub minute : f.minute ≤ 99
  pub second : f.second ≤ 99
  pub nanoseconds : f.nanoseconds ≤ 999999999
