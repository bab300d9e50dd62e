-- Worked examples of the definition, each by computation.
use Prim.Native.Nat.{ℕ}
use mathlib.Core.Path.{◌≡◌, refl}
use mathlib.Core.Bool.{Bool, true, false}
use mathlib.Core.List.{List, [], ◌∷◌}
use mathlib.Core.Option.{Option, none, some}
use Rattle.text.specs.Utf8.{between, is_tail, utf8-1, is_utf8-2, utf8-2, is_second_of3, is_utf8-3, utf8-3, is_second_of4, is_utf8-4, utf8-4, or_else, decode_one, points_from, code_points_in, code_points}
use Rattle.text.specs.WhiteSpace.{is_white_space}
use Rattle.text.specs.Blank.{all_white_space, blank_points, is_blank, start_from, trim_start_in, trim_start, trim_end, trim}
use Rattle.text.specs.Decimal.{is_digit}
use Rattle.timestamp.specs.Instant.{digit_value, is_two, two, three, is_marked_two, fields_of, is_leap, days_in, is_date, is_day, is_separator, is_time, is_clock, is_zone, is_end, skip_digits, is_fraction, is_time_end, is_timed, is_instant, instant_in, instant}
use Rattle.timestamp.specs.Order.{list_of, is_below, is_earlier}
use Rattle.timestamp.specs.declared.Fields.{Fields}

-- the definition, with all that it rests on
unfoldable read : List ℕ → Option Fields
unfolding between is_tail utf8-1 is_utf8-2 utf8-2 is_second_of3 is_utf8-3 utf8-3 is_second_of4 is_utf8-4 utf8-4 or_else decode_one points_from code_points_in code_points is_white_space all_white_space blank_points is_blank start_from trim_start_in trim_start trim_end trim is_digit digit_value is_two two three is_marked_two fields_of is_leap days_in is_date is_day is_separator is_time is_clock is_zone is_end skip_digits is_fraction is_time_end is_timed is_instant instant_in instant
read s = instant s

is_good : Option Fields → Bool
is_good none = false
is_good (some f) = true

unfoldable good : List ℕ → Bool
unfolding read is_good
good s = is_good (read s)

-- 2024-02-29T23:59:60.123456789Z
whole : read (0x32 ∷ 0x30 ∷ 0x32 ∷ 0x34 ∷ 0x2D ∷ 0x30 ∷ 0x32 ∷ 0x2D ∷ 0x32 ∷ 0x39 ∷ 0x54 ∷ 0x32 ∷ 0x33 ∷ 0x3A ∷ 0x35 ∷ 0x39 ∷ 0x3A ∷ 0x36 ∷ 0x30 ∷ 0x2E ∷ 0x31 ∷ 0x32 ∷ 0x33 ∷ 0x34 ∷ 0x35 ∷ 0x36 ∷ 0x37 ∷ 0x38 ∷ 0x39 ∷ 0x5A ∷ []) ≡ some (record { year = 2024; month = 2; day = 29; hour = 23; minute = 59; second = 60; nanoseconds = 123456789 })
unfolding read
whole = refl

-- 0000-02-29
date-alone : read (0x30 ∷ 0x30 ∷ 0x30 ∷ 0x30 ∷ 0x2D ∷ 0x30 ∷ 0x32 ∷ 0x2D ∷ 0x32 ∷ 0x39 ∷ []) ≡ some (record { year = 0; month = 2; day = 29; hour = 0; minute = 0; second = 0; nanoseconds = 0 })
unfolding read
date-alone = refl

-- 9999-12-31 00:00:00.5
short-fraction : read (0x39 ∷ 0x39 ∷ 0x39 ∷ 0x39 ∷ 0x2D ∷ 0x31 ∷ 0x32 ∷ 0x2D ∷ 0x33 ∷ 0x31 ∷ 0x20 ∷ 0x30 ∷ 0x30 ∷ 0x3A ∷ 0x30 ∷ 0x30 ∷ 0x3A ∷ 0x30 ∷ 0x30 ∷ 0x2E ∷ 0x35 ∷ []) ≡ some (record { year = 9999; month = 12; day = 31; hour = 0; minute = 0; second = 0; nanoseconds = 500000000 })
unfolding read
short-fraction = refl

--  \t1970-01-01t00:00:09z\n
trimmed : read (0x20 ∷ 0x09 ∷ 0x31 ∷ 0x39 ∷ 0x37 ∷ 0x30 ∷ 0x2D ∷ 0x30 ∷ 0x31 ∷ 0x2D ∷ 0x30 ∷ 0x31 ∷ 0x74 ∷ 0x30 ∷ 0x30 ∷ 0x3A ∷ 0x30 ∷ 0x30 ∷ 0x3A ∷ 0x30 ∷ 0x39 ∷ 0x7A ∷ 0x0A ∷ []) ≡ some (record { year = 1970; month = 1; day = 1; hour = 0; minute = 0; second = 9; nanoseconds = 0 })
unfolding read
trimmed = refl

-- 2024-02-29
leap-2024 : good (0x32 ∷ 0x30 ∷ 0x32 ∷ 0x34 ∷ 0x2D ∷ 0x30 ∷ 0x32 ∷ 0x2D ∷ 0x32 ∷ 0x39 ∷ []) ≡ true
unfolding good
leap-2024 = refl

-- 2023-02-29
common-2023 : good (0x32 ∷ 0x30 ∷ 0x32 ∷ 0x33 ∷ 0x2D ∷ 0x30 ∷ 0x32 ∷ 0x2D ∷ 0x32 ∷ 0x39 ∷ []) ≡ false
unfolding good
common-2023 = refl

-- 1900-02-29
common-1900 : good (0x31 ∷ 0x39 ∷ 0x30 ∷ 0x30 ∷ 0x2D ∷ 0x30 ∷ 0x32 ∷ 0x2D ∷ 0x32 ∷ 0x39 ∷ []) ≡ false
unfolding good
common-1900 = refl

-- 2000-02-29
leap-2000 : good (0x32 ∷ 0x30 ∷ 0x30 ∷ 0x30 ∷ 0x2D ∷ 0x30 ∷ 0x32 ∷ 0x2D ∷ 0x32 ∷ 0x39 ∷ []) ≡ true
unfolding good
leap-2000 = refl

-- 2024-04-31
april-31 : good (0x32 ∷ 0x30 ∷ 0x32 ∷ 0x34 ∷ 0x2D ∷ 0x30 ∷ 0x34 ∷ 0x2D ∷ 0x33 ∷ 0x31 ∷ []) ≡ false
unfolding good
april-31 = refl

-- 2024-00-10
month-0 : good (0x32 ∷ 0x30 ∷ 0x32 ∷ 0x34 ∷ 0x2D ∷ 0x30 ∷ 0x30 ∷ 0x2D ∷ 0x31 ∷ 0x30 ∷ []) ≡ false
unfolding good
month-0 = refl

-- 2024-13-01
month-13 : good (0x32 ∷ 0x30 ∷ 0x32 ∷ 0x34 ∷ 0x2D ∷ 0x31 ∷ 0x33 ∷ 0x2D ∷ 0x30 ∷ 0x31 ∷ []) ≡ false
unfolding good
month-13 = refl

-- 2024-01-00
day-0 : good (0x32 ∷ 0x30 ∷ 0x32 ∷ 0x34 ∷ 0x2D ∷ 0x30 ∷ 0x31 ∷ 0x2D ∷ 0x30 ∷ 0x30 ∷ []) ≡ false
unfolding good
day-0 = refl

-- 2024-01-01T24:00:00
hour-24 : good (0x32 ∷ 0x30 ∷ 0x32 ∷ 0x34 ∷ 0x2D ∷ 0x30 ∷ 0x31 ∷ 0x2D ∷ 0x30 ∷ 0x31 ∷ 0x54 ∷ 0x32 ∷ 0x34 ∷ 0x3A ∷ 0x30 ∷ 0x30 ∷ 0x3A ∷ 0x30 ∷ 0x30 ∷ []) ≡ false
unfolding good
hour-24 = refl

-- 2024-01-01T00:60:00
minute-60 : good (0x32 ∷ 0x30 ∷ 0x32 ∷ 0x34 ∷ 0x2D ∷ 0x30 ∷ 0x31 ∷ 0x2D ∷ 0x30 ∷ 0x31 ∷ 0x54 ∷ 0x30 ∷ 0x30 ∷ 0x3A ∷ 0x36 ∷ 0x30 ∷ 0x3A ∷ 0x30 ∷ 0x30 ∷ []) ≡ false
unfolding good
minute-60 = refl

-- 2024-01-01T00:00:61
second-61 : good (0x32 ∷ 0x30 ∷ 0x32 ∷ 0x34 ∷ 0x2D ∷ 0x30 ∷ 0x31 ∷ 0x2D ∷ 0x30 ∷ 0x31 ∷ 0x54 ∷ 0x30 ∷ 0x30 ∷ 0x3A ∷ 0x30 ∷ 0x30 ∷ 0x3A ∷ 0x36 ∷ 0x31 ∷ []) ≡ false
unfolding good
second-61 = refl

-- 2024-01-01T00:00:00.
no-fraction-digit : good (0x32 ∷ 0x30 ∷ 0x32 ∷ 0x34 ∷ 0x2D ∷ 0x30 ∷ 0x31 ∷ 0x2D ∷ 0x30 ∷ 0x31 ∷ 0x54 ∷ 0x30 ∷ 0x30 ∷ 0x3A ∷ 0x30 ∷ 0x30 ∷ 0x3A ∷ 0x30 ∷ 0x30 ∷ 0x2E ∷ []) ≡ false
unfolding good
no-fraction-digit = refl

-- 2024-01-01T00:00:00.1234567890
ten-fraction-digits : good (0x32 ∷ 0x30 ∷ 0x32 ∷ 0x34 ∷ 0x2D ∷ 0x30 ∷ 0x31 ∷ 0x2D ∷ 0x30 ∷ 0x31 ∷ 0x54 ∷ 0x30 ∷ 0x30 ∷ 0x3A ∷ 0x30 ∷ 0x30 ∷ 0x3A ∷ 0x30 ∷ 0x30 ∷ 0x2E ∷ 0x31 ∷ 0x32 ∷ 0x33 ∷ 0x34 ∷ 0x35 ∷ 0x36 ∷ 0x37 ∷ 0x38 ∷ 0x39 ∷ 0x30 ∷ []) ≡ false
unfolding good
ten-fraction-digits = refl

-- 2024-01-01Z
zone-after-date : good (0x32 ∷ 0x30 ∷ 0x32 ∷ 0x34 ∷ 0x2D ∷ 0x30 ∷ 0x31 ∷ 0x2D ∷ 0x30 ∷ 0x31 ∷ 0x5A ∷ []) ≡ false
unfolding good
zone-after-date = refl

-- 2024-01-01T00:00:00+00:00
offset : good (0x32 ∷ 0x30 ∷ 0x32 ∷ 0x34 ∷ 0x2D ∷ 0x30 ∷ 0x31 ∷ 0x2D ∷ 0x30 ∷ 0x31 ∷ 0x54 ∷ 0x30 ∷ 0x30 ∷ 0x3A ∷ 0x30 ∷ 0x30 ∷ 0x3A ∷ 0x30 ∷ 0x30 ∷ 0x2B ∷ 0x30 ∷ 0x30 ∷ 0x3A ∷ 0x30 ∷ 0x30 ∷ []) ≡ false
unfolding good
offset = refl

-- 2024-01-01T00:00:00ZZ
two-zones : good (0x32 ∷ 0x30 ∷ 0x32 ∷ 0x34 ∷ 0x2D ∷ 0x30 ∷ 0x31 ∷ 0x2D ∷ 0x30 ∷ 0x31 ∷ 0x54 ∷ 0x30 ∷ 0x30 ∷ 0x3A ∷ 0x30 ∷ 0x30 ∷ 0x3A ∷ 0x30 ∷ 0x30 ∷ 0x5A ∷ 0x5A ∷ []) ≡ false
unfolding good
two-zones = refl

-- 2024-01-01  00:00:00
two-spaces : good (0x32 ∷ 0x30 ∷ 0x32 ∷ 0x34 ∷ 0x2D ∷ 0x30 ∷ 0x31 ∷ 0x2D ∷ 0x30 ∷ 0x31 ∷ 0x20 ∷ 0x20 ∷ 0x30 ∷ 0x30 ∷ 0x3A ∷ 0x30 ∷ 0x30 ∷ 0x3A ∷ 0x30 ∷ 0x30 ∷ []) ≡ false
unfolding good
two-spaces = refl

-- 2024-01-01T00:00
no-seconds : good (0x32 ∷ 0x30 ∷ 0x32 ∷ 0x34 ∷ 0x2D ∷ 0x30 ∷ 0x31 ∷ 0x2D ∷ 0x30 ∷ 0x31 ∷ 0x54 ∷ 0x30 ∷ 0x30 ∷ 0x3A ∷ 0x30 ∷ 0x30 ∷ []) ≡ false
unfolding good
no-seconds = refl

nothing : good [] ≡ false
unfolding good
nothing = refl

-- The order

unfoldable at : (month day second nanoseconds : ℕ) → Fields
at month day second nanoseconds =
    record { year = 2024; month = month; day = day; hour = 0; minute = 0; second = second; nanoseconds = nanoseconds }

-- 31 January lies before 1 February
month-first : is_earlier (at 1 31 0 0) (at 2 1 0 0) ≡ true
unfolding is_earlier is_below list_of at
month-first = refl

not_after : is_earlier (at 2 1 0 0) (at 1 31 0 0) ≡ false
unfolding is_earlier is_below list_of at
not_after = refl

-- the 61st second lies before the next minute's first, and after a nanosecond earlier
second-60 : is_earlier (at 1 1 60 0) (record { year = 2024; month = 1; day = 1; hour = 0; minute = 1; second = 0; nanoseconds = 0 }) ≡ true
unfolding is_earlier is_below list_of at
second-60 = refl

one-nanosecond : is_earlier (at 1 1 59 999999999) (at 1 1 60 0) ≡ true
unfolding is_earlier is_below list_of at
one-nanosecond = refl

equal-neither : is_earlier (at 1 1 0 1) (at 1 1 0 1) ≡ false
unfolding is_earlier is_below list_of at
equal-neither = refl
