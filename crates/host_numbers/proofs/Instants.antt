-- The three ways through `rulecheck_instant`, and what it answers, computed.
use Prim.Native.Nat.{ℕ, ◌≤◌, ◌<◌}
use mathlib.Core.List.{List, [], ◌∷◌}
use mathlib.Core.Option.{Option, none, some}
use mathlib.Core.Path.{◌≡◌, refl}
use lib.ListN.{length, replicate}
use borrow.Author.Tests.{le-leb, lt-leb}
use Rattle.timestamp.specs.Instant.{instant}
use Rattle.timestamp.specs.Order.{list_of}
use Rattle.timestamp.specs.declared.Fields.{Fields}
use Rattle.buffer.specs.Wrote.{Wrote}
use Rattle.buffer.specs.Bytes.{little_endian, bytes_of}
use Rattle.host_numbers.specs.InstantEntry.{instant_bytes, instant_number, instant_after, InstantAnswered}

pub instant-short : (text before : List ℕ) → length before < instant_bytes → InstantAnswered text before before 3
unfolding instant_number instant_after
instant-short text before short = record { number = number (instant text); fields = fields (instant text) }
  where
    number : (o : Option Fields) → 3 ≡ instant_number (length before) o
    number none = rw (lt-leb instant_bytes (length before) short)
    number (some f) = rw (lt-leb instant_bytes (length before) short)

    fields : (o : Option Fields) → before ≡ instant_after o before
    fields none = refl
    fields (some f) = rw (lt-leb instant_bytes (length before) short)

pub instant-unread : (text before : List ℕ) → instant_bytes ≤ length before → instant text ≡ none → InstantAnswered text before before 20
unfolding instant_number instant_after
instant-unread text before room e = record { number = rw (e, le-leb instant_bytes (length before) room); fields = rw e }

pub instant-written : (text : List ℕ) {f : Fields} {ns before after : List ℕ} {next : ℕ}
    → instant_bytes ≤ length before
    → instant text ≡ some f
    → ns ≡ list_of f
    → Wrote before after 0 (bytes_of ns) next
    → InstantAnswered text before after 0
unfolding instant_number instant_after
instant-written text {before = before} room e q w =
    record {
      number = rw (e, le-leb instant_bytes (length before) room);
      fields = rw (e, le-leb instant_bytes (length before) room, ← q) w.stands;
    }

-- 2024-02-29T23:59:60.000000001
unfoldable leap : Fields
leap = record { year = 2024; month = 2; day = 29; hour = 23; minute = 59; second = 60; nanoseconds = 1 }

fields-written : instant_after (some leap) (replicate 30 7)
    ≡ 232 ∷ 7 ∷ 0 ∷ 0 ∷ 2 ∷ 0 ∷ 0 ∷ 0 ∷ 29 ∷ 0 ∷ 0 ∷ 0 ∷ 23 ∷ 0 ∷ 0 ∷ 0 ∷ 59 ∷ 0 ∷ 0 ∷ 0 ∷ 60 ∷ 0 ∷ 0 ∷ 0 ∷ 1 ∷ 0 ∷ 0 ∷ 0 ∷ 7 ∷ 7 ∷ []
unfolding instant_after list_of bytes_of little_endian leap
fields-written = refl

fields-short : instant_after (some leap) (replicate 27 7) ≡ replicate 27 7
unfolding instant_after
fields-short = refl

-- 28 bytes are just enough
fields_fit : instant_after (some leap) (replicate 28 7)
    ≡ 232 ∷ 7 ∷ 0 ∷ 0 ∷ 2 ∷ 0 ∷ 0 ∷ 0 ∷ 29 ∷ 0 ∷ 0 ∷ 0 ∷ 23 ∷ 0 ∷ 0 ∷ 0 ∷ 59 ∷ 0 ∷ 0 ∷ 0 ∷ 60 ∷ 0 ∷ 0 ∷ 0 ∷ 1 ∷ 0 ∷ 0 ∷ 0 ∷ []
unfolding instant_after list_of bytes_of little_endian leap
fields_fit = refl

number_fits : instant_number 28 (some leap) ≡ 0
unfolding instant_number
number_fits = refl

number_short : instant_number 27 (some leap) ≡ 3
unfolding instant_number
number_short = refl

-- too few bytes come before a text that is not an instant
number-unread : instant_number 28 none ≡ 20
unfolding instant_number
number-unread = refl

number-short-unread : instant_number 27 none ≡ 3
unfolding instant_number
number-short-unread = refl
