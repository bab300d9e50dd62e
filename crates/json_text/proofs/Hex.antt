-- Laws of hexadecimal digits at a place of the bytes: each way through the code's readers.
use Prim.Native.Nat.{ℕ, ◌+◌, ◌-◌, ◌*◌, ◌<◌, ◌≤◌}
use mathlib.Core.Bool.{true, false}
use mathlib.Core.List.{List, [], ◌∷◌}
use mathlib.Core.Option.{none, some, map}
use mathlib.Core.Path.{◌≡◌, refl, sym, ap, ◌∙◌}
use native.Mathlib.Omega.{arith}
use native.Mathlib.Numerals.{add-one}
use lib.ListN.{length, drop, get_or, drop_of_length-le}
use lib.Seq.{drop-cons}
use borrow.Author.Tests.{le-leb, lt-leb}
use Rattle.text.specs.Utf8.{between}
use Rattle.text.specs.Decimal.{is_digit}
use Rattle.text.specs.Reader.{◌>>=◌, and_then, pure}
use Rattle.text.specs.ReadAt.{ReadsTo, Refuses}
use Rattle.json_text.specs.Strings.{hex_value, hex_digit, hex4}
use Rattle.json_text.specs.Places.{HexIs, DigitIs, PointRead}
use Rattle.json_text.proofs.EncodeLaws.{size-3}

is-hex : {b r : ℕ} → hex_value b ≡ some r → r < 16 → HexIs b r
is-hex e h = record { read = λ k. e; other = λ k. absurd (omega arith) }

no-hex : {b : ℕ} → hex_value b ≡ none → HexIs b 16
no-hex e = record { read = λ k. absurd (omega arith); other = λ k. e }

pub below-digits : (b : ℕ) → b < 48 → HexIs b 16
unfolding hex_value is_digit between
below-digits b h = no-hex (rw (lt-leb 48 b h, lt-leb 65 b (omega arith), lt-leb 97 b (omega arith)))

pub a-digit : (b r : ℕ) → 48 ≤ b → b ≤ 57 → r ≡ b - 48 → HexIs b r
unfolding hex_value is_digit between
a-digit b r l h e = is-hex (rw (le-leb 48 b l, le-leb b 57 h, e)) (omega arith)

pub above-digits : (b : ℕ) → 57 < b → b < 65 → HexIs b 16
unfolding hex_value is_digit between
above-digits b l h = no-hex (rw (le-leb 48 b (omega arith), lt-leb b 57 l, lt-leb 65 b h, lt-leb 97 b (omega arith)))

pub upper-digit : (b r : ℕ) → 65 ≤ b → b ≤ 70 → r ≡ b - 55 → HexIs b r
unfolding hex_value is_digit between
upper-digit b r l h e = is-hex (rw (le-leb 48 b (omega arith), lt-leb b 57 (omega arith), le-leb 65 b l, le-leb b 70 h, e)) (omega arith)

pub above-upper : (b : ℕ) → 70 < b → b < 97 → HexIs b 16
unfolding hex_value is_digit between
above-upper b l h =
    no-hex (rw (le-leb 48 b (omega arith), lt-leb b 57 (omega arith), le-leb 65 b (omega arith), lt-leb b 70 l, lt-leb 97 b h))

pub lower-digit : (b r : ℕ) → 97 ≤ b → b ≤ 102 → r ≡ b - 87 → HexIs b r
unfolding hex_value is_digit between
lower-digit b r l h e =
    is-hex (rw (le-leb 48 b (omega arith), lt-leb b 57 (omega arith), le-leb 65 b (omega arith), lt-leb b 70 (omega arith), le-leb 97 b l, le-leb b 102 h, e)) (omega arith)

pub above_lower : (b : ℕ) → 102 < b → HexIs b 16
unfolding hex_value is_digit between
above_lower b l =
    no-hex (rw (le-leb 48 b (omega arith), lt-leb b 57 (omega arith), le-leb 65 b (omega arith), lt-leb b 70 (omega arith), le-leb 97 b (omega arith), lt-leb b 102 l))

-- At a place

pub no_digit : (s : List ℕ) (at : ℕ) → length s ≤ at → DigitIs s at 16
unfolding hex_digit
no_digit s at h = record { read = λ k. absurd (omega arith); other = λ k. rw (drop_of_length-le s h) }

pub digit-there : (s : List ℕ) (at r : ℕ) → at < length s → HexIs (get_or s at 0) r → DigitIs s at r
unfolding hex_digit
digit-there s at r h x =
    record {
      read = λ k. record { reads = rw (add-one, drop-cons s at 0 h, x.read k); past = omega arith; within = omega arith };
      other = λ k. rw (drop-cons s at 0 h, x.other k);
    }

-- Four of them

module _ (s : List ℕ) (at : ℕ) {a : ℕ} (p : DigitIs s at a) where
  pub hex4-none-1 : 16 ≤ a → Refuses hex4 s at
  unfolding hex4 ◌>>=◌ and_then
  hex4-none-1 h = rw (p.other h)

  module _ (j : a < 16) {b : ℕ} (q : DigitIs s (at + 1) b) where
    pub hex4-none-2 : 16 ≤ b → Refuses hex4 s at
    unfolding hex4 ◌>>=◌ and_then
    hex4-none-2 h = rw ((p.read j).reads, q.other h)

    module _ (k : b < 16) {c : ℕ} (r : DigitIs s (at + 2) c) where
      second : hex_digit (drop (at + 1) s) ≡ some (b, drop (at + 2) s)
      second = let e : at + 1 + 1 ≡ at + 2 = omega arith in rw e at (q.read k).reads

      pub hex4-none-3 : 16 ≤ c → Refuses hex4 s at
      unfolding hex4 ◌>>=◌ and_then
      hex4-none-3 h = rw ((p.read j).reads, second, r.other h)

      module _ (l : c < 16) {d : ℕ} (t : DigitIs s (at + 3) d) where
        third : hex_digit (drop (at + 2) s) ≡ some (c, drop (at + 3) s)
        third = let e : at + 2 + 1 ≡ at + 3 = omega arith in rw e at (r.read l).reads

        pub hex4-none-4 : 16 ≤ d → Refuses hex4 s at
        unfolding hex4 ◌>>=◌ and_then
        hex4-none-4 h = rw ((p.read j).reads, second, third, t.other h)

        pub hex4-some : {n : ℕ} → d < 16 → n ≡ a * 4096 + b * 256 + c * 16 + d → PointRead hex4 65535 s at n (at + 4)
        unfolding hex4 ◌>>=◌ and_then pure
        hex4-some {n} h is =
            let e : at + 3 + 1 ≡ at + 4 = omega arith in
            let fourth : hex_digit (drop (at + 3) s) ≡ some (d, drop (at + 4) s) = rw e at (t.read h).reads in
            let most : n ≤ 65535 = omega arith in
            let size = size-3 n most in
            record {
              read = record { reads = rw ((p.read j).reads, second, third, fourth, is); past = omega arith; within = omega (arith, (t.read h).within) };
              within = most;
              size = omega arith;
            }
