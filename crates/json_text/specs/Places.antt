-- What the code's readers answer, by cases: what the definitions read from place `at` of the bytes on, and the place after it.
use Rattle.std.specs.Prelude.{ℕ, ◌+◌, ◌<◌, ◌≤◌, List, ◌≡◌, length, drop, Option, Some, None}
use Rattle.std.proofs.Math.Option.{none, some}
use Rattle.text.specs.Reader.{Reader}
use Rattle.text.specs.ReadAt.{ReadsTo, Refuses}
use Rattle.json_text.specs.Encode.{utf8_of}
use Rattle.json_text.specs.Strings.{hex_value, hex_digit, short_escape}

-- a hexadecimal digit's value, or 16 where it is none
pub record HexIs (b r : ℕ) : Type 0 where
  pub read : r < 16 → hex_value b ≡ some r
  pub other : 16 ≤ r → hex_value b ≡ none

-- at a place, or 16 where there is none
pub record DigitIs (s : List ℕ) (at r : ℕ) : Type 0 where
  pub read : r < 16 → ReadsTo hex_digit s at r (at + 1)
  pub other : 16 ≤ r → Refuses hex_digit s at

-- what a letter after a backslash stands for, or 0 where it is none of them
pub record ShortIs (b r : ℕ) : Type 0 where
  pub read : (r ≡ 0 → ⊥) → short_escape b ≡ some r
  pub other : r ≡ 0 → short_escape b ≡ none
  pub low : r ≤ 0x7F

-- a code point, and the place after what stands for it, which is no shorter than its UTF-8
pub record PointRead (p : Reader (List ℕ) ℕ) (most : ℕ) (s : List ℕ) (at c next : ℕ) : Type 0 where
  pub read : ReadsTo p s at c next
  pub within : c ≤ most
  pub size : at + length (utf8_of c) ≤ next

abbrev pub PointIs : Reader (List ℕ) ℕ → (most : ℕ) → List ℕ → ℕ → Option (ℕ × ℕ) → Type 0
PointIs p most s at (Some (c, next)) = PointRead p most s at c next
PointIs p most s at None = Refuses p s at
