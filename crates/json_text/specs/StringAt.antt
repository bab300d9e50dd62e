-- What the reader of a string answers: how long its text is, and where it ends.
use Rattle.std.specs.Prelude.{ℕ, ◌+◌, ◌<◌, ◌≤◌, List, ◌≡◌, length, get_or, Option, Some, None}
use Rattle.text.specs.ReadAt.{ReadsTo, Refuses}
use Rattle.json_text.specs.Json.{Text}
use Rattle.json_text.specs.Strings.{string}

-- a byte that is a char and stands for itself
pub record PlainByte (b : ℕ) : Type 0 where
  pub control : 0x20 ≤ b
  pub low : b ≤ 0x7F
  pub quotation : b ≡ 0x22 → ⊥
  pub backslash : b ≡ 0x5C → ⊥

-- so many bytes are such
abbrev pub PlainAt : List ℕ → ℕ → ℕ → Type 0
PlainAt s i n = (k : ℕ) → k < n → PlainByte (get_or s (i + k) 0)

-- all bytes up to `next` are such
pub record PlainTo (s : List ℕ) (at next : ℕ) : Type 0 where
  pub forward : at ≤ next
  pub within : next ≤ length s
  pub plain : (k : ℕ) → at ≤ k → k < next → PlainByte (get_or s k 0)

-- a text of so many bytes is read up to `next`
pub record StringAt (s : List ℕ) (at len next : ℕ) : Type 0 where
  pub text : Text
  pub read : ReadsTo string s at text next
  pub size : length text ≡ len

abbrev pub StringIs : List ℕ → ℕ → Option (ℕ × ℕ) → Type 0
StringIs s at (Some (len, next)) = StringAt s at len next
StringIs s at None = Refuses string s at
