-- What the functions that work with offsets answer.
use Rattle.std.specs.Prelude.{ℕ, ◌+◌, ◌<◌, ◌≤◌, ◌≡◌, false, List, length, get_or, take, drop, Option, Some, None}
use Rattle.std.proofs.Math.Option.{none, some}
use Rattle.text.specs.Utf8.{decode_one, is_utf8}
use Rattle.text.specs.Blank.{trim_start, trim_end}

-- what is decoded at an offset, with the offset after it
abbrev pub Decodes : List ℕ → ℕ → Option (ℕ × ℕ) → Type 0
Decodes s at (Some (c, next)) = (decode_one (drop at s) ≡ some (c, drop next s)) × (at < next) × (next ≤ length s)
Decodes s at None = decode_one (drop at s) ≡ none

-- `n` bytes from there on are ASCII
abbrev pub AsciiAt : List ℕ → ℕ → ℕ → Type 0
AsciiAt s at n = (k : ℕ) → k < n → get_or s (at + k) 0 ≤ 0x7F

-- a part that says nothing of whether the text is UTF-8 ends there
pub record PassedTo (s : List ℕ) (from to : ℕ) : Type 0 where
  pub forward : from ≤ to
  pub within : to ≤ length s
  pub kept : is_utf8 (drop to s) ≡ is_utf8 (drop from s)

-- the code point at `at` ends there, or none begins, so that the text is not UTF-8
pub record BehindPoint (s : List ℕ) (at next : ℕ) : Type 0 where
  pub passed : PassedTo s at next
  pub none-begins : next ≡ at → is_utf8 (drop at s) ≡ false

pub record StartsAt (s : List ℕ) (start : ℕ) : Type 0 where
  pub within : start ≤ length s
  pub rest : drop start s ≡ trim_start s

pub record EndsAt (s : List ℕ) (end : ℕ) : Type 0 where
  pub within : end ≤ length s
  pub front : take end s ≡ trim_end s
