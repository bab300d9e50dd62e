-- Texts of strings where they stand: what comparing them answers, and the slot of a text.
use Rattle.std.specs.Prelude.{ℕ, ◌+◌, ◌*◌, ◌/◌, ◌%◌, ◌<◌, Bool, List, [], ◌∷◌, ◌≡◌, drop}
use Rattle.std.proofs.Math.Option.{some}
use Rattle.text.specs.Order.{same_bytes}
use Rattle.json_text.specs.Json.{Text}
use Rattle.json_text.specs.Strings.{chars_in}

-- the text of the string that begins there, behind its first quotation mark
pub record TextAt (s : List ℕ) (at : ℕ) (text : Text) : Type 0 where
  pub turns : ℕ
  pub behind : List ℕ
  pub reads : chars_in turns (drop at s) ≡ some (text, behind)

pub record SameText (s : List ℕ) (a b : ℕ) (r : Bool) : Type 0 where
  pub told : (t u : Text) → TextAt s a t → TextAt s b u → r ≡ same_bytes t u

abbrev pub slots : ℕ
slots = 16384

-- a text's bytes, stirred to 32 bits; the upper 14 of them are its slot
unfoldable pub stir : ℕ → ℕ → ℕ
stir h b = (h + b) * 1540483477 % 4294967296

unfoldable pub stirred : ℕ → Text → ℕ
stirred h [] = h
stirred h (b ∷ t) = stirred (stir h b) t

unfoldable pub slot_of : Text → ℕ
slot_of t = stirred 0 t / 262144

pub record SlotIs (s : List ℕ) (at r : ℕ) : Type 0 where
  pub told : (t : Text) → TextAt s at t → r ≡ slot_of t
  pub small : r < slots
