-- What a change of the scratch leaves alone.
use Rattle.std.specs.Prelude.{ℕ, ◌+◌, ◌≤◌, ◌<◌, List, ◌≡◌, length, get_or}
use Rattle.schema.specs.Index.{index_end, first_word, place_word, name_word}

-- only words of the index may differ
pub record Kept (before after : List ℕ) : Type 0 where
  pub size : length after ≡ length before
  pub lower : (i : ℕ) → i < first_word → get_or after i 0 ≡ get_or before i 0
  pub upper : (i : ℕ) → index_end ≤ i → get_or after i 0 ≡ get_or before i 0

pub record SlotKept (before after : List ℕ) (k : ℕ) : Type 0 where
  pub place : place_word after k ≡ place_word before k
  pub name : name_word after k ≡ name_word before k

-- the `n` slots from `low` on
abbrev pub SlotsKept : (before after : List ℕ) (low n : ℕ) → Type 0
SlotsKept before after low n = (k : ℕ) → low ≤ k → k < low + n → SlotKept before after k

-- all slots but the `n` from `first` on and those from `low` up to `high`
abbrev pub OthersKept : (before after : List ℕ) (first n low high : ℕ) → Type 0
OthersKept before after first n low high =
    (k : ℕ) → (first ≤ k → k < first + n → ⊥) → (low ≤ k → k < high → ⊥) → SlotKept before after k
