-- What is written into a lent buffer.
use Rattle.std.specs.Prelude.{ℕ, ◌+◌, ◌-◌, min, List, ◌≡◌, length}
use Rattle.std.proofs.lemmas.List.Edits.{sets}

-- the bytes are there from `at` on, as many as there is room for, and `next` is after them
pub record Wrote (before after : List ℕ) (at : ℕ) (bytes : List ℕ) (next : ℕ) : Type 0 where
  pub stands : after ≡ sets before at bytes
  pub ends : next ≡ at + min (length bytes) (length before - at)
