-- What the first dot of a path separates.
use Rattle.std.specs.Prelude.{ℕ, ◌+◌, ◌≤◌, ◌<◌, Bool, true, false, List, [], ◌∷◌, ◌≡◌, length, take, drop, get_or}
use Prim.Native.Char.{code}
use Rattle.definition.specs.Tree.{Text}
use Rattle.reference.specs.Path.{split}

-- a segment follows the first
abbrev pub is_more : List Text → Bool
is_more [] = false
is_more (s ∷ others) = true

-- the first segment is the first `n` bytes, and what is left follows the dot after it
pub record Ends (path : List ℕ) (n : ℕ) : Type 0 where
  pub within : n ≤ length path
  pub first : (split path).first ≡ take n path
  pub last : n ≡ length path → (split path).others ≡ []
  pub more : n < length path → (split path).others ≡ (split (drop (n + 1) path)).first ∷ (split (drop (n + 1) path)).others

-- `n` bytes from place `i` on have no dot
abbrev pub DotlessAt : List ℕ → ℕ → ℕ → Type 0
DotlessAt path i n = (k : ℕ) → k < n → get_or path (i + k) 0 ≡ code "." → ⊥

-- a path starts with `n` bytes that have no dot
pub record DotlessStart (path : List ℕ) (n : ℕ) : Type 0 where
  pub within : n ≤ length path
  pub dotless : (k : ℕ) → k < n → get_or path k 0 ≡ code "." → ⊥
