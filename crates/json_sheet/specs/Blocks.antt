-- What blocks of bytes that move in a buffer leave in it.
use Rattle.std.specs.Prelude.{ℕ, ◌+◌, ◌≤◌, List, ◌++◌, ◌≡◌, length}
use Rattle.buffer.specs.Laid.{Laid}

-- whatever was laid last from `from` up to `end` now begins with what lay from `middle` on
pub record Swapped (before after : List ℕ) (from middle end : ℕ) : Type 0 where
  pub len : length after ≡ length before
  pub lies : (start head xs ys : List ℕ) (o : ℕ) → Laid start before o (head ++ (xs ++ ys)) end
      → (o + length (head ++ (xs ++ ys)) ≤ length start → (from ≡ o + length head) × (middle ≡ o + length head + length xs))
      → Laid start after o (head ++ (ys ++ xs)) end
