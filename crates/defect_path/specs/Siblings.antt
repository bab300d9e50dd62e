-- The sibling whose subtree holds a word: those before it are passed by their ends.
use Rattle.std.specs.Prelude.{ℕ, ◌+◌, ◌≤◌, ◌<◌, List, ◌≡◌}
use Rattle.rule.specs.Index.{end_of}

-- from the sibling at `from`, the one with that index, the search comes to the one at `word`, whose index is `k`
pub data Reaches (words : List ℕ) (target : ℕ) : (from index word k : ℕ) → Type 0 where
  here : {from index word k : ℕ}
      → word ≡ from
      → k ≡ index
      → (from < end_of words from → target < end_of words from)
      → Reaches words target from index word k
  past : {from index word k : ℕ}
      → end_of words from ≤ target
      → Reaches words target (end_of words from) (index + 1) word k
      → Reaches words target from index word k
