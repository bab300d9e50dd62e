-- How two texts compare, by what their comparison answers.
use Rattle.std.specs.Prelude.{ℕ, ◌+◌, ◌≤◌, ◌<◌, Bool, true, false, List, ◌≡◌, length, get_or}
use Rattle.text.specs.Order.{precedes, same_bytes}
use Rattle.std.specs.declared.cmp.Ordering.TheVariants.{Equal, Greater, Less}
use Rattle.std.specs.declared.cmp.Ordering.{Ordering}

-- whether the first comes before the second, is the same, comes after it
pub record Stand (a b : List ℕ) (before same behind : Bool) : Type 0 where
  pub before-is : precedes a b ≡ before
  pub same-is : same_bytes a b ≡ same
  pub behind-is : precedes b a ≡ behind

abbrev pub Compares : List ℕ → List ℕ → Ordering → Type 0
Compares a b Less = Stand a b true false false
Compares a b Equal = Stand a b false true false
Compares a b Greater = Stand a b false false true

-- the same `n` bytes are from place `i` on
abbrev pub SameAt : List ℕ → List ℕ → ℕ → ℕ → Type 0
SameAt a b i n = (k : ℕ) → k < n → get_or a (i + k) 0 ≡ get_or b (i + k) 0

-- both texts start with the same `n` bytes
pub record SameStart (a b : List ℕ) (n : ℕ) : Type 0 where
  pub in-first : n ≤ length a
  pub in-second : n ≤ length b
  pub same : (k : ℕ) → k < n → get_or a k 0 ≡ get_or b k 0
