-- The words of the index, and the search among siblings by their ends.
use Prim.Native.Nat.{ℕ, ◌+◌, ◌≤◌, ◌<◌}
use native.Mathlib.Omega.{arith}
use mathlib.Core.List.{List}
use mathlib.Core.Path.{◌≡◌, refl}
use Rattle.rule.specs.Index.{end_of}
use Rattle.defect_path.specs.Siblings.{Reaches, here, past}

-- a word that is not there is 0
-- the search is at `word`, whose subtree ends before `end`
pub record Passing (words : List ℕ) (target from word index end : ℕ) : Type 0 where
  pub ends : end ≡ end_of words word
  pub low : from ≤ word
  pub high : word ≤ target
  pub counted : index ≤ word
  pub whole : (w k : ℕ) → Reaches words target word index w k → Reaches words target from 0 w k

pub passing-start : (words : List ℕ) (target from end : ℕ) → end ≡ end_of words from → from ≤ target → Passing words target from from 0 end
passing-start words target from end e less =
    record { ends = e; low = omega arith; high = less; counted = omega arith; whole = λ w k r. r }

pub passing-more : {words : List ℕ} {target from word index end : ℕ} (later : ℕ)
    → Passing words target from word index end
    → end ≤ target
    → word < end
    → later ≡ end_of words end
    → Passing words target from end (index + 1) later
passing-more {words} {target} {from} {word} {index} {end} later p le less e =
    record {
      ends = e;
      low = let q = p.low in omega arith;
      high = le;
      counted = let q = p.counted in omega arith;
      whole = λ w k r. p.whole w k (past (rw p.ends at le) (rw p.ends at r));
    }

pub passing-stop : {words : List ℕ} {target from word index end : ℕ}
    → Passing words target from word index end
    → end ≤ word
    → Reaches words target from 0 word index
passing-stop {word} {index} p le = p.whole word index (here refl refl (λ less. let e = p.ends in absurd (omega arith)))

pub passing-end : {words : List ℕ} {target from word index end : ℕ}
    → Passing words target from word index end
    → target < end
    → Reaches words target from 0 word index
passing-end {word} {index} p less = p.whole word index (here refl refl (λ _. rw p.ends at less))
