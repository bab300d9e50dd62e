-- What the readers of white space, words and numbers answer.
use Rattle.std.specs.Prelude.{ℕ, ◌+◌, ◌-◌, ◌<◌, ◌≤◌, Bool, true, false, List, ◌≡◌, length, take, drop}
use Rattle.std.proofs.Math.Option.{some}
use Rattle.text.specs.ReadAt.{ReadsTo, Refuses}
use Rattle.json_text.specs.Grammar.{unspaced, number_run, number_text, spelled}

-- white space ends at `next`
pub record SpacesTo (s : List ℕ) (at next : ℕ) : Type 0 where
  pub skips : unspaced (drop at s) ≡ drop next s
  pub forward : at ≤ next
  pub within : next ≤ length s

-- the bytes of numbers end at `next`
pub record RunTo (s : List ℕ) (at next : ℕ) : Type 0 where
  pub run : ◌≡◌ {A = List ℕ × List ℕ} (number_run (drop at s)) (take (next - at) (drop at s), drop next s)
  pub forward : at ≤ next
  pub within : next ≤ length s

-- a number ends at `next`, or there is none where that is not further on
pub record NumberTo (s : List ℕ) (at next : ℕ) : Type 0 where
  pub read : at < next → ReadsTo number_text s at (take (next - at) (drop at s)) next
  pub other : next ≤ at → Refuses number_text s at

-- whether a word stands there
abbrev pub SpelledAt : List ℕ → List ℕ → ℕ → Bool → Type 0
SpelledAt word s at true = (spelled word (drop at s) ≡ some (tt, drop (at + length word) s)) × (at + length word ≤ length s)
SpelledAt word s at false = Refuses (spelled word) s at
