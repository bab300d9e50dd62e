-- The fewest marks to open (docs/FORMAT.md, "The fewest marks to open"): those open marks that must go from 0 to 1 for acceptance.
use Rattle.std.specs.Prelude.{ℕ, zero, suc, ◌+◌, Bool, not, cond, ◌&&◌, List, [], ◌∷◌, ◌++◌, leb}
use Rattle.std.proofs.Math.Option.{Option, none, some, map}
use Rattle.definition.specs.Tree.{Schema, Rule}
use Rattle.definition.specs.Limits.{max_schema_entries}
use Rattle.reference.specs.Setting.{Setting}
use Rattle.widening.specs.Opening.{is_in, opened}
use Rattle.validation.specs.Check.{Check, checks}
use Rattle.validation.specs.Judge.{Verdict, all_pass, fails_at, judge}

module _ (setting : Setting) (t : Schema) (cs : List Check) where
  -- the check list's verdict with those marks open
  unfoldable pub judged_open : List ℕ → Verdict
  judged_open marks = judge setting (opened (is_in marks) t) cs

  -- one mark more in each round, that of the field which refuses; where it is open already, no marks help
  unfoldable pub after_round : (more : List ℕ → Option (List ℕ)) → List ℕ → Verdict → Option (List ℕ)
  after_round more marks (all_pass n) = some marks
  after_round more marks (fails_at n c why) =
      let found = more (why.at ∷ marks) in cond (leb why.at max_schema_entries && not (is_in marks why.at)) found none

  unfoldable pub rounds : (fuel : ℕ) → List ℕ → Option (List ℕ)
  rounds zero marks = none
  rounds (suc k) marks = after_round (λ more. rounds k more) marks (judged_open marks)

-- the numbers below n that pass, rising
unfoldable pub rising_to : ℕ → (ℕ → Bool) → List ℕ
rising_to zero p = []
rising_to (suc n) p = rising_to n p ++ cond (p n) (n ∷ []) []

-- how many marks a schema can have: of entries 1 to 1,024, and of the arguments
abbrev pub max_marks : ℕ
max_marks = 1025

-- each round opens one more, and the last finds that no more is needed, or of no use
unfoldable pub fewest_marks : Setting → Schema → Rule → Option (List ℕ)
fewest_marks setting t r = map (λ found. rising_to max_marks (is_in found)) (rounds setting t (checks setting r) (max_marks + 1) [])
