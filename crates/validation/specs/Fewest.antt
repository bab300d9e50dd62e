-- What is promised of the fewest marks to open (docs/FORMAT.md, "The fewest marks to open").
use Rattle.std.specs.Prelude.{ℕ, Bool, true, List, ◌↔◌, ◌≡◌}
use Rattle.std.proofs.Math.Option.{some}
use Rattle.definition.specs.Tree.{Schema, Rule}
use Rattle.reference.specs.Setting.{Setting}
use Rattle.widening.specs.Opening.{is_in, opened, is_closed}
use Rattle.validation.specs.Check.{checks}
use Rattle.validation.specs.Judge.{Verdict, all_pass, fails_at, judge}
use Rattle.validation.specs.Marked.{Rises}
use Rattle.validation.specs.Openings.{fewest_marks}

-- all checks of a list passed
abbrev pub Passes : Verdict → Type 0
Passes (all_pass n) = Unit {0}
Passes (fails_at n c why) = ⊥

-- the rule or template is accepted with those marks open
abbrev pub Accepts : Setting → Schema → Rule → (may : ℕ → Bool) → Type 0
Accepts setting t r may = Passes (judge setting (opened may t) (checks setting r))

-- the set of open marks that must go from 0 to 1 for acceptance
pub record IsFewest (setting : Setting) (t : Schema) (r : Rule) (set : List ℕ) : Type 0 where
  -- it gives acceptance
  pub accepts : Accepts setting t r (is_in set)
  -- every other set that does contains it
  pub least : (may : ℕ → Bool) → Accepts setting t r may → (e : ℕ) → is_in set e ≡ true → may e ≡ true
  -- its marks are 0
  pub closed : (e : ℕ) → is_in set e ≡ true → is_closed t e ≡ true
  -- a rising list of entries
  pub rises : Rises 0 set

pub record Returned (setting : Setting) (t : Schema) (r : Rule) : Type 0 where
  -- a set is returned exactly when some set of openings gives acceptance
  pub exactly : ((set : List ℕ) × (fewest_marks setting t r ≡ some set)) ↔ ((may : ℕ → Bool) × Accepts setting t r may)
  -- and every other set that does contains it; no other list is such a set
  pub least : (set : List ℕ) → (fewest_marks setting t r ≡ some set) ↔ IsFewest setting t r set
