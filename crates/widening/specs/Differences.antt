-- What is said of the differences between two schemas as they are listed: which a level allows, which is the first breach, and their order.
use Rattle.std.specs.Prelude.{ℕ, ◌≤◌, List, [], ◌∷◌, ◌++◌, ◌≡◌}
use Rattle.widening.specs.Widening.{Level, only, anything}
use Rattle.widening.specs.Decision.{Reason, Difference, growth, breach}

abbrev pub Allowed : Difference → Level → Type 0
Allowed growth (only may) = ⊥
Allowed growth anything = Unit {0}
Allowed (breach why e e') l = ⊥

pub data AllAllowed : List Difference → Level → Type 0 where
  nothing : {l : Level} → AllAllowed [] l
  also : {d : Difference} {ds : List Difference} {l : Level} → Allowed d l → AllAllowed ds l → AllAllowed (d ∷ ds) l

-- all that is listed before it is allowed
pub record FirstBreach (ds : List Difference) (why : Reason) (e e' : ℕ) : Type 0 where
  pub before : List Difference
  pub after : List Difference
  pub listed : ds ≡ before ++ (breach why e e' ∷ after)
  pub none_before : AllAllowed before anything

-- the entries in the first sheet are `n` at least, and never fall
pub data InOrder : ℕ → List Difference → Type 0 where
  end : {n : ℕ} → InOrder n []
  growing : {n : ℕ} {ds : List Difference} → InOrder n ds → InOrder n (growth ∷ ds)
  nowhere : {n e' : ℕ} {why : Reason} {ds : List Difference} → InOrder n ds → InOrder n (breach why 0 e' ∷ ds)
  at : {n e e' : ℕ} {why : Reason} {ds : List Difference} → n ≤ e → InOrder e ds → InOrder n (breach why e e' ∷ ds)
