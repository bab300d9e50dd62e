-- Of the check at which a verdict fails: its binders are those around its place and walk collections, and its message is a sentence of its detail.
use Rattle.std.specs.Prelude.{ℕ, ◌+◌, ◌≤◌, ◌≡◌}
use mathlib.Core.List.{List, [], ◌∷◌}
use Rattle.std.proofs.Math.Option.{Option, none, some, IsSome}
use Rattle.std.proofs.Math.Path.{refl}
use Rattle.std.proofs.Common.{subst}
use Rattle.text.specs.CaseLaws.{zero-not-one}
use Rattle.definition.specs.Tree.{Schema, Rule}
use Rattle.definition.specs.Within.{RuleFrom}
use Rattle.reference.specs.Setting.{kernel, Setting}
use Rattle.reference.specs.Reference.{Environment}
use Rattle.validation.specs.Check.{Check, checks}
use Rattle.validation.specs.Judge.{Failure, CheckOutcome, environment, outcome, Verdict, all_pass, fails_at, decide, judge_from, judge}
use Rattle.validation.proofs.CheckLaws.{Every, Resolved, Sure, sure-checks}
use Rattle.message.specs.Standing.{standing_at}
use Rattle.message.proofs.StandingLaws.{BindersStand, checks-stand}
use Rattle.message.specs.Message.{message_of}
use Rattle.message.proofs.MessageLaws.{Agrees, message-agrees}

module _ (setting : Setting) (t : Schema) (P : Check → Type 0) where
  pub record Failing (c : Check) (why : Failure) : Type 0 where
    pub holds : P c
    pub fails : outcome setting t c ≡ some why
    pub resolved : Resolved setting t c.binders

  -- what a verdict says of the check at which it fails
  abbrev pub FailsSo : Verdict → Type 0
  FailsSo (all_pass n) = Unit {0}
  FailsSo (fails_at n c why) = Failing c why

  decide-fails : (o : CheckOutcome) (n : ℕ) (c : Check) (v : Verdict)
      → outcome setting t c ≡ o
      → P c
      → Resolved setting t c.binders
      → (o ≡ none → FailsSo v)
      → FailsSo (decide o n c v)
  unfolding decide
  decide-fails none n c v e p r more = more refl
  decide-fails (some why) n c v e p r more = record { holds = p; fails = e; resolved = r }

  judge-fails : (n : ℕ) (cs : List Check) → Every P cs → Sure setting t cs → FailsSo (judge_from (outcome setting t) n cs)
  unfolding judge_from
  judge-fails n [] h sure = tt
  judge-fails n (c ∷ cs) h sure =
      decide-fails (outcome setting t c) n c (judge_from (outcome setting t) (n + 1) cs) refl h.0 sure.0.resolved
      (λ e. judge-fails (n + 1) cs h.1 (sure.1 e))

holds_of : (setting : Setting) (t : Schema) (P : Check → Type 0) (v : Verdict) (passed : ℕ) (c : Check) (why : Failure) → FailsSo setting t P v → v ≡ fails_at passed c why → P c
holds_of setting t P (all_pass n) passed c why f e = zero-not-one cc
holds_of setting t P (fails_at n c₀ why₀) passed c why f e = let same : c₀ ≡ c = cc in subst P same f.holds

-- what holds of every check holds of the one at which a verdict fails
pub defect-holds : (setting : Setting) (t : Schema) (P : Check → Type 0) (r : Rule) (passed : ℕ) (c : Check) (why : Failure)
    → Every P (checks setting r)
    → judge setting t (checks setting r) ≡ fails_at passed c why
    → P c
unfolding judge
defect-holds setting t P r passed c why h e =
    holds_of setting t P (judge_from (outcome setting t) 0 (checks setting r)) passed c why (judge-fails setting t P 0 (checks setting r) h (sure-checks setting t r)) e

-- the defect's message agrees with its detail, and its binders are found from its place
pub record Explained (kind : ℕ) (setting : Setting) (t : Schema) (r : Rule) (passed : ℕ) (c : Check) (why : Failure) : Type 0 where
  pub env : Environment
  pub around : environment t c.binders ≡ some env
  pub place : BindersStand setting r c
  pub agrees : Agrees kind c.question why.detail (message_of kind setting t r (fails_at passed c why))

env-of : (kind : ℕ) (setting : Setting) (t : Schema) (r : Rule) (passed : ℕ) (c : Check) (why : Failure) (x : Option Environment)
    → setting.reader ≡ kernel
    → environment t c.binders ≡ x
    → IsSome x
    → Failing setting t (BindersStand setting r) c why
    → Explained kind setting t r passed c why
env-of kind setting t r passed c why none k e is f = elim is [ ]
env-of kind setting t r passed c why (some env) k e is f =
    record { env = env; around = e; place = f.holds; agrees = message-agrees kind setting t r c why env k e f.fails passed }

explained-of : (kind : ℕ) (setting : Setting) (t : Schema) (r : Rule) (v : Verdict)
    → setting.reader ≡ kernel
    → FailsSo setting t (BindersStand setting r) v
    → (passed : ℕ) (c : Check) (why : Failure)
    → v ≡ fails_at passed c why
    → Explained kind setting t r passed c why
explained-of kind setting t r (all_pass n) k f passed c why e = zero-not-one cc
explained-of kind setting t r (fails_at n c₀ why₀) k f passed c why e =
    let n-same : n ≡ passed = cc in
    let c-same : c₀ ≡ c = cc in
    let why-same : why₀ ≡ why = cc in
    rw (← n-same, ← c-same, ← why-same) (env-of kind setting t r n c₀ why₀ (environment t c₀.binders) k refl f.resolved f)

pub defect-explained : (kind : ℕ) (setting : Setting) (t : Schema) (r : Rule) (passed : ℕ) (c : Check) (why : Failure)
    → setting.reader ≡ kernel
    → RuleFrom 1 r
    → judge setting t (checks setting r) ≡ fails_at passed c why
    → Explained kind setting t r passed c why
unfolding judge
defect-explained kind setting t r passed c why k from e =
    explained-of kind setting t r (judge_from (outcome setting t) 0 (checks setting r)) k
    (judge-fails setting t (BindersStand setting r) 0 (checks setting r) (checks-stand setting r from) (sure-checks setting t r))
    passed c why e
