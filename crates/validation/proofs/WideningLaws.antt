-- How a check list fares when the schema under it is widened: a check that passes passes still, and at the first that fails in both the two
-- schemas differ in the detail at most.
use Rattle.std.specs.Prelude.{ℕ, ◌+◌, ◌<◌, ◌≤◌, List, [], ◌∷◌, ◌≡◌, refl}
use Rattle.std.proofs.Common.{arith}
use Rattle.std.proofs.Math.Option.{Option, none, some, IsSome}
use Rattle.definition.specs.Tree.{Text, Schema}
use Rattle.reference.specs.Setting.{Setting}
use Rattle.reference.specs.Walk.{Reached}
use Rattle.reference.specs.Reference.{Environment}
use Rattle.widening.specs.Widening.{Level}
use Rattle.widening.proofs.WalkLaws.{Details, equal, Fares, still_refused, now_unknown, now_known, still_unknown, still_known}
use Rattle.widening.proofs.ReferenceLaws.{GrownSchema, both_unknown, both_known, EnvironmentFares, no_binders, binder, reference-fares, collection-fares}
use Rattle.validation.specs.Check.{Binder, Question, settled, readable, walkable, Check}
use Rattle.validation.specs.Judge.{Failure, CheckOutcome, verdict, unasked, extend, enter, environment, answer, answer_in, outcome, Verdict, all_pass, fails_at, decide, judge_from, judge}
use Rattle.validation.proofs.CheckLaws.{Resolved, Sure}

data OutcomeFares : Level → CheckOutcome → CheckOutcome → Type 0 where
  still_passes : {l : Level} → OutcomeFares l none none
  now_passes : {l : Level} {why : Failure} → OutcomeFares l (some why) none
  still_fails : {l : Level} {why why' : Failure} → Details l why.detail why'.detail → OutcomeFares l (some why) (some why')

verdict-fares : {l : Level} {r r' : Reached} → Fares l r r' → OutcomeFares l (verdict r) (verdict r')
unfolding verdict
verdict-fares (still_refused d) = still_fails d
verdict-fares (now_unknown m) = now_passes
verdict-fares now_known = now_passes
verdict-fares still_unknown = still_passes
verdict-fares (still_known g) = still_passes

-- binders that are resolved stay so
pub data Resolves : Level → Option Environment → Option Environment → Type 0 where
  unresolved : {l : Level} {x' : Option Environment} → Resolves l none x'
  resolved : {l : Level} {env env' : Environment} → EnvironmentFares l env env' → Resolves l (some env) (some env')

extend-fares : {l : Level} {env env' : Environment} {r r' : Reached} (name : Text)
    → EnvironmentFares l env env'
    → Fares l r r'
    → Resolves l (extend name env r) (extend name env' r')
unfolding extend
extend-fares name e (still_refused d) = unresolved
extend-fares name e (now_unknown m) = unresolved
extend-fares name e now_known = unresolved
extend-fares name e still_unknown = resolved (binder both_unknown e)
extend-fares name e (still_known g) = resolved (binder (both_known g) e)

enter-fares : {l : Level} {s s' : Schema} {x x' : Option Environment} (b : Binder)
    → GrownSchema l s s'
    → Resolves l x x'
    → Resolves l (enter s b x) (enter s' b x')
unfolding enter
enter-fares b g unresolved = unresolved
enter-fares b g (resolved e) = extend-fares b.name e (collection-fares b.over g e)

pub environment-fares : {l : Level} {s s' : Schema} (bs : List Binder) → GrownSchema l s s' → Resolves l (environment s bs) (environment s' bs)
unfolding environment
environment-fares [] g = resolved no_binders
environment-fares (b ∷ bs) g = enter-fares b g (environment-fares bs g)

settled-fares : {l : Level} (o : CheckOutcome) → OutcomeFares l o o
settled-fares none = still_passes
settled-fares (some d) = still_fails equal

answer-fares : {l : Level} {s s' : Schema} {env env' : Environment} (setting : Setting) (q : Question)
    → GrownSchema l s s'
    → EnvironmentFares l env env'
    → OutcomeFares l (answer setting s env q) (answer setting s' env' q)
unfolding answer
answer-fares setting (settled o) g e = settled-fares (unasked o)
answer-fares setting (readable t) g e = verdict-fares (reference-fares setting t g e)
answer-fares setting (walkable v) g e = verdict-fares (collection-fares v g e)

answer-in-fares : {l : Level} {s s' : Schema} {x x' : Option Environment} (setting : Setting) (q : Question)
    → GrownSchema l s s'
    → Resolves l x x'
    → IsSome x
    → OutcomeFares l (answer_in setting s q x) (answer_in setting s' q x')
unfolding answer_in
answer-in-fares {l = l} {s = s} setting q g unresolved r = elim r [ ]
answer-in-fares setting q g (resolved e) r = answer-fares setting q g e

outcome-fares : {l : Level} {s s' : Schema} (setting : Setting) (c : Check)
    → GrownSchema l s s'
    → Resolved setting s c.binders
    → OutcomeFares l (outcome setting s c) (outcome setting s' c)
unfolding outcome
outcome-fares setting c g r = answer-in-fares setting c.question g (environment-fares c.binders g) r

-- how many checks passed
unfoldable pub passed_of : Verdict → ℕ
passed_of (all_pass n) = n
passed_of (fails_at n c d) = n

pub data VerdictFares : Level → Verdict → Verdict → Type 0 where
  still_accepted : {l : Level} {n : ℕ} → VerdictFares l (all_pass n) (all_pass n)
  same_defect : {l : Level} {n : ℕ} {c : Check} {why why' : Failure} → Details l why.detail why'.detail → VerdictFares l (fails_at n c why) (fails_at n c why')
  later : {l : Level} {n : ℕ} {c : Check} {why : Failure} {v : Verdict} → n < passed_of v → VerdictFares l (fails_at n c why) v

passed-decide : (o : CheckOutcome) (n : ℕ) (c : Check) (v : Verdict) → n + 1 ≤ passed_of v → n ≤ passed_of (decide o n c v)
unfolding passed_of decide
passed-decide none n c v h = omega arith
passed-decide (some d) n c v h = omega arith

passed-more : (ask : Check → CheckOutcome) (n : ℕ) (cs : List Check) → n ≤ passed_of (judge_from ask n cs)
unfolding judge_from passed_of
passed-more ask n [] = omega arith
passed-more ask n (c ∷ cs) = passed-decide (ask c) n c (judge_from ask (n + 1) cs) (passed-more ask (n + 1) cs)

decide-fares : {l : Level} {o o' : CheckOutcome} {v v' : Verdict} (n : ℕ) (c : Check)
    → OutcomeFares l o o'
    → (o ≡ none → VerdictFares l v v')
    → n + 1 ≤ passed_of v'
    → VerdictFares l (decide o n c v) (decide o' n c v')
unfolding decide
decide-fares n c still_passes h p = h refl
decide-fares {v' = v'} n c now_passes h p = later {n = n} {v = v'} (omega arith)
decide-fares n c (still_fails d) h p = same_defect d

judge-from-fares : {l : Level} {s s' : Schema} (setting : Setting) (n : ℕ) (cs : List Check)
    → GrownSchema l s s'
    → Sure setting s cs
    → VerdictFares l (judge_from (outcome setting s) n cs) (judge_from (outcome setting s') n cs)
unfolding judge_from
judge-from-fares setting n [] g sure = still_accepted
judge-from-fares {s' = s'} setting n (c ∷ cs) g sure =
    decide-fares n c (outcome-fares setting c g sure.0.resolved)
    (λ e. judge-from-fares setting (n + 1) cs g (sure.1 e))
    (passed-more (outcome setting s') (n + 1) cs)

pub judge-fares : {l : Level} {s s' : Schema} (setting : Setting) (cs : List Check)
    → GrownSchema l s s'
    → Sure setting s cs
    → VerdictFares l (judge setting s cs) (judge setting s' cs)
unfolding judge
judge-fares setting cs g sure = judge-from-fares setting 0 cs g sure
