-- Two schemas that differ in entry numbers alone give one answer.
use Rattle.std.specs.Prelude.{ℕ, ◌+◌, true, false}
use Rattle.std.proofs.Common.{arith}
use Rattle.std.proofs.lemmas.Bool.{false≢true}
use mathlib.Core.List.{List, [], ◌∷◌}
use Rattle.std.proofs.Math.Option.{Option, none, some, IsSome}
use Rattle.std.proofs.Math.Path.{◌≡◌, refl}
use Rattle.definition.specs.Tree.{Text, Schema, Rule}
use Rattle.reference.specs.Setting.{Setting}
use Rattle.reference.specs.Walk.{Reached}
use Rattle.reference.specs.Reference.{Environment}
use Rattle.widening.specs.Widening.{Level, only, listed}
use Rattle.widening.proofs.WalkLaws.{Fares, still_refused, equal, now_unknown, still_unknown, still_known}
use Rattle.widening.proofs.ReferenceLaws.{GrownSchema, reference-fares, collection-fares}
use Rattle.validation.specs.Check.{Question, settled, readable, walkable, Check, checks}
use Rattle.validation.specs.Judge.{CheckOutcome, verdict, answer, answer_in, outcome, Verdict, decide, judge_from, judge}
use Rattle.validation.specs.Result.{answer_of, checked}
use Rattle.validation.proofs.CheckLaws.{Sure, sure-checks}
use Rattle.validation.proofs.WideningLaws.{Resolves, resolved, unresolved, environment-fares}

-- no mark may open, so that only entry numbers differ
abbrev pub numbers_only : Level
numbers_only = only (λ e. false)

-- what an answer takes of a check that fails
unfoldable detail_in : CheckOutcome → Option ℕ
detail_in none = none
detail_in (some why) = some why.detail

same-reached : {r r' : Reached} → Fares numbers_only r r' → detail_in (verdict r) ≡ detail_in (verdict r')
unfolding verdict detail_in
same-reached (still_refused equal) = refl
same-reached (now_unknown (listed m)) = absurd (false≢true m)
same-reached still_unknown = refl
same-reached (still_known g) = refl

same_answer : {s s' : Schema} {x x' : Option Environment} (setting : Setting) (q : Question)
    → GrownSchema numbers_only s s'
    → Resolves numbers_only x x'
    → IsSome x
    → detail_in (answer_in setting s q x) ≡ detail_in (answer_in setting s' q x')
unfolding answer_in answer
same_answer {s = s} setting (settled o) g unresolved r = elim r [ ]
same_answer {s = s} setting (readable t) g unresolved r = elim r [ ]
same_answer {s = s} setting (walkable v) g unresolved r = elim r [ ]
same_answer setting (settled o) g (resolved e) r = refl
same_answer setting (readable t) g (resolved e) r = same-reached (reference-fares setting t g e)
same_answer setting (walkable v) g (resolved e) r = same-reached (collection-fares v g e)

module _ (setting : Setting) (label : Text) (r : Rule) where
  same-decided : (o o' : CheckOutcome) (n : ℕ) (c : Check) (v v' : Verdict)
      → detail_in o ≡ detail_in o'
      → (o ≡ none → answer_of setting label r v ≡ answer_of setting label r v')
      → answer_of setting label r (decide o n c v) ≡ answer_of setting label r (decide o' n c v')
  unfolding decide detail_in answer_of
  same-decided none none n c v v' e h = h refl
  same-decided none (some why) n c v v' e h = let z : ◌≡◌ {A = ℕ} 0 1 = cc in absurd (omega arith)
  same-decided (some why) none n c v v' e h = let z : ◌≡◌ {A = ℕ} 0 1 = cc in absurd (omega arith)
  same-decided (some why) (some why') n c v v' e h = let d : why.detail ≡ why'.detail = cc in rw d

  same-judged : {s s' : Schema} (n : ℕ) (cs : List Check)
      → GrownSchema numbers_only s s'
      → Sure setting s cs
      → answer_of setting label r (judge_from (outcome setting s) n cs) ≡ answer_of setting label r (judge_from (outcome setting s') n cs)
  unfolding judge_from outcome
  same-judged n [] g sure = refl
  same-judged {s = s} {s' = s'} n (c ∷ cs) g sure =
      same-decided (outcome setting s c) (outcome setting s' c) n c _ _
      (same_answer setting c.question g (environment-fares c.binders g) sure.0.resolved)
      (λ e. same-judged (n + 1) cs g (sure.1 e))

  pub renumbered-same : {s s' : Schema} → GrownSchema numbers_only s s' → checked setting label s r ≡ checked setting label s' r
  unfolding checked judge
  renumbered-same {s = s} g = same-judged 0 (checks setting r) g (sure-checks setting s r)
