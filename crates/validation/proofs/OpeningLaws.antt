-- A check that fails, and passes once some marks are open: the mark of the field that refused it is one of them.
use Rattle.std.specs.Prelude.{ℕ, Bool, true, ◌≡◌}
use Rattle.std.proofs.Math.Option.{Option, none, some, IsSome}
use Rattle.text.specs.CaseLaws.{zero-not-one}
use Rattle.definition.specs.Tree.{Schema}
use Rattle.reference.specs.Setting.{Setting}
use Rattle.reference.specs.Walk.{Reached}
use Rattle.reference.specs.Reference.{Environment}
use Rattle.widening.specs.Widening.{only, listed}
use Rattle.widening.proofs.WalkLaws.{Fares, still_refused, now_unknown, still_unknown, still_known}
use Rattle.widening.proofs.ReferenceLaws.{GrownSchema, reference-fares, collection-fares}
use Rattle.validation.specs.Check.{Question, settled, readable, walkable, Check}
use Rattle.validation.specs.Judge.{Failure, CheckOutcome, verdict, unasked, answer, answer_in, outcome}
use Rattle.validation.proofs.CheckLaws.{Resolved}
use Rattle.validation.proofs.WideningLaws.{Resolves, resolved, unresolved, environment-fares}

passes-and-fails : {o : CheckOutcome} (why : Failure) → o ≡ some why → o ≡ none → ⊥
passes-and-fails why e e' = zero-not-one cc

reached-opens : {may : ℕ → Bool} {r r' : Reached} (why : Failure)
    → Fares (only may) r r'
    → verdict r ≡ some why
    → verdict r' ≡ none
    → may why.at ≡ true
unfolding verdict
reached-opens why (still_refused e) h h' = zero-not-one cc
reached-opens why (now_unknown {at = at} (listed m)) h h' = let same : at ≡ why.at = cc in rw (← same) m
reached-opens why still_unknown h h' = zero-not-one cc
reached-opens why (still_known g) h h' = zero-not-one cc

answer-opens : {may : ℕ → Bool} {s s' : Schema} {x x' : Option Environment} (setting : Setting) (q : Question) (why : Failure)
    → GrownSchema (only may) s s'
    → Resolves (only may) x x'
    → IsSome x
    → answer_in setting s q x ≡ some why
    → answer_in setting s' q x' ≡ none
    → may why.at ≡ true
unfolding answer_in answer
answer-opens {may = may} {s = s} setting (settled o) why g unresolved r h h' = elim r [ ]
answer-opens {may = may} {s = s} setting (readable t) why g unresolved r h h' = elim r [ ]
answer-opens {may = may} {s = s} setting (walkable v) why g unresolved r h h' = elim r [ ]
answer-opens setting (settled o) why g (resolved e) r h h' = absurd (passes-and-fails {o = unasked o} why h h')
answer-opens setting (readable t) why g (resolved e) r h h' = reached-opens why (reference-fares setting t g e) h h'
answer-opens setting (walkable v) why g (resolved e) r h h' = reached-opens why (collection-fares v g e) h h'

pub outcome-opens : {may : ℕ → Bool} {s s' : Schema} (setting : Setting) (c : Check) (why : Failure)
    → GrownSchema (only may) s s'
    → Resolved setting s c.binders
    → outcome setting s c ≡ some why
    → outcome setting s' c ≡ none
    → may why.at ≡ true
unfolding outcome
outcome-opens setting c why g r h h' = answer-opens setting c.question why g (environment-fares c.binders g) r h h'
