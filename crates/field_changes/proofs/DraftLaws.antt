-- After each step the answers are those of a check from the beginning, whatever the steps before it were.
use Rattle.std.specs.Prelude.{Bool, true, false, cond, List, [], ◌∷◌, ◌≡◌, refl}
use Rattle.definition.specs.Tree.{Schema}
use Rattle.widening.specs.Distinct.{DistinctSchema}
use Rattle.validation.specs.Result.{Answer}
use Rattle.field_changes.specs.Mention.{mentions}
use Rattle.field_changes.proofs.ChangeLaws.{same-added, same-removed}
use Rattle.field_changes.specs.Draft.{OpenRule, Change, adding, removing, name_of, changed, answer_to, started, stepped, schema_after, answers_after}

-- no sibling name occurs twice in any schema on the way; the trees of well formed sheets are such (`schema-distinct`)
abbrev pub AllDistinct : List Change → Schema → Type 0
AllDistinct [] t = Unit {0}
AllDistinct (c ∷ cs) t = DistinctSchema (changed c t) × AllDistinct cs (changed c t)

pub same-without : (c : Change) (t : Schema) (o : OpenRule)
    → DistinctSchema (changed c t)
    → mentions (name_of c) o.rule ≡ false
    → answer_to t o ≡ answer_to (changed c t) o
unfolding changed name_of answer_to
same-without (adding name f) t o d h = same-added o.setting o.label o.rule name t f d h
same-without (removing name) t o d h = same-removed o.setting o.label o.rule name t d h

step-if : (b : Bool) (new a : Answer) → (b ≡ false → a ≡ new) → cond b new a ≡ new
step-if true new a h = refl
step-if false new a h = h refl

pub step-started : (c : Change) (t : Schema) (rules : List OpenRule)
    → DistinctSchema (changed c t)
    → stepped (name_of c) (changed c t) rules (started t rules) ≡ started (changed c t) rules
unfolding stepped started
step-started c t [] d = refl
step-started c t (o ∷ rules) d =
    rw (step-if (mentions (name_of c) o.rule) (answer_to (changed c t) o) (answer_to t o) (λ h. same-without c t o d h), step-started c t rules d)

-- any sequence of steps, by induction
pub steps-started : (cs : List Change) (t : Schema) (rules : List OpenRule)
    → AllDistinct cs t
    → answers_after cs t rules (started t rules) ≡ started (schema_after cs t) rules
unfolding answers_after schema_after
steps-started [] t rules d = refl
steps-started (c ∷ cs) t rules d = rw (step-started c t rules d.0) (steps-started cs (changed c t) rules d.1)
