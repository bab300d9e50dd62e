-- A quantifier, step by step.
use Rattle.std.specs.Prelude.{Option as Optional, Some, None, Result, Ok, Err}
use Prim.Native.Nat.{ℕ, suc, ◌+◌, ◌*◌, ◌-◌, ◌≤◌, ◌<◌}
use Prim.Native.Char.{code}
use native.Mathlib.Omega.{arith}
use mathlib.Core.Bool.{Bool, true, false, ◌||◌}
use mathlib.Core.List.{List, [], ◌∷◌, ◌++◌, append-nil}
use mathlib.Core.Option.{Option, none, some}
use mathlib.Core.Path.{◌≡◌, refl, sym, ap, ◌∙◌}
use lib.Dec.{leb}
use borrow.Author.Tests.{ne_eqb, leb-true, leb-false}
use Rattle.text.specs.Blank.{is_blank}
use Rattle.text.specs.Parts.{part_of}
use Rattle.text.specs.declared.part.Part.{Part}
use Rattle.text.specs.CaseLaws.{zero-not-one}
use Rattle.definition.specs.Tree.{Text, Field, Schema, Value, constant, number, string, array, object, Condition, no_conditions, condition}
use Rattle.reference.specs.Setting.{Setting}
use Rattle.reference.specs.Walk.{Reached, refused, unknown, known}
use Rattle.reference.specs.Reference.{Environment, reference, collection_text, collection, begins_with_dollar}
use Rattle.reference.proofs.CollectionLaws.{Reads, Listed, Explained, text-explained}
use Rattle.definition.specs.Within.{condition_entries, conditions_entries, value_entries}
use Rattle.rule.specs.Index.{end_of, ValueAt, ConditionAt}
use Rattle.rule.specs.IndexLaws.{value-next}
use Rattle.walk.specs.Answers.{collection_detail, CollectedIs}
use Rattle.walk.specs.declared.answer.CollectionFault.{CollectionFault}
use Rattle.validation.specs.Check.{Binder, walkable, readable, Check, check, fails_if, reference_text, reference_check, references, has_dot, body, bodies, depth, depth_of_conditions}
use Rattle.validation.specs.Judge.{Failure, failure, CheckOutcome, outcome, verdict, extend, enter, environment, answer, answer_in, decide, judge_from}
use Rattle.validation.specs.Result.{over_of}
use Rattle.value_checks.specs.Shown.{Shown, passes, fails, shown_of, go_on}
use Rattle.rule.specs.Nodes.{Behind}
use Rattle.value_checks.specs.Verdicts.{number_of, failure_of, over_by, shown_with, shown_by, failed, GoesOn, PassedOn, Failed, Required}
use Rattle.scope.specs.Scopes.{BoundElement, Binds}
use Rattle.scope.specs.ScopeLaws.{scope-bound}
use Rattle.value_checks.specs.Frames.{Frame, frame, Stands, OperandsJudged}
use Rattle.condition_checks.specs.Bodies.{CollectionOf, BodiesJudged, QuantifierJudged}
use Rattle.scope.specs.declared.binder.Scope.{Scope}
use Rattle.value_checks.specs.declared.verdict.Fault.{Fault}
use Rattle.value_checks.specs.declared.verdict.Fault.TheVariants.{Bind, Collection}
use Rattle.value_checks.specs.declared.verdict.Progress.{Progress}
use Rattle.value_checks.proofs.Going.{goes_then, goes-stopped}
use Rattle.rule.proofs.NodeSteps.{value-size}
use Rattle.value_checks.proofs.LiteralSteps.{settled-outcome}
use Rattle.value_checks.proofs.ReferenceSteps.{readable-outcome}
use Rattle.condition_checks.proofs.OperandLaws.{value-references}
use Rattle.value_checks.proofs.OperandSteps.{value-entry}
use Rattle.condition_checks.proofs.BodySteps.{depth-some}

walkable-outcome : (setting : Setting) (tree : Schema) (binders : List Binder) (env : Environment) (n p : ℕ) (v : Value)
    → environment tree binders ≡ some env
    → outcome setting tree (check n p binders (walkable v)) ≡ verdict (collection tree env v)
unfolding outcome answer_in answer check
walkable-outcome setting tree binders env n p v e = rw e

-- A collection that is refused with a further detail is one whose reference cannot be read.

record Unread (setting : Setting) (tree : Schema) (env : Environment) (v : Value) : Type 0 where
  pub entry : ℕ
  pub text : Text
  pub behind : Text
  pub why : Failure
  pub is_text : v ≡ string entry text
  pub is_reference : reference_text text ≡ some behind
  pub refuses : verdict (reference setting tree env behind) ≡ some why

dollar-reference : (t : Text) (b : ℕ) (u : Text) → t ≡ code "$" ∷ b ∷ u → (b ≡ code "$" → ⊥) → reference_text t ≡ some (b ∷ u)
unfolding reference_text begins_with_dollar
dollar-reference t b u e h = rw (e, ne_eqb b 36 h)

explained-few : (x : Reached) (d at : ℕ) (left : List Text) → x ≡ refused d at left → Explained x → d ≤ 5
explained-few x d at left e h = let q : Listed d = rw e at h in q.high

module _ (setting : Setting) (tree : Schema) (env : Environment) where
  reads_of : (x : Reached) → verdict x ≡ none → Reads x
  unfolding verdict
  reads_of (refused d at left) h = zero-not-one cc
  reads_of unknown h = tt
  reads_of (known f) h = tt

  text-unread : (e : ℕ) (t : Text) (o : Option Text) → reference_text t ≡ o → (y : CheckOutcome)
      → ((u : Text) → o ≡ some u → verdict (reference setting tree env u) ≡ y)
      → (d at : ℕ) (left : List Text)
      → collection_text tree env t ≡ refused d at left
      → 5 < d
      → Unread setting tree env (string e t)
  text-unread e t none r y q d at left c m =
      let x : Explained (collection_text tree env t) =
      text-explained setting tree env t
      (λ b u s h. let p : reference_text t ≡ some (b ∷ u) = dollar-reference t b u s h in zero-not-one cc) in
      absurd (omega (arith, explained-few (collection_text tree env t) d at left c x))
  text-unread e t (some u) r (some why) q d at left c m =
      record { entry = e; text = t; behind = u; why = why; is_text = refl; is_reference = r; refuses = q u refl }
  text-unread e t (some u) r none q d at left c m =
      let x : Explained (collection_text tree env t) =
      text-explained setting tree env t
      (λ b w s h.
      let p : reference_text t ≡ some (b ∷ w) = dollar-reference t b w s h in
      let k : some u ≡ some (b ∷ w) = sym r ∙ p in
      reads_of (reference setting tree env (b ∷ w)) (q (b ∷ w) k)) in
      absurd (omega (arith, explained-few (collection_text tree env t) d at left c x))

  other-few : (d at : ℕ) (left : List Text) → refused 1 0 [] ≡ refused d at left → 5 < d → ⊥
  other-few d at left e m = let k : ◌≡◌ {A = ℕ} 1 d = cc in omega arith

  unread : (v : Value) (d at : ℕ) (left : List Text) → collection tree env v ≡ refused d at left → 5 < d → Unread setting tree env v
  unfolding collection
  unread (constant e type) d at left c m = absurd (other-few d at left c m)
  unread (number e digits) d at left c m = absurd (other-few d at left c m)
  unread (string e t) d at left c m =
      text-unread e t (reference_text t) refl (of (reference_text t)) (λ u k. rw k) d at left c m
    where
      of : Option Text → CheckOutcome
      of none = none
      of (some u) = verdict (reference setting tree env u)
  unread (array e values) d at left c m = absurd (other-few d at left c m)
  unread (object e pairs) d at left c m = absurd (other-few d at left c m)

-- what a first check that fails shows
record Shows (s : Shown) : Type 0 where
  pub n : ℕ
  pub number : ℕ
  pub place : ℕ
  pub over : Option ℕ
  pub why : Failure
  pub shown : s ≡ fails n number place over why

one-fails : (ask : Check → CheckOutcome) (c : Check) (why : Failure) → ask c ≡ some why → (s : Shown) → Shows (go_on s (λ n. shown_of (judge_from ask n (c ∷ []))))
unfolding go_on judge_from decide shown_of
one-fails ask c why e (passes n) =
    record { n = n; number = c.number; place = c.place; over = over_of c.binders; why = why; shown = rw e }
one-fails ask c why e (fails n m place over first) =
    record { n = n; number = m; place = place; over = over; why = first; shown = refl }

unread-shows : (f : Frame) (setting : Setting) (tree : Schema) (binders : List Binder) (env : Environment) (v : Value) {b d : Progress}
    → Stands f setting tree binders env
    → Unread setting tree env v
    → GoesOn (outcome setting tree) b (references binders v) d
    → Shows (shown_by d)
unfolding references reference_check
unread-shows f setting tree binders env v {b} {d} s n g =
    let e : references binders v ≡ check 18 n.entry binders (readable n.behind) ∷ [] = rw (n.is_text, n.is_reference) in
    let h : GoesOn (outcome setting tree) b (check 18 n.entry binders (readable n.behind) ∷ []) d = rw e at g in
    rw h.shows
    (one-fails (outcome setting tree) _ n.why
    (readable-outcome setting tree binders env 18 n.entry n.behind s.bound ∙ n.refuses)
    (shown_by b))

none-fails : (d : Progress) → d.verdict ≡ (Ok tt) → Shows (shown_by d) → ⊥
unfolding shown_by shown_with
none-fails d e s =
    let p : passes d.passed ≡ fails s.n s.number s.place s.over s.why = rw e at s.shown in
    zero-not-one cc

known-extends : (name : Text) (env : Environment) (x : Reached) (f : Field) → x ≡ known f → extend name env x ≡ some (record { name = name; element = some f } ∷ env)
unfolding extend
known-extends name env x f e = rw e

known-passes : (x : Reached) (f : Field) → x ≡ known f → verdict x ≡ none
unfolding verdict
known-passes x f e = rw e

pub quantifier-misnamed : {schema rule words : List ℕ} {scope : Scope} {over : Optional ℕ} (name : Part) {i end left : ℕ} {wrong : Bool} {text : Text} {a r : Progress}
    → text ≡ part_of rule name
    → wrong ≡ (is_blank text || has_dot text)
    → wrong ≡ true
    → Failed a Bind (i + 1) over r
    → QuantifierJudged (frame schema rule words scope over) (part_of rule name) i end left a r
unfolding number_of failure_of check failed
quantifier-misnamed {rule = rule} name {i} {wrong = wrong} same said t p =
    let q : wrong ≡ (is_blank (part_of rule name) || has_dot (part_of rule name)) = rw same at said in
    record {
      at_most = omega (arith, p.same);
      goes =
          λ setting tree binders env v that s w u ends deep room.
          p.goes (outcome setting tree) _ _ (record { numbered = refl; placed = refl; held = s.held })
          (settled-outcome setting tree binders env 21 (i + 1) (is_blank (part_of rule name) || has_dot (part_of rule name)) 0 s.bound
          ∙ ap (λ (x : Bool). failed x (failure 0 0)) (sym q ∙ t));
    }

module _ (schema rule words : List ℕ) (scope : Scope) (over : Optional ℕ) (name : Part) (i end left : ℕ) {wrong : Bool} {text : Text} {middle : ℕ} {a b d : Progress} (inside : i < end) (k : Behind words (i + 1) end middle) (same : text ≡ part_of rule name) (said : wrong ≡ (is_blank text || has_dot text)) (bound : Required a wrong Bind (i + 1) over b) (refs : OperandsJudged (frame schema rule words scope over) 5 (i + 1) middle b d) where
  module _ (setting : Setting) (tree : Schema) (binders : List Binder) (env : Environment) (v : Value) (that : Condition) (s : Stands (frame schema rule words scope over) setting tree binders env) (w : ValueAt rule words (i + 1) v) (ends : end ≡ i + 1 + value_entries v + condition_entries that) where
    middle-is : middle ≡ i + 1 + value_entries v
    middle-is =
        let n : end_of words (i + 1) ≡ i + 1 + value_entries v = value-next rule words (i + 1) v w in
        let p : 1 ≤ value_entries v = value-size v in
        k.exact (omega arith) (omega arith) ∙ n

    bind_goes : GoesOn (outcome setting tree) a (check 21 (i + 1) binders (fails_if (is_blank (part_of rule name) || has_dot (part_of rule name)) 0) ∷ []) b
    unfolding number_of failure_of check
    bind_goes =
        let q : wrong ≡ (is_blank (part_of rule name) || has_dot (part_of rule name)) = rw same at said in
        bound.goes (outcome setting tree) _ (record { numbered = refl; placed = refl; held = s.held })
        (settled-outcome setting tree binders env 21 (i + 1) (is_blank (part_of rule name) || has_dot (part_of rule name)) 0 s.bound
        ∙ ap (λ (x : Bool). failed x (failure 0 0)) (sym q))

    over-goes : GoesOn (outcome setting tree) b (references binders v) d
    over-goes = value-references refs setting tree binders env v s (record { stands = w; ends = middle-is })

  pub quantifier-stopped : {fault : Fault} {place : ℕ} {o : Optional ℕ} → d.verdict ≡ Err (fault, place, o) → QuantifierJudged (frame schema rule words scope over) (part_of rule name) i end left a d
  quantifier-stopped t =
      record {
        at_most = omega (arith, bound.at_most, refs.at_most, k.most, k.least (omega arith));
        goes =
            λ setting tree binders env v that s w u ends deep room.
            goes_then (bind_goes setting tree binders env v that s w ends)
            (goes_then (over-goes setting tree binders env v that s w ends) (goes-stopped t));
      }

  -- the body, where the value is walked
  module _ {element : Optional ℕ} {inner : Scope} {g r : Progress} (binds : Binds scope name element inner) (goes_on : PassedOn d g) (judged : BodiesJudged (frame schema rule words inner (Some (i + 1 + 1))) middle end left g r) where
    walked : (setting : Setting) (tree : Schema) (binders : List Binder) (env : Environment) (v : Value) (that : Condition) (o : Option Field)
        → Stands (frame schema rule words scope over) setting tree binders env
        → ValueAt rule words (i + 1) v
        → ConditionAt rule words (i + 1 + value_entries v) that
        → end ≡ i + 1 + value_entries v + condition_entries that
        → depth that ≤ left
        → scope.count + suc left ≤ 32
        → BoundElement schema words element o
        → extend (part_of rule name) env (collection tree env v) ≡ some (record { name = part_of rule name; element = o } ∷ env)
        → verdict (collection tree env v) ≡ none
        → GoesOn (outcome setting tree) a
        (check 21 (i + 1) binders (fails_if (is_blank (part_of rule name) || has_dot (part_of rule name)) 0)
        ∷ (references binders v
        ++ (check 22 (i + 1) binders (walkable v)
        ∷ body setting (record { name = part_of rule name; over = v } ∷ binders) that)))
        r
    unfolding environment enter over_of over_by bodies depth_of_conditions conditions_entries
    walked setting tree binders env v that o s w u ends deep room element-is entered walks =
        let few : scope.count < 31 = omega (arith, depth-some that) in
        let m : middle ≡ i + 1 + value_entries v = middle-is setting tree binders env v that s w ends in
        let stands : Stands (frame schema rule words inner (Some (i + 1 + 1))) setting tree (record { name = part_of rule name; over = v } ∷ binders) (record { name = part_of rule name; element = o } ∷ env) =
        record {
          scoped = scope-bound schema rule words scope name element inner o setting tree env binds few element-is s.scoped;
          bound = rw s.bound entered;
          held = ap some (value-entry rule words (i + 1) v w);
        } in
        let q =
        judged.goes setting tree (record { name = part_of rule name; over = v } ∷ binders) (record { name = part_of rule name; element = o } ∷ env)
        (condition that no_conditions) stands
        (record { stand = (rw m u, tt); ends = omega arith })
        (omega arith) (omega (arith, binds.counted few)) in
        goes_then (bind_goes setting tree binders env v that s w ends)
        (goes_then (over-goes setting tree binders env v that s w ends)
        (goes_then
        (goes_on.goes (outcome setting tree) _
        (walkable-outcome setting tree binders env 22 (i + 1) v s.bound ∙ walks))
        (rw append-nil at q)))

    most : r.passed ≤ a.passed + 2 + 8 * (end - (i + 1))
    most = omega (arith, bound.at_most, refs.at_most, goes_on.at_most, judged.at_most, k.most, k.least (omega arith))

  quantifier-known : {slot : ℕ} {x : Result (Optional ℕ) (CollectionFault × ℕ)} {inner : Scope} {g r : Progress}
      → CollectionOf schema rule words scope (i + 1) x
      → x ≡ Ok (Some slot)
      → Binds scope name (Some slot) inner
      → PassedOn d g
      → BodiesJudged (frame schema rule words inner (Some (i + 1 + 1))) middle end left g r
      → QuantifierJudged (frame schema rule words scope over) (part_of rule name) i end left a r
  unfolding extend verdict
  quantifier-known {slot} {x} collects y binds goes_on judged =
      record {
        at_most = most binds goes_on judged;
        goes =
            λ setting tree binders env v that s w u ends deep room.
            let q : CollectedIs schema words (Ok (Some slot)) (collection tree env v) = rw y at (collects.leads setting tree env v s.scoped w) in
            walked binds goes_on judged setting tree binders env v that (some q.0) s w u ends deep room q.2
            (known-extends (part_of rule name) env (collection tree env v) q.0 q.1) (known-passes (collection tree env v) q.0 q.1);
      }

  quantifier-unknown : {x : Result (Optional ℕ) (CollectionFault × ℕ)} {inner : Scope} {g r : Progress}
      → CollectionOf schema rule words scope (i + 1) x
      → x ≡ (Ok None)
      → Binds scope name None inner
      → PassedOn d g
      → BodiesJudged (frame schema rule words inner (Some (i + 1 + 1))) middle end left g r
      → QuantifierJudged (frame schema rule words scope over) (part_of rule name) i end left a r
  unfolding extend verdict
  quantifier-unknown {x} collects y binds goes_on judged =
      record {
        at_most = most binds goes_on judged;
        goes =
            λ setting tree binders env v that s w u ends deep room.
            let q : collection tree env v ≡ unknown = rw y at (collects.leads setting tree env v s.scoped w) in
            walked binds goes_on judged setting tree binders env v that none s w u ends deep room tt (rw q) (rw q);
      }

  pub quantifier-walked : (found : Optional ℕ) {x : Result (Optional ℕ) (CollectionFault × ℕ)} {inner : Scope} {g r : Progress}
      → CollectionOf schema rule words scope (i + 1) x
      → x ≡ Ok found
      → Binds scope name found inner
      → PassedOn d g
      → BodiesJudged (frame schema rule words inner (Some (i + 1 + 1))) middle end left g r
      → QuantifierJudged (frame schema rule words scope over) (part_of rule name) i end left a r
  quantifier-walked (Some slot) collects y binds goes_on judged = quantifier-known collects y binds goes_on judged
  quantifier-walked None collects y binds goes_on judged = quantifier-unknown collects y binds goes_on judged

  pub quantifier-refused : {x : Result (Optional ℕ) (CollectionFault × ℕ)} {fault : CollectionFault} {place : ℕ} {r : Progress}
      → CollectionOf schema rule words scope (i + 1) x
      → x ≡ Err (fault, place)
      → d.verdict ≡ (Ok tt)
      → Failed d (Collection fault place) (i + 1) over r
      → QuantifierJudged (frame schema rule words scope over) (part_of rule name) i end left a r
  unfolding verdict number_of failure_of check
  quantifier-refused {x} {fault} {place} {r} collects y none_yet p =
      record {
        at_most = omega (arith, bound.at_most, refs.at_most, p.same, k.most, k.least (omega arith));
        goes =
            λ setting tree binders env v that s w u ends deep room.
            let q : CollectedIs schema words (Err (fault, place)) (collection tree env v) = rw y at (collects.leads setting tree env v s.scoped w) in
            let o : outcome setting tree (check 22 (i + 1) binders (walkable v)) ≡ some (failure q.0 place) =
            walkable-outcome setting tree binders env 22 (i + 1) v s.bound ∙ ap verdict q.2 in
            goes_then (bind_goes setting tree binders env v that s w ends)
            (goes_then (over-goes setting tree binders env v that s w ends)
            (refuse setting tree binders env v s
            (body setting (record { name = part_of rule name; over = v } ∷ binders) that)
            (over-goes setting tree binders env v that s w ends) q.0 q.1 q.2 o q.3 (leb q.0 5) refl));
      }
    where
      refuse : (setting : Setting) (tree : Schema) (binders : List Binder) (env : Environment) (v : Value)
          → Stands (frame schema rule words scope over) setting tree binders env
          → (others : List Check)
          → GoesOn (outcome setting tree) b (references binders v) d
          → (detail : ℕ) (path : List Text)
          → collection tree env v ≡ refused detail place path
          → outcome setting tree (check 22 (i + 1) binders (walkable v)) ≡ some (failure detail place)
          → (detail ≤ 5 → detail ≡ collection_detail fault)
          → (few : Bool) → leb detail 5 ≡ few
          → GoesOn (outcome setting tree) d (check 22 (i + 1) binders (walkable v) ∷ others) r
      refuse setting tree binders env v s others before detail path c o listed true e =
          p.goes (outcome setting tree) _ others (record { numbered = refl; placed = refl; held = s.held })
          (o ∙ ap (λ (x : ℕ). some (failure x place)) (listed (leb-true detail 5 e)))
      refuse setting tree binders env v s others before detail path c o listed false e =
          let n : Unread setting tree env v =
          unread setting tree env v detail place path c (leb-false detail 5 e) in
          absurd (none-fails d none_yet (unread-shows (frame schema rule words scope over) setting tree binders env v s n before))
