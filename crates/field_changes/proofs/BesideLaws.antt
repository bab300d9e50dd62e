-- Two schemas that differ in one field of the record give one verdict about a rule or template that does not mention it.
use Rattle.std.specs.Prelude.{ℕ, ◌+◌, Bool, cond, ◌≡◌, ltb}
use Rattle.std.proofs.Math.Bool.{true, false}
use mathlib.Core.List.{List, [], ◌∷◌}
use Rattle.std.proofs.Math.Option.{Option, none, some}
use Rattle.std.proofs.Math.Path.{refl}
use Rattle.text.specs.Order.{same_bytes}
use Rattle.definition.specs.Tree.{Text, Field, Schema, Value, constant, number, string, array, object, Rule}
use Rattle.reference.specs.Setting.{Name, id, entity, version, fields, state, to_state, from_state, args, old_fields, name_of, Setting}
use Rattle.reference.specs.Path.{Segments, split}
use Rattle.reference.specs.Walk.{Step, lookup, walk_step, field_step}
use Rattle.reference.specs.Reference.{Environment, bound, root_of, from_holder, root_walk, from_root, from_name, from_bound, reference, behind_first, begins_with_dollar, collection_in, collection_named, collection_bound, collection_text, collection}
use Rattle.validation.specs.Check.{Binder, Question, settled, readable, walkable, Check, checks}
use Rattle.validation.specs.Judge.{enter, environment, answer, answer_in, outcome, judge_from, judge}
use Rattle.validation.proofs.CheckLaws.{Every}
use Rattle.field_changes.specs.Mention.{is_next, past_first, is_named, in_over, mentions}
use Rattle.field_changes.proofs.MentionLaws.{Clear, ClearBinders, Clears, clear-checks}

-- the records have the same fields but the one of that name, and all else is the same
pub record Beside (name : Text) (s s' : Schema) : Type 0 where
  pub is_open : s.fields.is_open ≡ s'.fields.is_open
  pub others : (x : Text) → same_bytes name x ≡ false → lookup x s.fields.members ≡ lookup x s'.fields.members
  pub arguments : s.arguments ≡ s'.arguments

module _ (name : Text) (s s' : Schema) (beside : Beside name s s') where
  holder-beside : (step : Field → Text → Step) (at d : ℕ) (x : Text) (path : List Text)
      → same_bytes name x ≡ false
      → from_holder step at d s.fields x path ≡ from_holder step at d s'.fields x path
  unfolding from_holder
  holder-beside step at d x path h = rw (beside.others x h, beside.is_open)

  root-beside : (setting : Setting) (n : Name) (x : Text) (path : List Text)
      → same_bytes name x ≡ false
      → from_root setting n (root_of s n) x path ≡ from_root setting n (root_of s' n) x path
  unfolding root_of from_root root_walk
  root-beside setting id x path h = refl
  root-beside setting entity x path h = refl
  root-beside setting version x path h = refl
  root-beside setting fields x path h = rw (holder-beside (walk_step setting.reader setting.is_service) 1 2 x path h)
  root-beside setting state x path h = refl
  root-beside setting to_state x path h = refl
  root-beside setting from_state x path h = refl
  root-beside setting args x path h = rw beside.arguments
  root-beside setting old_fields x path h = rw (holder-beside (walk_step setting.reader setting.is_service) 1 2 x path h)

  name-beside : (setting : Setting) (o : Option Name) (path : List Text)
      → is_next name path ≡ false
      → from_name setting s o path ≡ from_name setting s' o path
  unfolding from_name is_next
  name-beside setting none path h = refl
  name-beside setting (some n) [] h = refl
  name-beside setting (some n) (x ∷ path) h = root-beside setting n x path h

  bound-beside : (setting : Setting) (p : Segments) (b : Option (Option Field))
      → is_next name p.others ≡ false
      → from_bound setting s p b ≡ from_bound setting s' p b
  unfolding from_bound
  bound-beside setting p none h = name-beside setting (name_of p.first) p.others h
  bound-beside setting p (some x) h = refl

  reference-beside : (setting : Setting) (env : Environment) (t : Text)
      → is_next name (split t).others ≡ false
      → reference setting s env t ≡ reference setting s' env t
  unfolding reference
  reference-beside setting env t h = bound-beside setting (split t) (bound (split t).first env) h

  collected-beside : (n : Name) (x : Text) (path : List Text)
      → same_bytes name x ≡ false
      → collection_in (root_of s n) x path ≡ collection_in (root_of s' n) x path
  unfolding root_of collection_in
  collected-beside id x path h = refl
  collected-beside entity x path h = refl
  collected-beside version x path h = refl
  collected-beside fields x path h = rw (holder-beside field_step 1 7 x path h)
  collected-beside state x path h = refl
  collected-beside to_state x path h = refl
  collected-beside from_state x path h = refl
  collected-beside args x path h = rw beside.arguments
  collected-beside old_fields x path h = rw (holder-beside field_step 1 7 x path h)

  named-beside : (o : Option Name) (path : List Text)
      → is_next name path ≡ false
      → collection_named s o path ≡ collection_named s' o path
  unfolding collection_named is_next
  named-beside none path h = refl
  named-beside (some n) [] h = refl
  named-beside (some n) (x ∷ path) h = collected-beside n x path h

  collection-bound-beside : (is_reference : Bool) (p : Segments) (b : Option (Option Field))
      → is_next name p.others ≡ false
      → collection_bound s is_reference p b ≡ collection_bound s' is_reference p b
  unfolding collection_bound
  collection-bound-beside is_reference p (some f) h = refl
  collection-bound-beside true p none h = named-beside (name_of p.first) p.others h
  collection-bound-beside false p none h = refl

  -- what a collection looks at is the text past the first byte, or nothing
  next-behind : (t : Text) → is_named name t ≡ false → is_next name (split (behind_first t)).others ≡ false
  unfolding is_named past_first behind_first is_next split
  next-behind [] h = refl
  next-behind (b ∷ t) h = either (ltb b 128)
    where
      either : (small : Bool) → is_next name (split (cond small t [])).others ≡ false
      either true = h
      either false = refl

  collection-beside : (env : Environment) (v : Value)
      → in_over name v ≡ false
      → collection s env v ≡ collection s' env v
  unfolding collection collection_text in_over
  collection-beside env (constant e type) h = refl
  collection-beside env (number e digits) h = refl
  collection-beside env (string e t) h =
      collection-bound-beside (begins_with_dollar t) (split (behind_first t)) (bound (split (behind_first t)).first env) (next-behind t h)
  collection-beside env (array e values) h = refl
  collection-beside env (object e pairs) h = refl

  enter-beside : (b : Binder) (x : Option Environment) → in_over name b.over ≡ false → enter s b x ≡ enter s' b x
  unfolding enter
  enter-beside b none h = refl
  enter-beside b (some env) h = rw (collection-beside env b.over h)

  environment-beside : (bs : List Binder) → ClearBinders name bs → environment s bs ≡ environment s' bs
  unfolding environment
  environment-beside [] h = refl
  environment-beside (b ∷ bs) h = rw (environment-beside bs h.1) (enter-beside b (environment s' bs) h.0)

  answer-beside : (setting : Setting) (q : Question) (x : Option Environment)
      → Clear name q
      → answer_in setting s q x ≡ answer_in setting s' q x
  unfolding answer_in answer
  answer-beside setting q none h = refl
  answer-beside setting (settled o) (some env) h = refl
  answer-beside setting (readable t) (some env) h = rw (reference-beside setting env t h)
  answer-beside setting (walkable v) (some env) h = rw (collection-beside env v h)

  outcome-beside : (setting : Setting) (c : Check) → Clears name c → outcome setting s c ≡ outcome setting s' c
  unfolding outcome
  outcome-beside setting c h =
      rw (environment-beside c.binders h.binders) (answer-beside setting c.question (environment s' c.binders) h.question)

  judged-beside : (setting : Setting) (n : ℕ) (cs : List Check)
      → Every (Clears name) cs
      → judge_from (outcome setting s) n cs ≡ judge_from (outcome setting s') n cs
  unfolding judge_from
  judged-beside setting n [] h = refl
  judged-beside setting n (c ∷ cs) h = rw (outcome-beside setting c h.0, judged-beside setting (n + 1) cs h.1)

  pub beside_same : (setting : Setting) (r : Rule)
      → mentions name r ≡ false
      → judge setting s (checks setting r) ≡ judge setting s' (checks setting r)
  unfolding judge
  beside_same setting r h = judged-beside setting 0 (checks setting r) (clear-checks name setting r h)
