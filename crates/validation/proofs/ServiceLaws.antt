-- From kernel/1 to a service semantics: what is accepted stays accepted, if the numbers that the literal pass meets are finite.
use Rattle.std.specs.Prelude.{ℕ, ◌+◌, Bool, cond, ◌&&◌, ◌≡◌, length}
use native.Mathlib.Omega.{arith}
use Rattle.std.proofs.Math.Bool.{true, false}
use mathlib.Core.List.{List, [], ◌∷◌, ◌++◌, map}
use Rattle.std.proofs.Math.Option.{Option, none, some}
use Rattle.std.proofs.Math.Path.{refl, ap}
use Rattle.std.proofs.Common.{◌∙◌, length-append}
use Rattle.std.proofs.lemmas.List.{length-map}
use Rattle.text.specs.CaseLaws.{by-test, zero-not-one}
use Rattle.definition.specs.Tree.{Text, Field, field, Schema, Condition, literal, many, negation, one, two, comparison, quantifier, Conditions, no_conditions, condition, Rule, rule, template, Items, Members}
use Rattle.sheet.specs.Operators.{is_service_operator}
use Rattle.reference.specs.Setting.{Name, name_of, Reader, kernel, Setting}
use Rattle.reference.specs.Path.{Segments, split}
use Rattle.reference.specs.Walk.{Step, refuse, leaf, free, into, lookup, member_step, Reached, refused, unknown, known, arrive, entry_of, travel, is_empty, FieldForm, json_field, object_field, array_field, map_field, string_field, union_field, other_field, form_of_kind, walk_into, walk_step}
use Rattle.reference.specs.Reference.{Environment, bound, Root, no_root, missing, root, root_of, from_holder, root_walk, from_root, from_name, from_element, from_bound, reference}
use Rattle.reference.proofs.CollectionLaws.{Reads}
use Rattle.validation.specs.Check.{Binder, Question, settled, readable, walkable, Check, check, fails_if, references, Literal, literals, literal_check, operand, compare_side, operator_check, body, bodies, literal_checks, checks}
use Rattle.validation.specs.Judge.{CheckOutcome, verdict, environment, answer, answer_in, outcome, Verdict, all_pass, decide, judge_from, judge}
use Rattle.validation.proofs.CheckLaws.{Every, every_append}
use Rattle.validation.specs.Service.{literals_in, AllFinite}

-- a step under service leads where one under kernel/1 leads, if that leads anywhere
data Rises : Step → Step → Type 0 where
  alike : {t : Step} → Rises t t
  refused_before : {d : ℕ} {t : Step} → Rises (refuse d) t

rises-if : {t t' : Step} (b : Bool) (d : ℕ) → Rises t t' → Rises (cond b (refuse d) t) (cond b (refuse d) t')
rises-if true d h = alike
rises-if false d h = h

into-rises : (reader : Reader) (is_open : Bool) (tag : Option Text) (items : Items) (members : Members) (s : Text) (form : FieldForm)
    → Rises (walk_into reader false is_open tag items members s form) (walk_into reader true is_open tag items members s form)
unfolding walk_into
into-rises reader is_open tag items members s json_field = alike
into-rises reader is_open tag items members s object_field = alike
into-rises reader is_open tag items members s array_field = refused_before
into-rises reader is_open tag items members s map_field = refused_before
into-rises reader is_open tag items members s string_field = refused_before
into-rises reader is_open tag items members s union_field = refused_before
into-rises reader is_open tag items members s other_field = refused_before

step-rises : (reader : Reader) (f : Field) (s : Text) → Rises (walk_step reader false f s) (walk_step reader true f s)
unfolding walk_step
step-rises reader (field e kind is_open tag items members) s =
    rises-if (is_empty s) 1 (into-rises reader is_open tag items members s (form_of_kind kind))

arrive-alike : (at : ℕ) (s : Text) (path : List Text) (onward onward' : Field → Reached) (t : Step)
    → ((g : Field) → Reads (onward g) → Reads (onward' g))
    → Reads (arrive at s path onward t)
    → Reads (arrive at s path onward' t)
unfolding arrive
arrive-alike at s path o o' (refuse d) h x = x
arrive-alike at s path o o' (leaf d) h x = x
arrive-alike at s path o o' free h x = tt
arrive-alike at s path o o' (into g) h x = h g x

arrive-rises : {t t' : Step} (at : ℕ) (s : Text) (path : List Text) (onward onward' : Field → Reached)
    → Rises t t'
    → ((g : Field) → Reads (onward g) → Reads (onward' g))
    → Reads (arrive at s path onward t)
    → Reads (arrive at s path onward' t')
unfolding arrive
arrive-rises at s path o o' (alike {t = t}) h x = arrive-alike at s path o o' t h x
arrive-rises at s path o o' refused_before h x = absurd x

travel-rises : (reader : Reader) (path : List Text) (f : Field) → Reads (travel (walk_step reader false) path f) → Reads (travel (walk_step reader true) path f)
unfolding travel
travel-rises reader [] f x = tt
travel-rises reader (s ∷ path) f x =
    arrive-rises (entry_of f) s path (λ g. travel (walk_step reader false) path g) (λ g. travel (walk_step reader true) path g) (step-rises reader f s)
    (λ g y. travel-rises reader path g y) x

reads-if : (r r' q q' : Reached) (b : Bool) → (Reads r → Reads r') → (Reads q → Reads q') → Reads (cond b r q) → Reads (cond b r' q')
reads-if r r' q q' true h k x = h x
reads-if r r' q q' false h k x = k x

passes-reads : (r : Reached) → verdict r ≡ none → Reads r
unfolding verdict
passes-reads (refused d at left) e = zero-not-one cc
passes-reads unknown e = tt
passes-reads (known f) e = tt

reads-passes : (r : Reached) → Reads r → verdict r ≡ none
unfolding verdict
reads-passes (refused d at left) x = absurd x
reads-passes unknown x = refl
reads-passes (known f) x = refl

-- Verdicts: all pass exactly if each does

module _ (ask : Check → CheckOutcome) where
  abbrev Passes : Check → Type 0
  Passes c = ask c ≡ none

  all-decided : (o : CheckOutcome) (n m : ℕ) (c : Check) (v : Verdict) → decide o n c v ≡ all_pass m → (o ≡ none) × (v ≡ all_pass m)
  unfolding decide
  all-decided none n m c v e = (refl, e)
  all-decided (some d) n m c v e = zero-not-one cc

  all-passed : (n m : ℕ) (cs : List Check) → judge_from ask n cs ≡ all_pass m → Every Passes cs × (m ≡ n + length cs)
  unfolding judge_from
  all-passed n m [] e = let z : n ≡ m = cc in (tt, omega arith)
  all-passed n m (c ∷ cs) e =
      let here = all-decided (ask c) n m c (judge_from ask (n + 1) cs) e in
      let rest = all-passed (n + 1) m cs here.1 in
      ((here.0, rest.0), omega (arith, rest.1))

  pass_all : (n : ℕ) (cs : List Check) → Every Passes cs → judge_from ask n cs ≡ all_pass (n + length cs)
  unfolding judge_from decide
  pass_all n [] h = ap all_pass (omega arith)
  pass_all n (c ∷ cs) h = rw h.0 (pass_all (n + 1) cs h.1 ∙ ap all_pass (omega arith))

every-parts : (P : Check → Type 0) (xs ys : List Check) → Every P (xs ++ ys) → Every P xs × Every P ys
every-parts P [] ys h = (tt, h)
every-parts P (c ∷ xs) ys h = let r = every-parts P xs ys h.1 in ((h.0, r.0), r.1)

module _ (may_read : Name → Bool) (reader : Reader) (is_rule_kind : Bool) (schema : Schema) where
  abbrev under_kernel : Setting
  under_kernel = record { may_read = may_read; reader = reader; is_rule_kind = is_rule_kind; is_service = false }

  abbrev under_service : Setting
  under_service = record { may_read = may_read; reader = reader; is_rule_kind = is_rule_kind; is_service = true }

  from-root-rises : (n : Name) (r : Root) (s : Text) (path : List Text) → Reads (from_root under_kernel n r s path) → Reads (from_root under_service n r s path)
  unfolding from_root root_walk from_holder
  from-root-rises n no_root s path x = x
  from-root-rises n missing s path x = x
  from-root-rises n (root at h) s path x =
      reads-if (root_walk reader false at h s path) (root_walk reader true at h s path) (refused 11 0 (s ∷ path)) (refused 11 0 (s ∷ path)) (may_read n)
      (λ y.
      reads-if (refused 1 at (s ∷ path)) (refused 1 at (s ∷ path)) (from_holder (walk_step reader false) at 2 h s path) (from_holder (walk_step reader true) at 2 h s path) (is_empty s) (λ z. z)
      (λ z.
      arrive-rises at s path (λ g. travel (walk_step reader false) path g) (λ g. travel (walk_step reader true) path g)
      (alike {t = member_step (lookup s h.members) h.is_open 2}) (λ g w. travel-rises reader path g w) z)
      y)
      (λ y. y)
      x

  from-name-rises : (o : Option Name) (path : List Text) → Reads (from_name under_kernel schema o path) → Reads (from_name under_service schema o path)
  unfolding from_name
  from-name-rises none path x = x
  from-name-rises (some n) [] x = x
  from-name-rises (some n) (s ∷ path) x = from-root-rises n (root_of schema n) s path x

  from-bound-rises : (p : Segments) (o : Option (Option Field)) → Reads (from_bound under_kernel schema p o) → Reads (from_bound under_service schema p o)
  unfolding from_bound from_element
  from-bound-rises p none x = from-name-rises (name_of p.first) p.others x
  from-bound-rises p (some none) x = x
  from-bound-rises p (some (some f)) x = travel-rises kernel p.others f x

  answer-rises : (env : Environment) (q : Question) → answer under_kernel schema env q ≡ none → answer under_service schema env q ≡ none
  unfolding answer reference
  answer-rises env (settled o) e = e
  answer-rises env (readable t) e =
      reads-passes (reference under_service schema env t)
      (from-bound-rises (split t) (bound (split t).first env) (passes-reads (reference under_kernel schema env t) e))
  answer-rises env (walkable v) e = e

  answer-in-rises : (q : Question) (x : Option Environment) → answer_in under_kernel schema q x ≡ none → answer_in under_service schema q x ≡ none
  unfolding answer_in
  answer-in-rises q none e = e
  answer-in-rises q (some env) e = answer-rises env q e

  every-rises : (cs : List Check) → Every (Passes (outcome under_kernel schema)) cs → Every (Passes (outcome under_service schema)) cs
  unfolding outcome
  every-rises [] h = tt
  every-rises (c ∷ cs) h = (answer-in-rises c.question (environment schema c.binders) h.0, every-rises cs h.1)

  -- no operator is missing under service
  operator-in : (b : Bool) (q : Question) (x : Option Environment) → answer_in under_kernel schema q x ≡ none → answer_in under_service schema (fails_if (b && false) 0) x ≡ none
  unfolding answer_in answer fails_if
  operator-in b q none e = e
  operator-in true q (some env) e = refl
  operator-in false q (some env) e = refl

  operator-rises : (bs : List Binder) (e op : ℕ) → outcome under_kernel schema (operator_check under_kernel bs e op) ≡ none → outcome under_service schema (operator_check under_service bs e op) ≡ none
  unfolding operator_check check outcome
  operator-rises bs e op h = operator-in (is_service_operator op) (fails_if (is_service_operator op && true) 0) (environment schema bs) h

  mutual
    unfolding body bodies

    body-rises : (bs : List Binder) (c : Condition) → Every (Passes (outcome under_kernel schema)) (body under_kernel bs c) → Every (Passes (outcome under_service schema)) (body under_service bs c)
    body-rises bs (literal e truth) h = (operator-rises bs e 1 h.0, tt)
    body-rises bs (many e op children) h =
        (operator-rises bs e op h.0, ((every-rises (check 16 e bs _ ∷ []) (h.1.0, tt)).0, bodies-rise bs children h.1.1))
    body-rises bs (negation e child) h = (operator-rises bs e 4 h.0, body-rises bs child h.1)
    body-rises bs (one e op v) h = (operator-rises bs e op h.0, every-rises (references bs v) h.1)
    body-rises bs (two e op left right) h =
        (operator-rises bs e op h.0, every-rises (operand op bs left ++ operand op bs right) h.1)
    body-rises bs (comparison e which left right) h =
        (operator-rises bs e 18 h.0, every-rises (compare_side bs 1 left ++ compare_side bs 2 right) h.1)
    body-rises bs (quantifier e op bind over that) h =
        let parts = every-parts (Passes (outcome under_kernel schema)) (references bs over) _ h.1.1 in (
          operator-rises bs e op h.0,
          (
            (every-rises (check 21 e bs _ ∷ []) (h.1.0, tt)).0,
            every_append (Passes (outcome under_service schema)) (references bs over) _ (every-rises (references bs over) parts.0)
                ((every-rises (check 22 e bs (walkable over) ∷ []) (parts.1.0, tt)).0, body-rises _ that parts.1.1),
          ),
        )

    bodies-rise : (bs : List Binder) (cs : Conditions) → Every (Passes (outcome under_kernel schema)) (bodies under_kernel bs cs) → Every (Passes (outcome under_service schema)) (bodies under_service bs cs)
    bodies-rise bs no_conditions h = tt
    bodies-rise bs (condition c others) h =
        let parts = every-parts (Passes (outcome under_kernel schema)) (body under_kernel bs c) (bodies under_kernel bs others) h in
        every_append (Passes (outcome under_service schema)) (body under_service bs c) (bodies under_service bs others)
        (body-rises bs c parts.0)
        (bodies-rise bs others parts.1)

  mutual
    unfolding body bodies

    body-length : (bs : List Binder) (c : Condition) → length (body under_service bs c) ≡ length (body under_kernel bs c)
    body-length bs (literal e truth) = refl
    body-length bs (many e op children) = omega (arith, bodies-length bs children)
    body-length bs (negation e child) = omega (arith, body-length bs child)
    body-length bs (one e op v) = refl
    body-length bs (two e op left right) = refl
    body-length bs (comparison e which left right) = refl
    body-length bs (quantifier e op bind over that) =
        simp length-append (omega (arith, body-length (record { name = bind; over = over } ∷ bs) that))

    bodies-length : (bs : List Binder) (cs : Conditions) → length (bodies under_service bs cs) ≡ length (bodies under_kernel bs cs)
    bodies-length bs no_conditions = refl
    bodies-length bs (condition c others) = simp length-append (omega (arith, body-length bs c, bodies-length bs others))

  finite-pass : (ls : List Literal) → AllFinite ls → Every (Passes (outcome under_service schema)) (map literal_check ls)
  unfolding literal_check check outcome environment answer_in answer fails_if
  finite-pass [] h = tt
  finite-pass (l ∷ ls) h = (rw h.0, finite-pass ls h.1)

  checks-rise : (r : Rule) → AllFinite (literals_in r) → Every (Passes (outcome under_kernel schema)) (checks under_kernel r) → Every (Passes (outcome under_service schema)) (checks under_service r)
  unfolding checks literal_checks literals_in
  checks-rise (rule name message assert) f h = (
    (every-rises (check 11 1 [] _ ∷ []) (h.0, tt)).0,
    (
      (every-rises (check 12 1 [] _ ∷ []) (h.1.0, tt)).0,
      (
        (every-rises (check 13 2 [] _ ∷ []) (h.1.1.0, tt)).0,
        every_append (Passes (outcome under_service schema)) (map literal_check (literals assert)) (body under_service [] assert)
            (finite-pass (literals assert) f)
            (body-rises [] assert h.1.1.1),
      ),
    ),
  )
  checks-rise (template v) f h = every-rises (references [] v) h

  checks-length : (r : Rule) → length (checks under_service r) ≡ length (checks under_kernel r) + length (literals_in r)
  unfolding checks literal_checks literals_in
  checks-length (rule name message assert) =
      simp (length-append, length-map) (omega (arith, body-length [] assert))
  checks-length (template v) = omega arith

  -- accepted under kernel/1 is accepted under service, and each of those numbers is one check more
  pub service-accepts : (r : Rule) (n : ℕ)
      → judge under_kernel schema (checks under_kernel r) ≡ all_pass n
      → AllFinite (literals_in r)
      → judge under_service schema (checks under_service r) ≡ all_pass (n + length (literals_in r))
  unfolding judge
  service-accepts r n e f =
      let passed = all-passed (outcome under_kernel schema) 0 n (checks under_kernel r) e in
      pass_all (outcome under_service schema) 0 (checks under_service r) (checks-rise r f passed.0)
      ∙ ap all_pass (omega (arith, passed.1, checks-length r))
