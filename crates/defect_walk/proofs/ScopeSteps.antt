-- The scope of an entry: each way through `scope_below`, as a law.
use Rattle.std.specs.Prelude.{Option as Optional, Some, None, Result, Ok, Err}
use Prim.Native.Nat.{ℕ, suc, ◌+◌, ◌≤◌, ◌<◌, max}
use native.Mathlib.Omega.{arith}
use mathlib.Core.Bool.{Bool, true, false, cond}
use mathlib.Core.List.{List, [], ◌∷◌}
use mathlib.Core.Logic.{⊎_elim}
use mathlib.Core.Option.{Option, none, some}
use mathlib.Core.Path.{◌≡◌, refl, sym, ap, ◌∙◌}
use lib.Dec.{leb, ltb}
use borrow.Author.Tests.{le-leb, lt-leb, lt-ltb}
use Rattle.text.specs.Parts.{part_of}
use Rattle.text.specs.declared.part.Part.{Part}
use Rattle.text.specs.CaseLaws.{zero-not-one}
use Rattle.definition.specs.Tree.{Text, Field, Schema, Value, Condition, literal, many, negation, one, two, comparison, quantifier, Conditions, no_conditions, condition}
use Rattle.definition.specs.Within.{condition_entries, value_entries}
use Rattle.reference.specs.Setting.{Setting}
use Rattle.reference.specs.Walk.{Reached, refused, unknown, known}
use Rattle.reference.specs.Reference.{Environment, collection}
use Rattle.rule.specs.Index.{start_of, end_of, ValueAt, ConditionAt}
use Rattle.validation.specs.Check.{Binder, depth, depth_of_conditions}
use Rattle.validation.specs.Judge.{extend, enter, environment}
use Rattle.rule.specs.Kinds.{OperatorAt}
use Rattle.rule.specs.Nodes.{IsCondition, AreConditions, children_of, ChildrenFrom, Behind}
use Rattle.rule.proofs.NodeSteps.{has-operator, children-stand, value-size}
use Rattle.rule.specs.IndexLaws.{value-next}
use Rattle.walk.specs.Answers.{CollectedIs}
use Rattle.walk.specs.declared.answer.CollectionFault.{CollectionFault}
use Rattle.scope.specs.Scopes.{BoundElement, ScopeAt, Binds}
use Rattle.scope.specs.ScopeLaws.{scope-bound}
use Rattle.scope.specs.declared.binder.Scope.{Scope}
use Rattle.condition_checks.specs.Bodies.{bind_by, BindAt, CollectionOf}
use Rattle.message.specs.Standing.{standing, standing_in}
use Rattle.message.proofs.StandingLaws.{standing-before, standing-before-all}
use Rattle.defect_walk.specs.declared.standing.Child.{Child}
use Rattle.defect_walk.specs.Scoped.{ChildOf, ChildIs, ScopeFound}

same-environment : {x : Option Environment} (env env' : Environment) → x ≡ some env → x ≡ some env' → env ≡ env'
same-environment env env' e f = cc

depth-children : (c : Condition) → depth c ≡ 1 + depth_of_conditions (children_of c)
unfolding depth depth_of_conditions children_of
depth-children (literal e truth) = refl
depth-children (many e op children) = refl
depth-children (negation e child) = omega arith
depth-children (one e op v) = refl
depth-children (two e op left right) = refl
depth-children (comparison e which left right) = refl
depth-children (quantifier e op bind over body) = omega arith

-- the binders of a condition's children: one more in a quantifier
unfoldable within : List Binder → Condition → List Binder
within bs (literal e truth) = bs
within bs (many e op children) = bs
within bs (negation e child) = bs
within bs (one e op v) = bs
within bs (two e op left right) = bs
within bs (comparison e which left right) = bs
within bs (quantifier e op bind over body) = record { name = bind; over = over } ∷ bs

module _ {rule words : List ℕ} {i end at op start target : ℕ}
    (begins : at ≡ start_of words i) (kind : OperatorAt rule at op) (from : ChildrenFrom words op i end start) (inside : target < end) where
  body-start : (e own : ℕ) (bind : Text) (over : Value) (body : Condition) → IsCondition rule words i end (quantifier e own bind over body) → start ≡ i + 1 + value_entries over
  unfolding condition_entries
  body-start e own bind over body w =
      let p = has-operator rule words i begins kind (quantifier e own bind over body) w.stands in
      let b : Behind words (i + 1) end start = from.body p.1 in
      let n : end_of words (i + 1) ≡ i + 1 + value_entries over = value-next rule words (i + 1) over w.stands.1 in
      let m : 1 ≤ value_entries over = value-size over in
      b.exact (omega arith) (omega (arith, w.ends)) ∙ n

  -- before the children no binder is new
  own-standing : (bs : List Binder) (c : Condition) → IsCondition rule words i end c → target < start → standing (target + 1) (i + 1) bs c ≡ bs
  unfolding standing
  own-standing bs (literal e truth) w l = refl
  own-standing bs (many e own children) w l =
      let p = has-operator rule words i begins kind (many e own children) w.stands in
      let f : start ≡ i + 1 = from.inner p.1 (omega (arith, p.2)) in
      standing-before-all (target + 1) (i + 1 + 1) bs children (omega arith)
  own-standing bs (negation e child) w l =
      let p = has-operator rule words i begins kind (negation e child) w.stands in
      let f : start ≡ i + 1 = from.inner (omega arith) (omega arith) in
      standing-before (target + 1) (i + 1 + 1) bs child (omega arith)
  own-standing bs (one e own v) w l = refl
  own-standing bs (two e own left right) w l = refl
  own-standing bs (comparison e which left right) w l = refl
  own-standing bs (quantifier e own bind over body) w l =
      let f = body-start e own bind over body w in
      rw (lt-leb (i + 1 + 1 + value_entries over) (target + 1) (omega arith))

  -- among them the binders are those around them, and one more in a quantifier
  child-standing : (bs : List Binder) (c : Condition) → IsCondition rule words i end c → start ≤ target
      → standing (target + 1) (i + 1) bs c ≡ standing_in (target + 1) (start + 1) (within bs c) (children_of c)
  unfolding standing within children_of condition_entries
  child-standing bs (literal e truth) w l =
      let p = has-operator rule words i begins kind (literal e truth) w.stands in
      let f : start ≡ end = from.literal (omega arith) in
      absurd (omega arith)
  child-standing bs (many e own children) w l =
      let p = has-operator rule words i begins kind (many e own children) w.stands in
      let f : start ≡ i + 1 = from.inner p.1 (omega (arith, p.2)) in
      rw f
  child-standing bs (negation e child) w l =
      let p = has-operator rule words i begins kind (negation e child) w.stands in
      let f : start ≡ i + 1 = from.inner (omega arith) (omega arith) in
      let q : ltb (target + 1) (i + 1 + 1 + condition_entries child) ≡ true = lt-ltb (target + 1) (i + 1 + 1 + condition_entries child) (omega (arith, w.ends)) in
      rw (f, q)
  child-standing bs (one e own v) w l =
      let p = has-operator rule words i begins kind (one e own v) w.stands in
      let f : start ≡ end = ⊎_elim (λ q. from.values (omega arith) (omega arith)) (λ q. from.values (omega arith) (omega arith)) p.1 in
      absurd (omega arith)
  child-standing bs (two e own left right) w l =
      let p = has-operator rule words i begins kind (two e own left right) w.stands in
      let f : start ≡ end = from.values (omega (arith, p.1)) (omega (arith, p.2)) in
      absurd (omega arith)
  child-standing bs (comparison e which left right) w l =
      let p = has-operator rule words i begins kind (comparison e which left right) w.stands in
      let f : start ≡ end = from.values (omega arith) (omega arith) in
      absurd (omega arith)
  child-standing bs (quantifier e own bind over body) w l =
      let f = body-start e own bind over body w in
      let g : i + 1 + 1 + value_entries over ≡ start + 1 = omega arith in
      let inner : List Binder = record { name = bind; over = over } ∷ bs in
      let q : ltb (target + 1) (start + 1 + condition_entries body) ≡ true = lt-ltb (target + 1) (start + 1 + condition_entries body) (omega (arith, w.ends)) in
      rw (le-leb (i + 1 + 1 + value_entries over) (target + 1) (omega arith), q)
      (ap (λ (n : ℕ). standing (target + 1) n inner body) g)

  -- `all`, `any` and `not`
  not-quantified : (bs : List Binder) (c : Condition) → ConditionAt rule words i c → op ≤ 4 → within bs c ≡ bs
  unfolding within
  not-quantified bs (literal e truth) w l = refl
  not-quantified bs (many e own children) w l = refl
  not-quantified bs (negation e child) w l = refl
  not-quantified bs (one e own v) w l = refl
  not-quantified bs (two e own left right) w l = refl
  not-quantified bs (comparison e which left right) w l = refl
  not-quantified bs (quantifier e own bind over body) w l =
      let p = has-operator rule words i begins kind (quantifier e own bind over body) w in
      absurd (omega (arith, p.1))

  -- Each return.

  module _ {schema : List ℕ} {scope : Scope} where
    pub found-own : target < start → ScopeFound schema rule words scope i end target scope
    found-own l =
        record {
          is = λ setting tree bs env env' c s e w d f.
              let same : environment tree bs ≡ some env' = rw (own-standing bs c w l) at f in
              rw (← (same-environment env env' e same)) s;
        }

    pub found-child : {child : Child} {r : Scope} → start ≤ target → ChildIs words start end target child → op ≤ 4
        → ScopeFound schema rule words scope child.word child.end target r
        → ScopeFound schema rule words scope i end target r
    found-child {child} {r} l k few below =
        record {
          is = λ setting tree bs env env' c s e w d f.
              let x = k.is rule (children_of c) (children-stand begins kind from c w) in
              let same = child-standing bs c w l ∙ ap (λ (inner : List Binder). standing_in (target + 1) (start + 1) inner (children_of c)) (not-quantified bs c w.stands few) ∙ x.same bs in
              let deeper = depth-children c in
              let deep = x.deep in
              below.is setting tree bs env env' x.c s e x.stands (omega arith) (ap (environment tree) (sym same) ∙ f);
        }

-- A binder that walks no collection: nothing below it does.

none-if : (tree : Schema) (b : Bool) (xs ys : List Binder) → environment tree xs ≡ none → environment tree ys ≡ none → environment tree (cond b xs ys) ≡ none
none-if tree true xs ys h k = h
none-if tree false xs ys h k = k

none-entered : (tree : Schema) (bind : Text) (over : Value) (bs : List Binder) → environment tree bs ≡ none → environment tree (record { name = bind; over = over } ∷ bs) ≡ none
unfolding environment enter
none-entered tree bind over bs h = rw h

mutual
  unfolding standing

  none-standing : (tree : Schema) (p n : ℕ) (bs : List Binder) (c : Condition) → environment tree bs ≡ none → environment tree (standing p n bs c) ≡ none
  none-standing tree p n bs (literal e truth) h = h
  none-standing tree p n bs (many e op children) h = none-standing-all tree p (n + 1) bs children h
  none-standing tree p n bs (negation e child) h = none-standing tree p (n + 1) bs child h
  none-standing tree p n bs (one e op v) h = h
  none-standing tree p n bs (two e op left right) h = h
  none-standing tree p n bs (comparison e which left right) h = h
  none-standing tree p n bs (quantifier e op bind over body) h =
      none-if tree (leb (n + 1 + value_entries over) p) _ bs
      (none-standing tree p (n + 1 + value_entries over) (record { name = bind; over = over } ∷ bs) body (none-entered tree bind over bs h)) h

  none-standing-all : (tree : Schema) (p n : ℕ) (bs : List Binder) (cs : Conditions) → environment tree bs ≡ none → environment tree (standing_in p n bs cs) ≡ none
  none-standing-all tree p n bs no_conditions h = h
  none-standing-all tree p n bs (condition c others) h =
      none-if tree (ltb p (n + condition_entries c)) (standing p n bs c) _ (none-standing tree p n bs c h) (none-standing-all tree p (n + condition_entries c) bs others h)

-- The body of a quantifier.

record Quantified (c : Condition) : Type 0 where
  e : ℕ
  own : ℕ
  bind : Text
  over : Value
  body : Condition
  is : c ≡ quantifier e own bind over body

-- its binder, and the condition in its body that holds the word
record Entered (rule words : List ℕ) (scope : Scope) (i target : ℕ) (child : Child) (read : Optional Part) (tree : Schema) (bs : List Binder) (env' : Environment) : Type 0 where
  name : Text
  over : Value
  c : Condition
  stands : ValueAt rule words (i + 1) over
  named : bind_by rule read ≡ some name
  held : IsCondition rule words child.word child.end c
  deep : scope.count + suc (depth c) ≤ 32
  found : environment tree (standing (target + 1) (child.word + 1) (record { name = name; over = over } ∷ bs) c) ≡ some env'

known-entered : (tree : Schema) (name : Text) (over : Value) (bs : List Binder) (env : Environment) (f : Field)
    → environment tree bs ≡ some env
    → collection tree env over ≡ known f
    → environment tree (record { name = name; over = over } ∷ bs) ≡ some (record { name = name; element = some f } ∷ env)
unfolding environment enter extend
known-entered tree name over bs env f e g = rw (e, g)

name-is : (rule : List ℕ) (read : Optional Part) (name : Part) (t : Text) → read ≡ Some name → bind_by rule read ≡ some t → part_of rule name ≡ t
unfolding bind_by
name-is rule None name t e f = zero-not-one cc
name-is rule (Some p) name t e f = let same : p ≡ name = cc in rw (← same) (some_same f)
  where
    some_same : {x y : Text} → some x ≡ some y → x ≡ y
    some_same q = cc

no-name : (rule : List ℕ) (read : Optional Part) (t : Text) → read ≡ None → bind_by rule read ≡ some t → ⊥
unfolding bind_by
no-name rule None t e f = zero-not-one cc
no-name rule (Some p) t e f = zero-not-one cc

module _ {rule words : List ℕ} {i end at op start target : ℕ} {child : Child}
    (begins : at ≡ start_of words i) (kind : OperatorAt rule at op) (from : ChildrenFrom words op i end start) (inside : target < end)
    (l : start ≤ target) (k : ChildIs words start end target child) (many-op : 5 ≤ op)
    {read : Optional Part} (bound : BindAt rule words i read) where
  quantified : (c : Condition) → IsCondition rule words i end c → Quantified c
  quantified (literal e truth) w = let p = has-operator rule words i begins kind (literal e truth) w.stands in absurd (omega arith)
  quantified (many e own children) w = let p = has-operator rule words i begins kind (many e own children) w.stands in absurd (omega (arith, p.2))
  quantified (negation e child) w = let p = has-operator rule words i begins kind (negation e child) w.stands in absurd (omega arith)
  quantified (one e own v) w =
      let p = has-operator rule words i begins kind (one e own v) w.stands in
      let f : start ≡ end = ⊎_elim (λ q. from.values (omega arith) (omega arith)) (λ q. from.values (omega arith) (omega arith)) p.1 in
      absurd (omega arith)
  quantified (two e own left right) w =
      let p = has-operator rule words i begins kind (two e own left right) w.stands in
      let f : start ≡ end = from.values (omega (arith, p.1)) (omega (arith, p.2)) in
      absurd (omega arith)
  quantified (comparison e which left right) w =
      let p = has-operator rule words i begins kind (comparison e which left right) w.stands in
      let f : start ≡ end = from.values (omega arith) (omega arith) in
      absurd (omega arith)
  quantified (quantifier e own bind over body) w = record { e = e; own = own; bind = bind; over = over; body = body; is = refl }

  entered : (scope : Scope) (tree : Schema) (bs : List Binder) (env' : Environment) (c : Condition)
      → IsCondition rule words i end c
      → scope.count + depth c ≤ 32
      → environment tree (standing (target + 1) (i + 1) bs c) ≡ some env'
      → Quantified c
      → Entered rule words scope i target child read tree bs env'
  unfolding within
  entered scope tree bs env' c w d f q =
      let w' : IsCondition rule words i end (quantifier q.e q.own q.bind q.over q.body) = rw q.is at w in
      let same = child-standing begins kind from inside bs c w l in
      let x = k.is rule (children_of c) (children-stand begins kind from c w) in
      let inner : List Binder = record { name = q.bind; over = q.over } ∷ bs in
      let held : within bs c ≡ inner = rw q.is in
      let deeper = depth-children c in
      let deep = x.deep in
      record {
        name = q.bind;
        over = q.over;
        c = x.c;
        stands = w'.stands.1;
        named = bound.is q.own q.bind w'.stands.0.rest w'.stands.0.reads;
        held = x.stands;
        deep = omega arith;
        found =
            ap (environment tree) (sym (same ∙ ap (λ (z : List Binder). standing_in (target + 1) (start + 1) z (children_of c)) held ∙ x.same inner)) ∙ f;
      }

  module _ {schema : List ℕ} {scope : Scope} {name : Part} {collected : Result (Optional ℕ) (CollectionFault × ℕ)}
      (is-bind : read ≡ Some name) (walks : CollectionOf schema rule words scope (i + 1) collected) where
    -- the scope of the body, where the binder's element is `f`
    bound-scope : (inner r : Scope) (setting : Setting) (tree : Schema) (bs : List Binder) (env env' : Environment) (element : Optional ℕ) (f : Option Field)
        (x : Entered rule words scope i target child read tree bs env')
        → Binds scope name element inner
        → BoundElement schema words element f
        → ScopeAt schema rule words scope setting tree env
        → environment tree (record { name = x.name; over = x.over } ∷ bs) ≡ some (record { name = x.name; element = f } ∷ env)
        → ScopeFound schema rule words inner child.word child.end target r
        → ScopeAt schema rule words r setting tree env'
    bound-scope inner r setting tree bs env env' element f x b h s e below =
        let deep = x.deep in
        let some-deep = depth-children x.c in
        let few : scope.count < 31 = omega arith in
        let at_name : part_of rule name ≡ x.name = name-is rule read name x.name is-bind x.named in
        let inner-at = scope-bound schema rule words scope name element inner f setting tree env b few h s in
        let counted = b.counted few in
        below.is setting tree (record { name = x.name; over = x.over } ∷ bs) (record { name = x.name; element = f } ∷ env) env' x.c
        (rw at_name at inner-at) e x.held (omega arith) x.found

    pub found-known : {slot : ℕ} {inner r : Scope} → collected ≡ Ok (Some slot) → Binds scope name (Some slot) inner
        → ScopeFound schema rule words inner child.word child.end target r
        → ScopeFound schema rule words scope i end target r
    unfolding environment enter extend
    found-known {slot} {inner} {r} is b below =
        record {
          is = λ setting tree bs env env' c s e w d f.
              let x = entered scope tree bs env' c w d f (quantified c w) in
              let g = rw is at (walks.leads setting tree env x.over s x.stands) in
              bound-scope inner r setting tree bs env env' (Some slot) (some g.0) x b g.2 s (known-entered tree x.name x.over bs env g.0 e g.1) below;
        }

    pub found-unknown : {inner r : Scope} → collected ≡ (Ok None) → Binds scope name None inner
        → ScopeFound schema rule words inner child.word child.end target r
        → ScopeFound schema rule words scope i end target r
    unfolding environment enter extend
    found-unknown {inner} {r} is b below =
        record {
          is = λ setting tree bs env env' c s e w d f.
              let x = entered scope tree bs env' c w d f (quantified c w) in
              let g = rw is at (walks.leads setting tree env x.over s x.stands) in
              bound-scope inner r setting tree bs env env' None none x b tt s (rw (e, g)) below;
        }

    -- a binder that walks no collection has no scope below it
    pub found_none : {fault : CollectionFault} {place : ℕ} → collected ≡ Err (fault, place) → ScopeFound schema rule words scope i end target scope
    unfolding environment enter extend
    found_none {fault} {place} is =
        record {
          is = λ setting tree bs env env' c s e w d f.
              let x = entered scope tree bs env' c w d f (quantified c w) in
              let g = rw is at (walks.leads setting tree env x.over s x.stands) in
              let nothing : environment tree (record { name = x.name; over = x.over } ∷ bs) ≡ none = rw (e, g.2) in
              let never = none-standing tree (target + 1) (child.word + 1) (record { name = x.name; over = x.over } ∷ bs) x.c nothing in
              let found = x.found in
              zero-not-one cc;
        }

  -- no quantifier is without a bind
  pub found-bad : {schema : List ℕ} {scope : Scope} → read ≡ None → ScopeFound schema rule words scope i end target scope
  found-bad {schema} {scope} is =
      record {
        is = λ setting tree bs env env' c s e w d f.
            let x = entered scope tree bs env' c w d f (quantified c w) in
            absurd (no-name rule read x.name is x.named);
      }
