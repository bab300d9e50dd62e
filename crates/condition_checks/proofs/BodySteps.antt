-- The checks of a condition, step by step.
use Rattle.std.specs.Prelude.{Option as Optional, Some, None, Result, Err}
use Prim.Native.Nat.{ℕ, ◌+◌, ◌*◌, ◌-◌, ◌≤◌, ◌<◌}
use native.Mathlib.Omega.{arith}
use mathlib.Core.Bool.{Bool, true, false, cond, ◌||◌}
use mathlib.Core.List.{List, [], ◌∷◌, append-nil}
use mathlib.Core.Logic.{◌⊎◌, inl, inr, ⊎_elim}
use mathlib.Core.Option.{Option, none, some, none-ne-some, some-injective}
use mathlib.Core.Path.{◌≡◌, refl, sym, ap, subst, ◌∙◌}
use lib.ListN.{drop}
use lib.Dec.{leb, eqb}
use borrow.Author.Tests.{eq-eqb, ne_eqb, leb-true, leb-false}
use Rattle.text.specs.Parts.{part_of}
use Rattle.text.specs.ReadAt.{ReadsTo}
use Rattle.text.specs.declared.part.Part.{Part}
use Rattle.text.specs.CaseLaws.{zero-not-one}
use Rattle.sheet.specs.Operators.{is_service_operator}
use Rattle.sheet.proofs.OperatorLaws.{service-operator-range}
use Rattle.sheet.specs.Entries.{ConditionHead, literal_head, many_head, negation_head, one_head, two_head, comparison_head, quantifier_head, condition_head}
use Rattle.definition.specs.Tree.{Text, Schema, Value, string, Condition, literal, many, negation, one, two, comparison, quantifier, Conditions, no_conditions, condition}
use Rattle.definition.specs.Tree as Tree
use Rattle.reference.specs.Setting.{Setting}
use Rattle.reference.specs.Path.{cut, extend, split}
use Rattle.reference.specs.Walk.{refused}
use Rattle.reference.specs.Reference.{Environment, collection}
use Rattle.definition.specs.Within.{condition_entries, conditions_entries}
use Rattle.rule.specs.Index.{start_of, ValueAt}
use Rattle.walk.specs.Answers.{collection_detail, CollectedIs}
use Rattle.walk.specs.Dots.{is_more}
use Rattle.walk.specs.declared.answer.CollectionFault.TheVariants.{NotAString}
use Rattle.validation.specs.Check.{Binder, check, fails_if, entry_of, is_string, has_dot, operator_check, is_empty, body, bodies, depth, depth_of_conditions}
use Rattle.validation.specs.Judge.{failure, unasked, outcome}
use Rattle.rule.specs.Kinds.{OperatorAt}
use Rattle.rule.specs.Nodes.{IsCondition, AreConditions, Behind}
use Rattle.value_checks.specs.Verdicts.{number_of, failure_of, failed, going, GoesOn, PassedOn, Failed, Required}
use Rattle.scope.specs.Collections.{CollectionIs}
use Rattle.value_checks.specs.Frames.{Frame, frame, Stands, OperandsJudged}
use Rattle.condition_checks.specs.Bodies.{OperatorJudged, NonemptyJudged, EntryJudged, Leaf, LeafJudged, bind_by, BindAt, CollectionOf, BodyJudged, BodiesJudged, QuantifierJudged}
use Rattle.scope.specs.declared.binder.Scope.{Scope}
use Rattle.value_checks.specs.declared.verdict.Fault.{Fault}
use Rattle.value_checks.specs.declared.verdict.Fault.TheVariants.{Operator, Empty}
use Rattle.value_checks.specs.declared.verdict.Progress.{Progress}
use Rattle.value_checks.proofs.Going.{goes-nothing, goes_then, goes-stopped, passed_on}
use Rattle.rule.proofs.NodeSteps.{has-operator, condition-size, tail_of, first-stands, tail-stands, none_left, none-ends}
use Rattle.value_checks.proofs.LiteralSteps.{settled-outcome}
use Rattle.value_checks.proofs.OperandSteps.{asked-outcome}
use Rattle.condition_checks.proofs.OperandLaws.{operands-none, operands-one, operands-two, operands-sides}
use Rattle.walk.specs.declared.answer.CollectionFault.{CollectionFault}

-- Operators.

module _ {scope : Scope} {over : Optional ℕ} {op i : ℕ} {a r : Progress} {test : Bool} (said : test ≡ is_service_operator op) where
  operator-early : test ≡ false → PassedOn a r → OperatorJudged scope over op i a r
  unfolding operator_check fails_if unasked
  operator-early f p =
      record {
        at_most = p.at_most;
        goes =
            λ schema rule words setting tree binders env s.
            let l : is_service_operator op ≡ false = sym said ∙ f in
            p.goes (outcome setting tree) _
            (asked-outcome setting tree binders env 15 (i + 1) _ none s.bound (rw l));
      }

  pub operator-service : test ≡ true → scope.service ≡ true → PassedOn a r → OperatorJudged scope over op i a r
  unfolding operator_check fails_if unasked
  operator-service f t p =
      record {
        at_most = p.at_most;
        goes =
            λ schema rule words setting tree binders env s.
            let l : is_service_operator op ≡ true = sym said ∙ f in
            let m : setting.is_service ≡ true = sym s.scoped.set.service ∙ t in
            p.goes (outcome setting tree) _
            (asked-outcome setting tree binders env 15 (i + 1) _ none s.bound (rw (l, m)));
      }

  pub operator-fails : test ≡ true → scope.service ≡ false → Failed a Operator (i + 1) over r → OperatorJudged scope over op i a r
  unfolding operator_check fails_if check number_of failure_of unasked
  operator-fails f t p =
      record {
        at_most = omega (arith, p.same);
        goes =
            λ schema rule words setting tree binders env s.
            let l : is_service_operator op ≡ true = sym said ∙ f in
            let m : setting.is_service ≡ false = sym s.scoped.set.service ∙ t in
            p.goes (outcome setting tree) _ []
            (record { numbered = refl; placed = refl; held = s.held })
            (asked-outcome setting tree binders env 15 (i + 1) _ (some 0) s.bound (rw (l, m)));
      }

-- A condition's own entry.

module _ {over : Optional ℕ} {op i end : ℕ} {a : Progress} where
  pub nonempty-many : {r : Progress} → 1 < op → op < 4 → Required a (eqb (i + 1) end) Empty (i + 1) over r → NonemptyJudged over op i end a r
  nonempty-many low high p =
      record { at_most = p.at_most; many = λ h. p; other = λ h. absurd (⊎_elim (λ e. omega arith) (λ e. omega arith) h) }

  pub nonempty-other : (op ≤ 1) ⊎ (4 ≤ op) → NonemptyJudged over op i end a a
  nonempty-other h =
      record { at_most = omega arith; many = λ k. absurd (⊎_elim (λ e. omega arith) (λ e. omega arith) h); other = λ e. refl }

pub entry-early : {scope : Scope} {over : Optional ℕ} {op i end n : ℕ} {r : Progress} {test : Bool}
    → test ≡ is_service_operator op
    → test ≡ false
    → NonemptyJudged over op i end (going (n + 1)) r
    → EntryJudged scope over op i end (going n) r
entry-early {n = n} said f p = record { between = going (n + 1); operator = operator-early said f passed_on; nonempty = p }

pub entry-late : {scope : Scope} {over : Optional ℕ} {op i end : ℕ} {a r : Progress} {test : Bool}
    → test ≡ is_service_operator op
    → test ≡ true
    → OperatorJudged scope over op i a r
    → EntryJudged scope over op i end a r
entry-late {op = op} {r = r} said t p =
    let h : 18 ≤ op = leb-true 18 op (service-operator-range op ∙ sym said ∙ t) in
    record { between = r; operator = p; nonempty = nonempty-other (inr (omega arith)) }

-- Binds.

-- text has a dot exactly if a segment follows its first
pub dot-parts : (t : Text) → has_dot t ≡ is_more (split t).others
unfolding has_dot split cut extend
dot-parts [] = refl
dot-parts (b ∷ t) = by (eqb b 46) (dot-parts t)
  where
    by : (d : Bool) → has_dot t ≡ is_more (split t).others → (d || has_dot t) ≡ is_more (cond d (cut (split t)) (extend b (split t))).others
    by true h = refl
    by false h = h

unfoldable pub bind_in : ConditionHead → Option Text
bind_in (literal_head truth) = none
bind_in (many_head op count) = none
bind_in negation_head = none
bind_in (one_head op) = none
bind_in (two_head op) = none
bind_in (comparison_head which) = none
bind_in (quantifier_head op bind) = some bind

module _ {rule words : List ℕ} {i at : ℕ} (start : at ≡ start_of words i) where
  pub bind-bad : condition_head (drop at rule) ≡ none → BindAt rule words i None
  bind-bad e =
      record {
        is = λ op bind rest reads.
            let p : condition_head (drop (start_of words i) rule) ≡ none = rw (sym start) e in
            zero-not-one cc;
      }

  pub bind-read : {h : ConditionHead} {next : ℕ} {r : Optional Part} → ReadsTo condition_head rule at h next → bind_by rule r ≡ bind_in h → BindAt rule words i r
  unfolding bind_in
  bind-read {h} {next} {r} t same =
      record {
        is = λ op bind rest reads.
            let p : condition_head (drop (start_of words i) rule) ≡ some (h, drop next rule) = rw (sym start) t.reads in
            let q : ◌≡◌ {A = ConditionHead × List ℕ} (h, drop next rule) (quantifier_head op bind, rest) = cc in
            same ∙ ap (λ (x : ConditionHead × List ℕ). bind_in x.0) q;
      }

-- Collections.

no_text : (tree : Schema) (env : Environment) (v : Value) → is_string v ≡ false → collection tree env v ≡ refused 1 0 []
unfolding collection is_string
no_text tree env (Tree.constant e type) s = refl
no_text tree env (Tree.number e digits) s = refl
no_text tree env (string e t) s = let y : true ≡ false = s in zero-not-one cc
no_text tree env (Tree.array e values) s = refl
no_text tree env (Tree.object e pairs) s = refl

module _ {schema rule words : List ℕ} {scope : Scope} {i : ℕ} where
  pub collection-text : {text t : Text} {x : Result (Optional ℕ) (CollectionFault × ℕ)}
      → ((v : Value) → ValueAt rule words i v → v ≡ string (entry_of v) t)
      → text ≡ t
      → CollectionIs schema rule words scope text x
      → CollectionOf schema rule words scope i x
  collection-text {text} {t} {x} g same p =
      record {
        leads =
            λ setting tree env v s w.
            let q : CollectedIs schema words x (collection tree env (string (entry_of v) t)) = rw same at (p.leads setting tree env (entry_of v) s) in
            rw (g v w) q;
      }

  pub collection-other : ((v : Value) → ValueAt rule words i v → is_string v ≡ false) → CollectionOf schema rule words scope i (Err (NotAString, 0))
  unfolding collection_detail
  collection-other g = record { leads = λ setting tree env v s w. (1, [], no_text tree env v (g v w), λ h. refl) }

-- Whether a condition holds none.

pub leaf-yes : {op : ℕ} {test : Bool} → Leaf op test → test ≡ true → ((op ≤ 1) ⊎ (5 ≤ op)) × (op ≤ 19)
leaf-yes {op} l t = subst (λ (x : Bool). Leaf op x) t l

pub leaf-no : {op : ℕ} {test : Bool} → Leaf op test → test ≡ false → (2 ≤ op) × ((op ≤ 4) ⊎ (20 ≤ op))
leaf-no {op} l t = subst (λ (x : Bool). Leaf op x) t l

pub leaf-late : (op : ℕ) → 4 < op → Leaf op (leb op 19)
leaf-late op h = by (leb op 19) refl
  where
    by : (test : Bool) → leb op 19 ≡ test → Leaf op test
    by true e = (inr (omega arith), leb-true op 19 e)
    by false e = (omega arith, inr (omega (arith, leb-false op 19 e)))

-- A condition, by its operator.

pub record Inner (f : Frame) (i end left op : ℕ) (b r : Progress) : Type 0 where
  pub operands : (op ≤ 1) ⊎ (5 ≤ op) → op ≤ 19 → OperandsJudged f op (i + 1) end b r
  pub conditions : 2 ≤ op → op ≤ 4 → BodiesJudged f (i + 1) end (left - 1) b r
  pub quantifier : 20 ≤ op → (own : ℕ) (bind : Text) (rest : List ℕ)
      → condition_head (drop (start_of f.words i) f.rule) ≡ some (quantifier_head own bind, rest)
      → QuantifierJudged f bind i end (left - 1) b r

module _ {f : Frame} {i end left op : ℕ} {b : Progress} where
  inner-operands : {r : Progress} → Leaf op true → OperandsJudged f op (i + 1) end b r → Inner f i end left op b r
  inner-operands h j =
      record {
        operands = λ p q. j;
        conditions = λ p q. absurd (⊎_elim (λ e. omega arith) (λ e. omega arith) h.0);
        quantifier = λ p. absurd (omega (arith, h.1));
      }

  pub inner-conditions : {r : Progress} → Leaf op false → op ≤ 4 → BodiesJudged f (i + 1) end (left - 1) b r → Inner f i end left op b r
  inner-conditions h k j =
      record {
        operands = λ p q. absurd (⊎_elim (λ e. omega (arith, h.0)) (λ e. omega arith) p);
        conditions = λ p q. j;
        quantifier = λ p. absurd (omega arith);
      }

  pub inner-quantifier : {x : Optional Part} {p : Part} {r : Progress} → Leaf op false → 4 < op → BindAt f.rule f.words i x → x ≡ Some p
      → QuantifierJudged f (part_of f.rule p) i end (left - 1) b r
      → Inner f i end left op b r
  unfolding bind_by
  inner-quantifier {x} {p} {r} l h k e j =
      record {
        operands = λ p q. absurd (⊎_elim (λ e. omega arith) (λ e. omega arith) l.1);
        conditions = λ p q. absurd (omega arith);
        quantifier = λ q own bind rest reads.
            let s : ◌≡◌ {A = Option Text} (some (part_of f.rule p)) (some bind) = rw e at (k.is own bind rest reads) in
            rw (some-injective (part_of f.rule p) bind s) at j;
      }

  -- a quantifier that is there has a bind
  pub inner-unbound : {x : Optional Part} → Leaf op false → 4 < op → BindAt f.rule f.words i x → x ≡ None → Inner f i end left op b b
  unfolding bind_by
  inner-unbound {x} l h k e =
      record {
        operands = λ p q. absurd (⊎_elim (λ e. omega arith) (λ e. omega arith) l.1);
        conditions = λ p q. absurd (omega arith);
        quantifier = λ q own bind rest reads. absurd (none-ne-some bind (rw e at (k.is own bind rest reads)));
      }

  -- nothing is asked after the entry's own checks, where one of these failed
  pub inner-stopped : {fault : Fault} {place : ℕ} {o : Optional ℕ} → b.verdict ≡ Err (fault, place, o) → Inner f i end left op b b
  inner-stopped t =
      record {
        operands = λ p q. record { at_most = omega arith; goes = λ setting tree binders env vs s w. goes-stopped t };
        conditions = λ p q. record { at_most = omega arith; goes = λ setting tree binders env cs s w d k. goes-stopped t };
        quantifier = λ p own bind rest reads. record { at_most = omega arith; goes = λ setting tree binders env v that s w u ends d k. goes-stopped t };
      }

empty-end : (cs : Conditions) (i end : ℕ) → end ≡ i + 1 + conditions_entries cs → is_empty cs ≡ eqb (i + 1) end
unfolding is_empty conditions_entries
empty-end no_conditions i end e = sym (eq-eqb (i + 1) end (omega arith))
empty-end (condition c others) i end e = let m : 1 ≤ condition_entries c = condition-size c in sym (ne_eqb (i + 1) end (λ q. omega arith))

pub depth-some : (c : Condition) → 1 ≤ depth c
unfolding depth
depth-some (literal e truth) = omega arith
depth-some (many e op children) = omega arith
depth-some (negation e child) = omega arith
depth-some (one e op v) = omega arith
depth-some (two e op left right) = omega arith
depth-some (comparison e which left right) = omega arith
depth-some (quantifier e op bind over that) = omega arith

module _ {schema rule words : List ℕ} {scope : Scope} {over : Optional ℕ} {i end left : ℕ} {a : Progress} where
  pub body-zero : left ≡ 0 → BodyJudged (frame schema rule words scope over) i end left a a
  body-zero z =
      record {
        at_most = omega arith;
        goes = λ setting tree binders env c s w d k. absurd (omega (arith, depth-some c, d, z));
      }

pub body-stopped : {f : Frame} {i end left : ℕ} {r : Progress} {fault : Fault} {place : ℕ} {o : Optional ℕ} → r.verdict ≡ Err (fault, place, o) → BodyJudged f i end left r r
body-stopped t = record { at_most = omega arith; goes = λ setting tree binders env c s w d k. goes-stopped t }

module _ (schema rule words : List ℕ) (scope : Scope) (over : Optional ℕ) (i end left : ℕ) {at op : ℕ} {a b : Progress} (r : Progress) (some_left : left ≡ 0 → ⊥) (start : at ≡ start_of words i) (kind : OperatorAt rule at op) (entry : EntryJudged scope over op i end a b) (inner : Inner (frame schema rule words scope over) i end left op b r) where
  module _ (setting : Setting) (tree : Schema) (binders : List Binder) (env : Environment) (s : Stands (frame schema rule words scope over) setting tree binders env) where
    -- the operator's check, by the operator that the tree has
    operator-goes : (own : ℕ) → op ≡ own → GoesOn (outcome setting tree) a (operator_check setting binders (i + 1) own ∷ []) entry.between
    operator-goes own e =
        subst (λ (x : ℕ). GoesOn (outcome setting tree) a (operator_check setting binders (i + 1) x ∷ []) entry.between) e
        (entry.operator.goes schema rule words setting tree binders env s)

    -- all that is asked of an entry but `all` and `any`
    entry-goes : (own : ℕ) → op ≡ own → (op ≤ 1) ⊎ (4 ≤ op) → GoesOn (outcome setting tree) a (operator_check setting binders (i + 1) own ∷ []) b
    entry-goes own e h =
        subst (λ (x : Progress). GoesOn (outcome setting tree) a (operator_check setting binders (i + 1) own ∷ []) x) (sym (entry.nonempty.other h))
        (operator-goes own e)

    body-goes : (c : Condition) → IsCondition rule words i end c → depth c ≤ left → scope.count + left ≤ 32 → GoesOn (outcome setting tree) a (body setting binders c) r
    unfolding body depth depth_of_conditions condition_entries conditions_entries bodies number_of failure_of check
    body-goes (literal e truth) w d k =
        let p : op ≡ 1 = has-operator rule words i start kind (literal e truth) w.stands in
        rw w.stands.is_entry
        (goes_then (entry-goes 1 p (inl (omega arith)))
        (operands-none (inner.operands (inl (omega arith)) (omega arith)) setting tree binders env s w.ends))
    body-goes (many e own children) w d k =
        let p = has-operator rule words i start kind (many e own children) w.stands in
        rw w.stands.0.is_entry
        (goes_then (operator-goes own p.0)
        (goes_then
        ((entry.nonempty.many (p.1, p.2)).goes (outcome setting tree) (check 16 (i + 1) binders (fails_if (is_empty children) 0))
        (record { numbered = refl; placed = refl; held = s.held })
        (settled-outcome setting tree binders env 16 (i + 1) (is_empty children) 0 s.bound
        ∙ ap (λ (x : Bool). failed x (failure 0 0)) (empty-end children i end (omega (arith, w.ends)))))
        ((inner.conditions p.1 (omega (arith, p.2))).goes setting tree binders env children s (record { stand = w.stands.1; ends = omega (arith, w.ends) }) (omega arith) (omega arith))))
    body-goes (negation e child) w d k =
        let p : op ≡ 4 = has-operator rule words i start kind (negation e child) w.stands in
        let g = (inner.conditions (omega arith) (omega arith)).goes setting tree binders env (condition child no_conditions) s (record { stand = (w.stands.1, tt); ends = omega (arith, w.ends) }) (omega arith) (omega arith) in
        rw w.stands.0.is_entry (goes_then (entry-goes 4 p (inr (omega arith))) (rw append-nil at g))
    body-goes (one e own v) w d k =
        let p = has-operator rule words i start kind (one e own v) w.stands in
        let n = ⊎_elim (λ q. inner.operands (inr (omega arith)) (omega arith)) (λ q. inner.operands (inr (omega arith)) (omega arith)) p.1 in
        rw w.stands.0.is_entry
        (goes_then (entry-goes own p.0 (inr (⊎_elim (λ q. omega arith) (λ q. omega arith) p.1)))
        (operands-one p.1 n setting tree binders env v s (record { stands = w.stands.1; ends = omega (arith, w.ends) })))
    body-goes (two e own left right) w d k =
        let p = has-operator rule words i start kind (two e own left right) w.stands in
        let n = inner.operands (inr (omega (arith, p.1))) (omega (arith, p.2)) in
        let g : OperandsJudged (frame schema rule words scope over) own (i + 1) end b r = rw p.0 at n in
        rw w.stands.0.is_entry
        (goes_then (entry-goes own p.0 (inr (omega (arith, p.1))))
        (operands-two (omega (arith, p.0, p.2)) g setting tree binders env left right s
        (record { stands = w.stands.1; ends = refl })
        (record { stands = w.stands.2; ends = omega (arith, w.ends) })))
    body-goes (comparison e which left right) w d k =
        let p : op ≡ 18 = has-operator rule words i start kind (comparison e which left right) w.stands in
        let n = inner.operands (inr (omega arith)) (omega arith) in
        let g : OperandsJudged (frame schema rule words scope over) 18 (i + 1) end b r = rw p at n in
        rw w.stands.0.is_entry
        (goes_then (entry-goes 18 p (inr (omega arith)))
        (operands-sides g setting tree binders env left right s
        (record { stands = w.stands.1; ends = refl })
        (record { stands = w.stands.2; ends = omega (arith, w.ends) })))
    body-goes (quantifier e own bind in-value that) w d k =
        let p = has-operator rule words i start kind (quantifier e own bind in-value that) w.stands in
        let n = inner.quantifier p.1 own bind w.stands.0.rest w.stands.0.reads in
        rw w.stands.0.is_entry
        (goes_then (entry-goes own p.0 (inr (omega (arith, p.1))))
        (n.goes setting tree binders env in-value that s w.stands.1 w.stands.2 (omega (arith, w.ends)) (omega arith) (omega arith)))

  pub body-judged : r.passed ≤ a.passed + 8 * (end - i) → BodyJudged (frame schema rule words scope over) i end left a r
  body-judged most =
      record { at_most = most; goes = λ setting tree binders env c s w d k. body-goes setting tree binders env s c w d k }

module _ (schema rule words : List ℕ) (scope : Scope) (over : Optional ℕ) (i end left : ℕ) {at op : ℕ} {a : Progress} (r : Progress) (start : at ≡ start_of words i) (kind : OperatorAt rule at op) where
  -- a condition that holds none is never too deep
  pub body-leaf : Leaf op true → LeafJudged (frame schema rule words scope over) op i end a r → BodyJudged (frame schema rule words scope over) i end left a r
  body-leaf h j =
      record {
        at_most = j.at_most;
        goes =
            λ setting tree binders env c s w d k.
            body-goes schema rule words scope over i end left r (λ z. omega (arith, depth-some c, d, z)) start kind j.entry
            (inner-operands h j.operands) setting tree binders env s c w d k;
      }

-- the checks of a leaf, one after the other
pub leaf-judged : {schema rule words : List ℕ} {scope : Scope} {over : Optional ℕ} {op i end : ℕ} {a b r : Progress} → i < end
    → EntryJudged scope over op i end a b
    → OperandsJudged (frame schema rule words scope over) op (i + 1) end b r
    → LeafJudged (frame schema rule words scope over) op i end a r
leaf-judged {b = b} inside p q =
    record {
      at_most = omega (arith, p.operator.at_most, p.nonempty.at_most, q.at_most);
      between = b;
      entry = p;
      operands = q;
    }

pub leaf-stopped : {schema rule words : List ℕ} {scope : Scope} {over : Optional ℕ} {op i end : ℕ} {a r : Progress} {fault : Fault} {place : ℕ} {o : Optional ℕ} → i < end
    → EntryJudged scope over op i end a r
    → r.verdict ≡ Err (fault, place, o)
    → LeafJudged (frame schema rule words scope over) op i end a r
leaf-stopped inside p t =
    leaf-judged inside p (record { at_most = omega arith; goes = λ setting tree binders env vs s w. goes-stopped t })

-- Several conditions.

pub record BodiesLeft (f : Frame) (start i end left : ℕ) (a b : Progress) : Type 0 where
  pub at_most : b.passed ≤ a.passed + 8 * (i - start)
  pub rest : (cs : Conditions) → AreConditions f.rule f.words start end cs → Conditions
  pub stand : (cs : Conditions) (w : AreConditions f.rule f.words start end cs) → AreConditions f.rule f.words i end (rest cs w)
  pub deep : (cs : Conditions) (w : AreConditions f.rule f.words start end cs) → depth_of_conditions (rest cs w) ≤ depth_of_conditions cs
  pub onward : (setting : Setting) (tree : Schema) (binders : List Binder) (env : Environment) (cs : Conditions) (w : AreConditions f.rule f.words start end cs) (r : Progress)
      → Stands f setting tree binders env
      → depth_of_conditions cs ≤ left
      → f.scope.count + left ≤ 32
      → GoesOn (outcome setting tree) b (bodies setting binders (rest cs w)) r
      → GoesOn (outcome setting tree) a (bodies setting binders cs) r

pub bodies-begin : {f : Frame} {start end left : ℕ} {a : Progress} → BodiesLeft f start start end left a a
bodies-begin =
    record {
      at_most = omega arith;
      rest = λ cs w. cs;
      stand = λ cs w. w;
      deep = λ cs w. omega arith;
      onward = λ setting tree binders env cs w r s d k g. g;
    }

tail-deep : (cs : Conditions) → depth_of_conditions (tail_of cs) ≤ depth_of_conditions cs
unfolding tail_of depth_of_conditions
tail-deep no_conditions = omega arith
tail-deep (condition c others) = omega arith

module _ {f : Frame} {i end next left : ℕ} {b d : Progress} (inside : i < end) (k : Behind f.words i end next) (p : BodyJudged f i next left b d) where
  first_goes : (setting : Setting) (tree : Schema) (binders : List Binder) (env : Environment) (cs : Conditions) (r : Progress)
      → AreConditions f.rule f.words i end cs
      → Stands f setting tree binders env
      → depth_of_conditions cs ≤ left
      → f.scope.count + left ≤ 32
      → GoesOn (outcome setting tree) d (bodies setting binders (tail_of cs)) r
      → GoesOn (outcome setting tree) b (bodies setting binders cs) r
  unfolding tail_of bodies depth_of_conditions
  first_goes setting tree binders env no_conditions r w s m n g = absurd (omega (arith, none-ends w, inside))
  first_goes setting tree binders env (condition c others) r w s m n g =
      goes_then (p.goes setting tree binders env c s (first-stands inside k w) (omega arith) n) g

  pub bodies-next : {start : ℕ} {a : Progress} → start ≤ i → BodiesLeft f start i end left a b → BodiesLeft f start next end left a d
  bodies-next {start} {a} low l =
      record {
        at_most = omega (arith, l.at_most, p.at_most, k.past inside);
        rest = λ cs w. tail_of (l.rest cs w);
        stand = λ cs w. tail-stands inside k (l.rest cs w) (l.stand cs w);
        deep = λ cs w. omega (arith, tail-deep (l.rest cs w), l.deep cs w);
        onward =
            λ setting tree binders env cs w r s m n g.
            l.onward setting tree binders env cs w r s m n
            (first_goes setting tree binders env (l.rest cs w) r (l.stand cs w) s (omega (arith, l.deep cs w)) n g);
      }

pub bodies-stopped : {f : Frame} {start i end left : ℕ} {a b : Progress} {fault : Fault} {place : ℕ} {o : Optional ℕ} → b.verdict ≡ Err (fault, place, o) → i - start ≤ end - start → BodiesLeft f start i end left a b → BodiesJudged f start end left a b
bodies-stopped {b = b} t m l =
    record {
      at_most = omega (arith, l.at_most);
      goes = λ setting tree binders env cs s w d n. l.onward setting tree binders env cs w b s d n (goes-stopped t);
    }

pub bodies-all : {f : Frame} {start i end left : ℕ} {a b : Progress} → end ≤ i → i - start ≤ end - start → BodiesLeft f start i end left a b → BodiesJudged f start end left a b
unfolding bodies
bodies-all {f} {start} {i} {end} {left} {a} {b} h m l =
    record {
      at_most = omega (arith, l.at_most);
      goes =
          λ setting tree binders env cs s w d n.
          let e : l.rest cs w ≡ no_conditions = none_left (l.rest cs w) h (l.stand cs w) in
          l.onward setting tree binders env cs w b s d n (rw e goes-nothing);
    }
