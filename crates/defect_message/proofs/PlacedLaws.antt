-- What a check asks about is at the word of its place: the string of a reference, the value of `in`, the quantifier of a bind.
use Prim.Native.Nat.{ℕ, ◌+◌, ◌-◌, ◌≤◌}
use native.Mathlib.Omega.{arith}
use mathlib.Core.Bool.{Bool, true, false, not, cond, ◌&&◌}
use mathlib.Core.List.{List, [], ◌∷◌, ◌++◌, map}
use mathlib.Core.Option.{Option, none, some, some-injective, none-ne-some}
use mathlib.Core.Path.{◌≡◌, refl, sym, ap, subst, ◌∙◌}
use lib.Dec.{leb, eqb}
use lib.ListN.{drop}
use borrow.Author.Tests.{eqb-true}
use Rattle.text.proofs.Bools.{and-true-0}
use Rattle.text.specs.Ascii.{ascii}
use Rattle.text.specs.CaseLaws.{by-test}
use Rattle.sheet.specs.Entries.{quantifier_head, condition_head}
use Rattle.sheet.specs.Operators.{is_instant_test, is_affix}
use Rattle.definition.specs.Tree.{Text, Value, constant, number, string, array, object, Values, no_values, value, Pairs, no_pairs, pair, Condition, literal, many, negation, one, two, comparison, quantifier, Conditions, no_conditions, condition, Rule, rule, template}
use Rattle.definition.specs.Within.{value_entries, condition_entries}
use Rattle.reference.specs.Setting.{Setting}
use Rattle.reference.specs.Reference.{begins_with_dollar}
use Rattle.rule.specs.Index.{start_of, EntryAt, ValueAt, ValuesAt, PairsAt, ConditionAt, ConditionsAt, RuleAt}
use Rattle.validation.specs.Check.{Binder, Question, settled, readable, walkable, fails_if, Check, check, reference_text, reference_check, references, references_of_values, references_of_pairs, Literal, literal_check, literals, entry_of, is_string, instant_text, instant_form, instant_operand, affix_operand, compare_side, operand, operator_check, body, bodies, literal_checks, checks}
use Rattle.validation.proofs.CheckLaws.{Every, every_append, every-if}
use Rattle.defect_message.specs.Settled.{IsSettled, QuantifierAt}

is-settled : (n : ℕ) → 11 ≤ n → n ≤ 21 → (n ≡ 18 → ⊥) → IsSettled n
is-settled n low high other = record { low = low; high = high; other = other }

module _ (sheet words : List ℕ) where
  abbrev pub PlacedBy : (number place : ℕ) → Question → Type 0
  PlacedBy n p (settled o) = IsSettled n × (n ≡ 21 → QuantifierAt sheet words (p - 1))
  PlacedBy n p (readable t) = (n ≡ 18) × (e : ℕ) × ValueAt sheet words (p - 1) (string e (ascii "$" ++ t))
  PlacedBy n p (walkable v) = (n ≡ 22) × ValueAt sheet words p v

  pub record Placed (c : Check) : Type 0 where
    pub by : PlacedBy c.number c.place c.question

  placed : (n p : ℕ) (bs : List Binder) (q : Question) → PlacedBy n p q → Placed (check n p bs q)
  unfolding check
  placed n p bs q h = record { by = h }

  fails-placed : (n p : ℕ) (b : Bool) (d : ℕ) → IsSettled n → (n ≡ 21 → QuantifierAt sheet words (p - 1)) → PlacedBy n p (fails_if b d)
  unfolding fails_if
  fails-placed n p true d k h = (k, h)
  fails-placed n p false d k h = (k, h)

  either-placed : (n p : ℕ) (b : Bool) (q r : Question) → PlacedBy n p q → PlacedBy n p r → PlacedBy n p (cond b q r)
  either-placed n p true q r h k = h
  either-placed n p false q r h k = k

  instant-placed : (p : ℕ) (v : Value) → PlacedBy 20 p (instant_form v)
  unfolding instant_form instant_text
  instant-placed p (constant e type) = (is-settled 20 (omega arith) (omega arith) (λ k. omega arith), λ h. absurd (omega arith))
  instant-placed p (number e digits) = (is-settled 20 (omega arith) (omega arith) (λ k. omega arith), λ h. absurd (omega arith))
  instant-placed p (string e t) =
      either-placed 20 p (begins_with_dollar t) _ _ (fails-placed 20 p _ 1 (is-settled 20 (omega arith) (omega arith) (λ k. omega arith)) (λ h. absurd (omega arith))) (fails-placed 20 p _ 2 (is-settled 20 (omega arith) (omega arith) (λ k. omega arith)) (λ h. absurd (omega arith)))
  instant-placed p (array e values) = (is-settled 20 (omega arith) (omega arith) (λ k. omega arith), λ h. absurd (omega arith))
  instant-placed p (object e pairs) = (is-settled 20 (omega arith) (omega arith) (λ k. omega arith), λ h. absurd (omega arith))

  -- a reference is the string behind its `$`
  reference-is : (t u : Text) → reference_text t ≡ some u → t ≡ ascii "$" ++ u
  unfolding reference_text begins_with_dollar ascii
  reference-is [] u e = absurd (none-ne-some u e)
  reference-is (a ∷ t) u e =
      by-test (eqb a 36 && not (begins_with_dollar t))
      (λ h.
      let same : t ≡ u = some-injective t u (rw h at e) in
      let dollar : a ≡ 36 = eqb-true a 36 (and-true-0 (eqb a 36) (not (begins_with_dollar t)) h) in
      rw (dollar, same))
      (λ h. absurd (none-ne-some u (rw h at e)))

  module _ (bs : List Binder) where
    reference-placed : (i e : ℕ) (t : Text) (o : Option Text) → reference_text t ≡ o → ValueAt sheet words i (string e t) → Every Placed (reference_check bs e o)
    unfolding reference_check
    reference-placed i e t none same h = tt
    reference-placed i e t (some u) same h =
        let place : e - 1 ≡ i = omega (arith, h.is_entry) in
        let text = reference-is t u same in
        (placed 18 e bs (readable u) (refl, e, subst (λ (k : ℕ). ValueAt sheet words k (string e (ascii "$" ++ u))) (sym place) (subst (λ (x : Text). ValueAt sheet words i (string e x)) text h)), tt)

    mutual
      unfolding references

      references-placed : (i : ℕ) (v : Value) → ValueAt sheet words i v → Every Placed (references bs v)
      references-placed i (constant e type) h = tt
      references-placed i (number e digits) h = tt
      references-placed i (string e t) h = reference-placed i e t (reference_text t) refl h
      references-placed i (array e values) h = values-placed (i + 1) values h.1
      references-placed i (object e pairs) h = pairs-placed (i + 1) pairs h.1

      values-placed : (i : ℕ) (vs : Values) → ValuesAt sheet words i vs → Every Placed (references_of_values bs vs)
      values-placed i no_values h = tt
      values-placed i (value v others) h =
          every_append Placed (references bs v) (references_of_values bs others) (references-placed i v h.0) (values-placed (i + value_entries v) others h.1)

      pairs-placed : (i : ℕ) (ps : Pairs) → PairsAt sheet words i ps → Every Placed (references_of_pairs bs ps)
      pairs-placed i no_pairs h = tt
      pairs-placed i (pair key v others) h =
          every_append Placed (references bs v) (references_of_pairs bs others) (references-placed (i + 1) v h.1) (pairs-placed (i + (1 + value_entries v)) others h.2)

    operand-placed : (op i : ℕ) (v : Value) → ValueAt sheet words i v → Every Placed (operand op bs v)
    unfolding operand instant_operand affix_operand
    operand-placed op i v h =
        every-if Placed (is_instant_test op) (instant_operand bs v) _
        (every_append Placed (references bs v) _ (references-placed i v h) (placed 20 (entry_of v) bs (instant_form v) (instant-placed (entry_of v) v), tt))
        (every-if Placed (is_affix op) (affix_operand bs v) _
        (every_append Placed (references bs v) _ (references-placed i v h) (placed 19 (entry_of v) bs _ (fails-placed 19 (entry_of v) (not (is_string v)) 0 (is-settled 19 (omega arith) (omega arith) (λ k. omega arith)) (λ k. absurd (omega arith))), tt))
        (references-placed i v h))

    side-placed : (d i : ℕ) (v : Value) → ValueAt sheet words i v → Every Placed (compare_side bs d v)
    unfolding compare_side
    side-placed d i v h = (placed 17 (entry_of v) bs _ (fails-placed 17 (entry_of v) _ d (is-settled 17 (omega arith) (omega arith) (λ k. omega arith)) (λ k. absurd (omega arith))), references-placed i v h)

  module _ (setting : Setting) where
    own-placed : (bs : List Binder) (e op : ℕ) → Placed (operator_check setting bs e op)
    unfolding operator_check
    own-placed bs e op = placed 15 e bs _ (fails-placed 15 e _ 0 (is-settled 15 (omega arith) (omega arith) (λ k. omega arith)) (λ k. absurd (omega arith)))

    mutual
      unfolding body bodies

      body-placed : (bs : List Binder) (i : ℕ) (c : Condition) → ConditionAt sheet words i c → Every Placed (body setting bs c)
      body-placed bs i (literal e truth) h = (own-placed bs e 1, tt)
      body-placed bs i (many e op children) h =
          (own-placed bs e op, (placed 16 e bs _ (fails-placed 16 e _ 0 (is-settled 16 (omega arith) (omega arith) (λ k. omega arith)) (λ k. absurd (omega arith))), bodies-placed bs (i + 1) children h.1))
      body-placed bs i (negation e child) h = (own-placed bs e 4, body-placed bs (i + 1) child h.1)
      body-placed bs i (one e op v) h = (own-placed bs e op, references-placed bs (i + 1) v h.1)
      body-placed bs i (two e op left right) h = (
        own-placed bs e op,
        every_append Placed (operand op bs left) (operand op bs right) (operand-placed bs op (i + 1) left h.1) (operand-placed bs op (i + 1 + value_entries left) right h.2),
      )
      body-placed bs i (comparison e which left right) h = (
        own-placed bs e 18,
        every_append Placed (compare_side bs 1 left) (compare_side bs 2 right) (side-placed bs 1 (i + 1) left h.1) (side-placed bs 2 (i + 1 + value_entries left) right h.2),
      )
      body-placed bs i (quantifier e op bind over that) h =
          let entry = h.0 in
          let place : e - 1 ≡ i = omega (arith, entry.is_entry) in
          let word : i + 1 ≡ e = omega (arith, entry.is_entry) in
          let q : QuantifierAt sheet words i = record { op = op; bind = bind; rest = entry.rest; reads = entry.reads } in (
            own-placed bs e op,
            (
              placed 21 e bs _ (fails-placed 21 e _ 0 (is-settled 21 (omega arith) (omega arith) (λ k. omega arith)) (λ k. subst (λ (n : ℕ). QuantifierAt sheet words n) (sym place) q)),
              every_append Placed (references bs over) _ (references-placed bs (i + 1) over h.1) (
                placed 22 e bs (walkable over) (refl, subst (λ (n : ℕ). ValueAt sheet words n over) word h.1),
                body-placed (record { name = bind; over = over } ∷ bs) (i + 1 + value_entries over) that h.2,
              ),
            ),
          )

      bodies-placed : (bs : List Binder) (i : ℕ) (cs : Conditions) → ConditionsAt sheet words i cs → Every Placed (bodies setting bs cs)
      bodies-placed bs i no_conditions h = tt
      bodies-placed bs i (condition c others) h =
          every_append Placed (body setting bs c) (bodies setting bs others) (body-placed bs i c h.0) (bodies-placed bs (i + condition_entries c) others h.1)

    literal-placed : (ls : List Literal) → Every Placed (map literal_check ls)
    unfolding literal_check
    literal-placed [] = tt
    literal-placed (l ∷ ls) = (placed 14 l.entry [] _ (fails-placed 14 l.entry _ 0 (is-settled 14 (omega arith) (omega arith) (λ k. omega arith)) (λ k. absurd (omega arith))), literal-placed ls)

    pub checks-placed : (r : Rule) → RuleAt sheet words r → Every Placed (checks setting r)
    unfolding checks literal_checks
    checks-placed (rule name message assert) h = (
      placed 11 1 [] _ (fails-placed 11 1 _ 0 (is-settled 11 (omega arith) (omega arith) (λ k. omega arith)) (λ k. absurd (omega arith))),
      (
        placed 12 1 [] _ (fails-placed 12 1 _ 0 (is-settled 12 (omega arith) (omega arith) (λ k. omega arith)) (λ k. absurd (omega arith))),
        (
          placed 13 2 [] _ (fails-placed 13 2 _ 0 (is-settled 13 (omega arith) (omega arith) (λ k. omega arith)) (λ k. absurd (omega arith))),
          every_append Placed (literal_checks setting assert) (body setting [] assert)
              (every-if Placed setting.is_service (map literal_check (literals assert)) [] (literal-placed (literals assert)) tt)
              (body-placed [] 1 assert h.1),
        ),
      ),
    )
    checks-placed (template v) h = references-placed [] 1 v h.1

-- only references are asked of a template

asks : (e : ℕ) (o : Option Text) → Every (λ (x : Check). x.number ≡ 18) (reference_check [] e o)
unfolding reference_check check
asks e none = tt
asks e (some t) = (refl, tt)

mutual
  unfolding references

  value-asks : (v : Value) → Every (λ (x : Check). x.number ≡ 18) (references [] v)
  value-asks (constant e type) = tt
  value-asks (number e digits) = tt
  value-asks (string e t) = asks e (reference_text t)
  value-asks (array e values) = values-ask values
  value-asks (object e pairs) = pairs-ask pairs

  values-ask : (vs : Values) → Every (λ (x : Check). x.number ≡ 18) (references_of_values [] vs)
  values-ask no_values = tt
  values-ask (value v others) = every_append (λ (x : Check). x.number ≡ 18) (references [] v) (references_of_values [] others) (value-asks v) (values-ask others)

  pairs-ask : (ps : Pairs) → Every (λ (x : Check). x.number ≡ 18) (references_of_pairs [] ps)
  pairs-ask no_pairs = tt
  pairs-ask (pair key v others) = every_append (λ (x : Check). x.number ≡ 18) (references [] v) (references_of_pairs [] others) (value-asks v) (pairs-ask others)

pub template-asks : (setting : Setting) (v : Value) → Every (λ (x : Check). x.number ≡ 18) (checks setting (template v))
unfolding checks
template-asks setting v = value-asks v
