-- The binders of each check are those that stand around its place.
use Rattle.std.specs.Prelude.{ℕ, ◌+◌, ◌≤◌, ◌<◌, Bool, true, false, not, cond, ◌||◌, ◌≡◌, refl, leb, ltb}
use Rattle.std.proofs.Common.{arith, sym, ◌∙◌, le-leb, lt-ltb, le-ltb}
use mathlib.Core.List.{List, [], ◌∷◌, ◌++◌, map}
use Rattle.std.proofs.Math.Option.{Option, none, some}
use Rattle.std.proofs.lemmas.Bool.{lt-leb}
use Rattle.sheet.specs.Operators.{is_instant_test, is_affix}
use Rattle.definition.specs.Tree.{Text, Value, constant, number, string, array, object, Values, no_values, value, Pairs, no_pairs, pair, Condition, literal, many, negation, one, two, comparison, quantifier, Conditions, no_conditions, condition, Rule, rule, template}
use Rattle.definition.specs.Within.{rule_entries, value_entries, values_entries, pairs_entries, condition_entries, conditions_entries, ValueFrom, ValuesFrom, PairsFrom, ConditionFrom, ConditionsFrom, RuleFrom}
use Rattle.reference.specs.Setting.{Setting}
use Rattle.validation.specs.Check.{Binder, Question, walkable, fails_if, Check, check, reference_text, reference_check, references, references_of_values, references_of_pairs, Literal, literals, literal_check, entry_of, is_string, is_holder, instant_form, instant_operand, affix_operand, compare_side, operand, operator_check, body, bodies, literal_checks, checks}
use Rattle.validation.proofs.CheckLaws.{Every, every_append, every-if}
use Rattle.message.specs.Standing.{standing, standing_in, standing_at}

pub every_map : (P Q : Check → Type 0) (xs : List Check) → ((c : Check) → P c → Q c) → Every P xs → Every Q xs
every_map P Q [] f h = tt
every_map P Q (c ∷ xs) f h = (f c h.0, every_map P Q xs f h.1)

-- the place is among the entries from `low` up to `high`, and the binders are those
record Stands (low high : ℕ) (around : ℕ → List Binder) (c : Check) : Type 0 where
  from : low ≤ c.place
  up_to : c.place < high
  binders : c.binders ≡ around c.place

stands : (low high : ℕ) (bs : List Binder) (n p : ℕ) (q : Question) → low ≤ p → p < high → Stands low high (λ _. bs) (check n p bs q)
unfolding check
stands low high bs n p q l h = record { from = l; up_to = h; binders = refl }

-- among more entries, where the binders around are said otherwise
wider : (low high low' high' : ℕ) (around around' : ℕ → List Binder) (xs : List Check)
    → low' ≤ low
    → high ≤ high'
    → ((p : ℕ) → low ≤ p → p < high → around p ≡ around' p)
    → Every (Stands low high around) xs
    → Every (Stands low' high' around') xs
wider low high low' high' around around' xs l h same e =
    every_map (Stands low high around) (Stands low' high' around') xs
    (λ c s.
    let f = s.from in
    let u = s.up_to in
    record { from = omega arith; up_to = omega arith; binders = s.binders ∙ same c.place f u }) e

-- Values.

value-takes : (v : Value) → 1 ≤ value_entries v
unfolding value_entries
value-takes (constant e type) = omega arith
value-takes (number e digits) = omega arith
value-takes (string e t) = omega arith
value-takes (array e values) = omega arith
value-takes (object e pairs) = omega arith

condition-takes : (c : Condition) → 1 ≤ condition_entries c
unfolding condition_entries
condition-takes (literal e truth) = omega arith
condition-takes (many e op children) = omega arith
condition-takes (negation e child) = omega arith
condition-takes (one e op v) = omega arith
condition-takes (two e op left right) = omega arith
condition-takes (comparison e which left right) = omega arith
condition-takes (quantifier e op bind over body) = omega arith

entry-from : (n : ℕ) (v : Value) → ValueFrom n v → entry_of v ≡ n
unfolding entry_of
entry-from n (constant e type) h = h
entry-from n (number e digits) h = h
entry-from n (string e t) h = h
entry-from n (array e values) h = h.0
entry-from n (object e pairs) h = h.0

module _ (bs : List Binder) where
  reference-stands : (low high e : ℕ) (o : Option Text) → low ≤ e → e < high → Every (Stands low high (λ _. bs)) (reference_check bs e o)
  unfolding reference_check
  reference-stands low high e none l h = tt
  reference-stands low high e (some t) l h = (stands low high bs 18 e _ l h, tt)

  mutual
    unfolding references value_entries

    value-stands : (n : ℕ) (v : Value) → ValueFrom n v → Every (Stands n (n + value_entries v) (λ _. bs)) (references bs v)
    value-stands n (constant e type) h = tt
    value-stands n (number e digits) h = tt
    value-stands n (string e t) h = reference-stands n (n + 1) e (reference_text t) (omega arith) (omega arith)
    value-stands n (array e values) h = wider (n + 1) (n + 1 + values_entries values) n (n + (1 + values_entries values)) (λ _. bs) (λ _. bs) (references_of_values bs values) (omega arith) (omega arith) (λ p f u. refl) (values-stand (n + 1) values h.1)
    value-stands n (object e pairs) h = wider (n + 1) (n + 1 + pairs_entries pairs) n (n + (1 + pairs_entries pairs)) (λ _. bs) (λ _. bs) (references_of_pairs bs pairs) (omega arith) (omega arith) (λ p f u. refl) (pairs-stand (n + 1) pairs h.1)

    values-stand : (n : ℕ) (vs : Values) → ValuesFrom n vs → Every (Stands n (n + values_entries vs) (λ _. bs)) (references_of_values bs vs)
    values-stand n no_values h = tt
    values-stand n (value v others) h =
        every_append (Stands n (n + (value_entries v + values_entries others)) (λ _. bs)) (references bs v) (references_of_values bs others)
        (wider n (n + value_entries v) n (n + (value_entries v + values_entries others)) (λ _. bs) (λ _. bs) (references bs v) (omega arith) (omega arith) (λ p f u. refl) (value-stands n v h.0))
        (wider (n + value_entries v) (n + value_entries v + values_entries others) n (n + (value_entries v + values_entries others)) (λ _. bs) (λ _. bs) (references_of_values bs others) (omega arith) (omega arith) (λ p f u. refl) (values-stand (n + value_entries v) others h.1))

    pairs-stand : (n : ℕ) (ps : Pairs) → PairsFrom n ps → Every (Stands n (n + pairs_entries ps) (λ _. bs)) (references_of_pairs bs ps)
    pairs-stand n no_pairs h = tt
    pairs-stand n (pair key v others) h =
        every_append (Stands n (n + (1 + (value_entries v + pairs_entries others))) (λ _. bs)) (references bs v) (references_of_pairs bs others)
        (wider (n + 1) (n + 1 + value_entries v) n (n + (1 + (value_entries v + pairs_entries others))) (λ _. bs) (λ _. bs) (references bs v) (omega arith) (omega arith) (λ p f u. refl) (value-stands (n + 1) v h.0))
        (wider (n + 1 + value_entries v) (n + 1 + value_entries v + pairs_entries others) n (n + (1 + (value_entries v + pairs_entries others))) (λ _. bs) (λ _. bs) (references_of_pairs bs others) (omega arith) (omega arith) (λ p f u. refl) (pairs-stand (n + 1 + value_entries v) others h.1))

  with-stands : (n : ℕ) (v : Value) (defect : ℕ) (q : Question) → ValueFrom n v
      → Every (Stands n (n + value_entries v) (λ _. bs)) (references bs v ++ (check defect (entry_of v) bs q ∷ []))
  with-stands n v defect q h =
      let here = entry-from n v h in
      let takes = value-takes v in
      every_append (Stands n (n + value_entries v) (λ _. bs)) (references bs v) _ (value-stands n v h)
      (stands n (n + value_entries v) bs defect (entry_of v) q (omega arith) (omega arith), tt)

  operand-stands : (op n : ℕ) (v : Value) → ValueFrom n v → Every (Stands n (n + value_entries v) (λ _. bs)) (operand op bs v)
  unfolding operand instant_operand affix_operand
  operand-stands op n v h =
      every-if (Stands n (n + value_entries v) (λ _. bs)) (is_instant_test op) (instant_operand bs v) _ (with-stands n v 20 (instant_form v) h)
      (every-if (Stands n (n + value_entries v) (λ _. bs)) (is_affix op) (affix_operand bs v) _ (with-stands n v 19 (fails_if (not (is_string v)) 0) h) (value-stands n v h))

  side-stands : (d n : ℕ) (v : Value) → ValueFrom n v → Every (Stands n (n + value_entries v) (λ _. bs)) (compare_side bs d v)
  unfolding compare_side
  side-stands d n v h =
      let here = entry-from n v h in
      let takes = value-takes v in
      (stands n (n + value_entries v) bs 17 (entry_of v) _ (omega arith) (omega arith), value-stands n v h)

-- Conditions.

mutual
  unfolding standing

  -- an entry before a condition stands in no body of it
  pub standing-before : (p n : ℕ) (bs : List Binder) (c : Condition) → p < n → standing p n bs c ≡ bs
  standing-before p n bs (literal e truth) h = refl
  standing-before p n bs (many e op children) h = standing-before-all p (n + 1) bs children (omega arith)
  standing-before p n bs (negation e child) h = standing-before p (n + 1) bs child (omega arith)
  standing-before p n bs (one e op v) h = refl
  standing-before p n bs (two e op left right) h = refl
  standing-before p n bs (comparison e which left right) h = refl
  standing-before p n bs (quantifier e op bind over body) h = rw (lt-leb (n + 1 + value_entries over) p (omega arith))

  pub standing-before-all : (p n : ℕ) (bs : List Binder) (cs : Conditions) → p < n → standing_in p n bs cs ≡ bs
  standing-before-all p n bs no_conditions h = refl
  standing-before-all p n bs (condition c others) h = rw (lt-ltb p (n + condition_entries c) (omega arith)) (standing-before p n bs c h)

-- the place is among the entries behind the sheet's head, and the binders are those around it
pub record StandsAt (r : Rule) (c : Check) : Type 0 where
  pub from : 2 ≤ c.place
  pub up_to : c.place ≤ rule_entries r
  pub binders : c.binders ≡ standing_at c.place r

module _ (setting : Setting) where
  mutual
    unfolding body bodies standing condition_entries check operator_check

    condition-stands : (n : ℕ) (bs : List Binder) (c : Condition) → ConditionFrom n c
        → Every (Stands n (n + condition_entries c) (λ p. standing p n bs c)) (body setting bs c)
    condition-stands n bs (literal e truth) h = (record { from = omega arith; up_to = omega arith; binders = refl }, tt)
    condition-stands n bs (many e op children) h =
        let here : e ≡ n = h.0 in
        let own : bs ≡ standing_in e (n + 1) bs children = sym (standing-before-all e (n + 1) bs children (omega arith)) in (
          record { from = omega arith; up_to = omega arith; binders = own },
          (
            record { from = omega arith; up_to = omega arith; binders = own },
            wider (n + 1) (n + 1 + conditions_entries children) n (n + (1 + conditions_entries children))
                (λ p. standing_in p (n + 1) bs children) (λ p. standing_in p (n + 1) bs children) (bodies setting bs children)
                (omega arith) (omega arith) (λ p f u. refl) (conditions-stand (n + 1) bs children h.1),
          ),
        )
    condition-stands n bs (negation e child) h =
        let here : e ≡ n = h.0 in (
          record { from = omega arith; up_to = omega arith; binders = sym (standing-before e (n + 1) bs child (omega arith)) },
          wider (n + 1) (n + 1 + condition_entries child) n (n + (1 + condition_entries child))
              (λ p. standing p (n + 1) bs child) (λ p. standing p (n + 1) bs child) (body setting bs child)
              (omega arith) (omega arith) (λ p f u. refl) (condition-stands (n + 1) bs child h.1),
        )
    condition-stands n bs (one e op v) h =
        let here : e ≡ n = h.0 in (
          record { from = omega arith; up_to = omega arith; binders = refl },
          wider (n + 1) (n + 1 + value_entries v) n (n + (1 + value_entries v)) (λ _. bs) (λ _. bs) (references bs v)
              (omega arith) (omega arith) (λ p f u. refl) (value-stands bs (n + 1) v h.1),
        )
    condition-stands n bs (two e op left right) h =
        let here : e ≡ n = h.0 in (
          record { from = omega arith; up_to = omega arith; binders = refl },
          every_append (Stands n (n + (1 + (value_entries left + value_entries right))) (λ _. bs)) (operand op bs left) (operand op bs right)
              (wider (n + 1) (n + 1 + value_entries left) n (n + (1 + (value_entries left + value_entries right))) (λ _. bs) (λ _. bs) (operand op bs left)
              (omega arith) (omega arith) (λ p f u. refl) (operand-stands bs op (n + 1) left h.1))
              (wider (n + 1 + value_entries left) (n + 1 + value_entries left + value_entries right) n (n + (1 + (value_entries left + value_entries right))) (λ _. bs) (λ _. bs) (operand op bs right)
              (omega arith) (omega arith) (λ p f u. refl) (operand-stands bs op (n + 1 + value_entries left) right h.2)),
        )
    condition-stands n bs (comparison e which left right) h =
        let here : e ≡ n = h.0 in (
          record { from = omega arith; up_to = omega arith; binders = refl },
          every_append (Stands n (n + (1 + (value_entries left + value_entries right))) (λ _. bs)) (compare_side bs 1 left) (compare_side bs 2 right)
              (wider (n + 1) (n + 1 + value_entries left) n (n + (1 + (value_entries left + value_entries right))) (λ _. bs) (λ _. bs) (compare_side bs 1 left)
              (omega arith) (omega arith) (λ p f u. refl) (side-stands bs 1 (n + 1) left h.1))
              (wider (n + 1 + value_entries left) (n + 1 + value_entries left + value_entries right) n (n + (1 + (value_entries left + value_entries right))) (λ _. bs) (λ _. bs) (compare_side bs 2 right)
              (omega arith) (omega arith) (λ p f u. refl) (side-stands bs 2 (n + 1 + value_entries left) right h.2)),
        )
    condition-stands n bs (quantifier e op bind over that) h =
        let here : e ≡ n = h.0 in
        let b : Binder = record { name = bind; over = over } in
        let m = n + 1 + value_entries over in
        let high = n + (1 + (value_entries over + condition_entries that)) in
        let around : ℕ → List Binder = λ p. standing p n bs (quantifier e op bind over that) in
        let outside : (p : ℕ) → p < m → bs ≡ around p = λ p l. rw (lt-leb m p l) in
        let inside : (p : ℕ) → m ≤ p → standing p m (b ∷ bs) that ≡ around p = λ p l. rw (le-leb m p l) in
        let takes = condition-takes that in (
          record { from = omega arith; up_to = omega arith; binders = outside e (omega arith) },
          (
            record { from = omega arith; up_to = omega arith; binders = outside e (omega arith) },
            every_append (Stands n high around) (references bs over) _
                (wider (n + 1) m n high (λ _. bs) around (references bs over) (omega arith) (omega arith) (λ p f u. outside p u) (value-stands bs (n + 1) over h.1)) (
                  record { from = omega arith; up_to = omega arith; binders = outside e (omega arith) },
                  wider m (m + condition_entries that) n high (λ p. standing p m (b ∷ bs) that) around (body setting (b ∷ bs) that)
                      (omega arith) (omega arith) (λ p f u. inside p f) (condition-stands m (b ∷ bs) that h.2),
                ),
          ),
        )

    conditions-stand : (n : ℕ) (bs : List Binder) (cs : Conditions) → ConditionsFrom n cs
        → Every (Stands n (n + conditions_entries cs) (λ p. standing_in p n bs cs)) (bodies setting bs cs)
    conditions-stand n bs no_conditions h = tt
    conditions-stand n bs (condition c others) h =
        let m = n + condition_entries c in
        let high = n + (condition_entries c + conditions_entries others) in
        let around : ℕ → List Binder = λ p. standing_in p n bs (condition c others) in
        every_append (Stands n high around) (body setting bs c) (bodies setting bs others)
        (wider n m n high (λ p. standing p n bs c) around (body setting bs c) (omega arith) (omega arith)
        (λ p f u. rw (lt-ltb p m u)) (condition-stands n bs c h.0))
        (wider m (m + conditions_entries others) n high (λ p. standing_in p m bs others) around (bodies setting bs others) (omega arith) (omega arith)
        (λ p f u. rw (le-ltb p m f)) (conditions-stand m bs others h.1))

  -- the literal pass, and what is asked before it, stands under no binder
  abbrev pub BindersStand : Rule → Check → Type 0
  BindersStand r c = 15 ≤ c.number → StandsAt r c

  literals-stand : (r : Rule) (ls : List Literal) → Every (BindersStand r) (map literal_check ls)
  unfolding literal_check check
  literals-stand r [] = tt
  literals-stand r (l ∷ ls) = ((λ h. absurd (omega arith)), literals-stand r ls)

  pub checks-stand : (r : Rule) → RuleFrom 1 r → Every (BindersStand r) (checks setting r)
  unfolding checks literal_checks standing_at check rule_entries
  checks-stand (rule name message assert) h =
      let r = rule name message assert in (
        (λ k. absurd (omega arith)),
        (
          (λ k. absurd (omega arith)),
          (
            (λ k. absurd (omega arith)),
            every_append (BindersStand r) (literal_checks setting assert) (body setting [] assert)
                (every-if (BindersStand r) setting.is_service (map literal_check (literals assert)) [] (literals-stand r (literals assert)) tt)
                (every_map (Stands 2 (2 + condition_entries assert) (λ p. standing p 2 [] assert)) (BindersStand r) (body setting [] assert)
                (λ c s k. record { from = s.from; up_to = omega (arith, s.up_to); binders = s.binders }) (condition-stands 2 [] assert h)),
          ),
        ),
      )
  checks-stand (template v) h =
      every_map (Stands 2 (2 + value_entries v) (λ _. [])) (BindersStand (template v)) (references [] v) (λ c s k. record { from = s.from; up_to = omega (arith, s.up_to); binders = s.binders }) (value-stands [] 2 v h)
