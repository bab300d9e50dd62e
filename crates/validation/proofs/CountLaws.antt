-- How many checks a rule or template makes, how many of them pass, and how far their places reach.
use Rattle.std.specs.Prelude.{ℕ, ◌+◌, ◌*◌, ◌≤◌, Bool, true, false, cond, length}
use native.Mathlib.Omega.{arith}
use mathlib.Core.List.{List, [], ◌∷◌, ◌++◌, map}
use Rattle.std.proofs.Math.Option.{Option, none, some}
use Rattle.std.proofs.Math.ListN.{length-append, length-map}
use Rattle.sheet.specs.Operators.{is_instant_test, is_affix, is_observed}
use Rattle.definition.specs.Tree.{Text, Schema, Value, constant, number, string, array, object, Values, no_values, value, Pairs, no_pairs, pair, Condition, literal, many, negation, one, two, comparison, quantifier, Conditions, no_conditions, condition, Rule, rule, template}
use Rattle.definition.specs.Within.{value_entries, values_entries, pairs_entries, condition_entries, conditions_entries, rule_entries, ValueFrom, ValuesFrom, PairsFrom, ConditionFrom, ConditionsFrom, RuleFrom}
use Rattle.reference.specs.Setting.{Setting}
use Rattle.validation.specs.Check.{Binder, Question, Check, check, reference_text, reference_check, references, references_of_values, references_of_pairs, Literal, numbers, numbers_of_values, numbers_of_pairs, literals, literals_of_conditions, literal_check, entry_of, instant_operand, affix_operand, compare_side, operand, operator_check, body, bodies, literal_checks, checks}
use Rattle.validation.specs.Judge.{CheckOutcome, outcome, Verdict, all_pass, fails_at, decide, judge_from, judge}
use Rattle.validation.proofs.CheckLaws.{Every, every_append, every-if}
use Rattle.validation.proofs.WideningLaws.{passed_of}

-- What holds of every check holds of the one that fails

abbrev pub VerdictIs : (P : Check → Type 0) → Verdict → Type 0
VerdictIs P (all_pass n) = Unit {0}
VerdictIs P (fails_at n c d) = P c

every-decided : (P : Check → Type 0) (o : CheckOutcome) (n : ℕ) (c : Check) (v : Verdict) → P c → VerdictIs P v → VerdictIs P (decide o n c v)
unfolding decide
every-decided P none n c v p h = h
every-decided P (some d) n c v p h = p

pub every-judged-from : (P : Check → Type 0) (ask : Check → CheckOutcome) (n : ℕ) (cs : List Check) → Every P cs → VerdictIs P (judge_from ask n cs)
unfolding judge_from
every-judged-from P ask n [] h = tt
every-judged-from P ask n (c ∷ cs) h =
    every-decided P (ask c) n c (judge_from ask (n + 1) cs) h.0 (every-judged-from P ask (n + 1) cs h.1)

pub every-judged : (P : Check → Type 0) (setting : Setting) (s : Schema) (cs : List Check) → Every P cs → VerdictIs P (judge setting s cs)
unfolding judge
every-judged P setting s cs h = every-judged-from P (outcome setting s) 0 cs h

-- No more checks pass than there are

decides-at-most : (o : CheckOutcome) (n m : ℕ) (c : Check) (v : Verdict) → n ≤ m → passed_of v ≤ m → passed_of (decide o n c v) ≤ m
unfolding decide passed_of
decides-at-most none n m c v p h = h
decides-at-most (some d) n m c v p h = p

pub passes-at-most-from : (ask : Check → CheckOutcome) (n : ℕ) (cs : List Check) → passed_of (judge_from ask n cs) ≤ n + length cs
unfolding judge_from passed_of
passes-at-most-from ask n [] = omega arith
passes-at-most-from ask n (c ∷ cs) =
    decides-at-most (ask c) n (n + length (c ∷ cs)) c (judge_from ask (n + 1) cs) (omega arith) (omega (arith, passes-at-most-from ask (n + 1) cs))

pub passes-at-most : (setting : Setting) (s : Schema) (cs : List Check) → passed_of (judge setting s cs) ≤ length cs
unfolding judge
passes-at-most setting s cs = omega (arith, passes-at-most-from (outcome setting s) 0 cs)

-- Every entry makes at most three checks

some-entries : (v : Value) → 1 ≤ value_entries v
unfolding value_entries
some-entries (constant e type) = omega arith
some-entries (number e digits) = omega arith
some-entries (string e t) = omega arith
some-entries (array e values) = omega arith
some-entries (object e pairs) = omega arith

reference-counts : (bs : List Binder) (e : ℕ) (o : Option Text) → length (reference_check bs e o) ≤ 1
unfolding reference_check
reference-counts bs e none = omega arith
reference-counts bs e (some t) = omega arith

-- an entry is a reference, a number or neither
mutual
  unfolding references numbers value_entries

  value-counts : (bs : List Binder) (v : Value) → length (references bs v) + length (numbers v) ≤ value_entries v
  value-counts bs (constant e type) = omega arith
  value-counts bs (number e digits) = omega arith
  value-counts bs (string e t) = omega (arith, reference-counts bs e (reference_text t))
  value-counts bs (array e values) = omega (arith, values-count bs values)
  value-counts bs (object e pairs) = omega (arith, pairs-count bs pairs)

  values-count : (bs : List Binder) (vs : Values) → length (references_of_values bs vs) + length (numbers_of_values vs) ≤ values_entries vs
  values-count bs no_values = omega arith
  values-count bs (value v others) =
      simp length-append (omega (arith, value-counts bs v, values-count bs others))

  pairs-count : (bs : List Binder) (ps : Pairs) → length (references_of_pairs bs ps) + length (numbers_of_pairs ps) ≤ pairs_entries ps
  pairs-count bs no_pairs = omega arith
  pairs-count bs (pair key v others) =
      simp length-append (omega (arith, value-counts bs v, pairs-count bs others))

counts-if : {A : Type 0} (b : Bool) (xs ys : List A) (m : ℕ) → length xs ≤ m → length ys ≤ m → length (cond b xs ys) ≤ m
counts-if true xs ys m p q = p
counts-if false xs ys m p q = q

-- the checks of an operand are its references and at most one of its own
operand-counts : (op : ℕ) (bs : List Binder) (v : Value) → length (operand op bs v) ≤ length (references bs v) + 1
unfolding operand instant_operand affix_operand
operand-counts op bs v =
    counts-if (is_instant_test op) _ _ _ (rw length-append (omega arith))
    (counts-if (is_affix op) _ _ _ (rw length-append (omega arith)) (omega arith))

module _ (setting : Setting) where
  mutual
    unfolding literals body compare_side condition_entries

    condition-counts : (bs : List Binder) (c : Condition) → length (literals c) + length (body setting bs c) ≤ 3 * condition_entries c
    condition-counts bs (literal e truth) = omega arith
    condition-counts bs (many e op children) = omega (arith, conditions-count bs children)
    condition-counts bs (negation e child) = omega (arith, condition-counts bs child)
    condition-counts bs (one e op v) =
        omega (arith, value-counts bs v, counts-if (is_observed op) (numbers v) [] (length (numbers v)) (omega arith) (omega arith))
    condition-counts bs (two e op left right) =
        simp length-append
        (omega (
          arith,
          value-counts bs left,
          value-counts bs right,
          some-entries left,
          some-entries right,
          operand-counts op bs left,
          operand-counts op bs right,
          counts-if (is_observed op) (numbers left ++ numbers right) [] (length (numbers left) + length (numbers right))
              (omega (arith, length-append (numbers left) (numbers right)))
              (omega arith),
        ))
    condition-counts bs (comparison e which left right) =
        simp length-append
        (omega (arith, value-counts bs left, value-counts bs right, some-entries left, some-entries right))
    condition-counts bs (quantifier e op bind over that) =
        simp length-append
        (omega (arith, value-counts bs over, condition-counts (record { name = bind; over = over } ∷ bs) that))

    conditions-count : (bs : List Binder) (cs : Conditions) → length (literals_of_conditions cs) + length (bodies setting bs cs) ≤ 3 * conditions_entries cs
    conditions-count bs no_conditions = omega arith
    conditions-count bs (condition c others) =
        simp length-append (omega (arith, condition-counts bs c, conditions-count bs others))

  pub checks-at-most : (r : Rule) → length (checks setting r) ≤ 3 * rule_entries r + 3
  unfolding checks literal_checks rule_entries
  checks-at-most (rule name message assert) =
      simp length-append
      (omega (
        arith,
        condition-counts [] assert,
        counts-if setting.is_service (map literal_check (literals assert)) [] (length (literals assert))
            (omega (arith, length-map (literals assert) literal_check))
            (omega arith),
      ))
  checks-at-most (template v) = omega (arith, value-counts [] v)

-- Places and over places are entries of the sheet

-- the over place of a check is the `in` entry of the innermost quantifier around it
abbrev pub HeldSmall : (n : ℕ) → List Binder → Type 0
HeldSmall n [] = Unit {0}
HeldSmall n (b ∷ bs) = entry_of b.over ≤ n

pub record Small (n : ℕ) (c : Check) : Type 0 where
  pub place : c.place ≤ n
  pub held : HeldSmall n c.binders

every-literals : (P : Check → Type 0) (xs ys : List Literal)
    → Every P (map literal_check xs)
    → Every P (map literal_check ys)
    → Every P (map literal_check (xs ++ ys))
every-literals P [] ys u w = w
every-literals P (l ∷ xs) ys u w = (u.0, every-literals P xs ys u.1 w)

literals-if : (P : Check → Type 0) (b : Bool) (xs : List Literal) → Every P (map literal_check xs) → Every P (map literal_check (cond b xs []))
literals-if P true xs u = u
literals-if P false xs u = tt

module _ (m : ℕ) where
  small : (n p : ℕ) (bs : List Binder) (q : Question) → HeldSmall m bs → p ≤ m → Small m (check n p bs q)
  unfolding check
  small n p bs q held h = record { place = h; held = held }

  -- trees whose entries from n on end at m
  entry-small : (n : ℕ) (v : Value) → ValueFrom n v → n + value_entries v ≤ m + 1 → entry_of v ≤ m
  unfolding entry_of value_entries
  entry-small n (constant e type) from h = omega arith
  entry-small n (number e digits) from h = omega arith
  entry-small n (string e t) from h = omega arith
  entry-small n (array e values) from h = omega (arith, from.0)
  entry-small n (object e pairs) from h = omega (arith, from.0)

  reference-small : (bs : List Binder) (e : ℕ) (o : Option Text) → HeldSmall m bs → e ≤ m → Every (Small m) (reference_check bs e o)
  unfolding reference_check
  reference-small bs e none held h = tt
  reference-small bs e (some t) held h = (small _ _ bs _ held (omega arith), tt)

  -- the checks of references and those of numbers
  abbrev BothSmall : List Check → List Literal → Type 0
  BothSmall xs ls = Every (Small m) xs × Every (Small m) (map literal_check ls)

  both_small : (xs ys : List Check) (ls ks : List Literal) → BothSmall xs ls → BothSmall ys ks → BothSmall (xs ++ ys) (ls ++ ks)
  both_small xs ys ls ks u w = (every_append (Small m) xs ys u.0 w.0, every-literals (Small m) ls ks u.1 w.1)

  mutual
    unfolding references numbers literal_check value_entries

    value-small : (bs : List Binder) → HeldSmall m bs → (n : ℕ) (v : Value)
        → ValueFrom n v
        → n + value_entries v ≤ m + 1
        → BothSmall (references bs v) (numbers v)
    value-small bs held n (constant e type) from h = (tt, tt)
    value-small bs held n (number e digits) from h = (tt, (small _ _ [] _ tt (omega arith), tt))
    value-small bs held n (string e t) from h = (reference-small bs e (reference_text t) held (omega arith), tt)
    value-small bs held n (array e values) from h = values-small bs held (n + 1) values from.1 (omega arith)
    value-small bs held n (object e pairs) from h = pairs_small bs held (n + 1) pairs from.1 (omega arith)

    values-small : (bs : List Binder) → HeldSmall m bs → (n : ℕ) (vs : Values)
        → ValuesFrom n vs
        → n + values_entries vs ≤ m + 1
        → BothSmall (references_of_values bs vs) (numbers_of_values vs)
    values-small bs held n no_values from h = (tt, tt)
    values-small bs held n (value v others) from h =
        both_small (references bs v) (references_of_values bs others) (numbers v) (numbers_of_values others)
        (value-small bs held n v from.0 (omega arith))
        (values-small bs held (n + value_entries v) others from.1 (omega arith))

    pairs_small : (bs : List Binder) → HeldSmall m bs → (n : ℕ) (ps : Pairs)
        → PairsFrom n ps
        → n + pairs_entries ps ≤ m + 1
        → BothSmall (references_of_pairs bs ps) (numbers_of_pairs ps)
    pairs_small bs held n no_pairs from h = (tt, tt)
    pairs_small bs held n (pair key v others) from h =
        both_small (references bs v) (references_of_pairs bs others) (numbers v) (numbers_of_pairs others)
        (value-small bs held (n + 1) v from.0 (omega arith))
        (pairs_small bs held (n + 1 + value_entries v) others from.1 (omega arith))

  operand_small : (op : ℕ) (bs : List Binder) → HeldSmall m bs → (n : ℕ) (v : Value)
      → ValueFrom n v
      → n + value_entries v ≤ m + 1
      → BothSmall (operand op bs v) (numbers v)
  unfolding operand instant_operand affix_operand
  operand_small op bs held n v from h =
      (every-if (Small m) (is_instant_test op) _ _ (with-own 20 _) (every-if (Small m) (is_affix op) _ _ (with-own 19 _) inner.0), inner.1)
    where
      inner : BothSmall (references bs v) (numbers v)
      inner = value-small bs held n v from h

      with-own : (defect : ℕ) (q : Question) → Every (Small m) (references bs v ++ (check defect (entry_of v) bs q ∷ []))
      with-own defect q =
          every_append (Small m) (references bs v) _ inner.0 (small _ _ bs q held (entry-small n v from h), tt)

  side-small : (detail : ℕ) (bs : List Binder) → HeldSmall m bs → (n : ℕ) (v : Value)
      → ValueFrom n v
      → n + value_entries v ≤ m + 1
      → BothSmall (compare_side bs detail v) (numbers v)
  unfolding compare_side
  side-small detail bs held n v from h =
      let inner = value-small bs held n v from h in
      ((small _ _ bs _ held (entry-small n v from h), inner.0), inner.1)

  module _ (setting : Setting) where
    mutual
      unfolding body literals operator_check condition_entries

      condition-small : (bs : List Binder) → HeldSmall m bs → (n : ℕ) (c : Condition)
          → ConditionFrom n c
          → n + condition_entries c ≤ m + 1
          → BothSmall (body setting bs c) (literals c)
      condition-small bs held n (literal e truth) from h = ((small _ _ bs _ held (omega arith), tt), tt)
      condition-small bs held n (many e op children) from h =
          let own : e ≤ m = omega (arith, from.0) in
          let inner = conditions-small bs held (n + 1) children from.1 (omega arith) in
          ((small _ _ bs _ held own, (small _ _ bs _ held own, inner.0)), inner.1)
      condition-small bs held n (negation e child) from h =
          let inner = condition-small bs held (n + 1) child from.1 (omega arith) in
          ((small _ _ bs _ held (omega (arith, from.0)), inner.0), inner.1)
      condition-small bs held n (one e op v) from h =
          let inner = value-small bs held (n + 1) v from.1 (omega arith) in
          ((small _ _ bs _ held (omega (arith, from.0)), inner.0), literals-if (Small m) (is_observed op) (numbers v) inner.1)
      condition-small bs held n (two e op left right) from h =
          let inner = both_small (operand op bs left) (operand op bs right) (numbers left) (numbers right)
          (operand_small op bs held (n + 1) left from.1 (omega arith))
          (operand_small op bs held (n + 1 + value_entries left) right from.2 (omega arith)) in (
            (small _ _ bs _ held (omega (arith, from.0)), inner.0),
            literals-if (Small m) (is_observed op) (numbers left ++ numbers right) inner.1,
          )
      condition-small bs held n (comparison e which left right) from h =
          let inner = both_small (compare_side bs 1 left) (compare_side bs 2 right) (numbers left) (numbers right)
          (side-small 1 bs held (n + 1) left from.1 (omega arith))
          (side-small 2 bs held (n + 1 + value_entries left) right from.2 (omega arith)) in
          ((small _ _ bs _ held (omega (arith, from.0)), inner.0), inner.1)
      condition-small bs held n (quantifier e op bind over that) from h =
          let own : e ≤ m = omega (arith, from.0) in
          let inner = value-small bs held (n + 1) over from.1 (omega arith) in
          let low = entry-small (n + 1) over from.1 (omega arith) in
          let under = condition-small _ low (n + 1 + value_entries over) that from.2 (omega arith) in (
            (small _ _ bs _ held own, (small _ _ bs _ held own, every_append (Small m) (references bs over) _ inner.0 (small _ _ bs _ held own, under.0))),
            under.1,
          )

      conditions-small : (bs : List Binder) → HeldSmall m bs → (n : ℕ) (cs : Conditions)
          → ConditionsFrom n cs
          → n + conditions_entries cs ≤ m + 1
          → BothSmall (bodies setting bs cs) (literals_of_conditions cs)
      conditions-small bs held n no_conditions from h = (tt, tt)
      conditions-small bs held n (condition c others) from h =
          both_small (body setting bs c) (bodies setting bs others) (literals c) (literals_of_conditions others)
          (condition-small bs held n c from.0 (omega arith))
          (conditions-small bs held (n + condition_entries c) others from.1 (omega arith))

some-condition : (c : Condition) → 1 ≤ condition_entries c
unfolding condition_entries
some-condition (literal e truth) = omega arith
some-condition (many e op children) = omega arith
some-condition (negation e child) = omega arith
some-condition (one e op v) = omega arith
some-condition (two e op left right) = omega arith
some-condition (comparison e which left right) = omega arith
some-condition (quantifier e op bind over body) = omega arith

pub checks-small : (setting : Setting) (r : Rule) → RuleFrom 1 r → Every (Small (rule_entries r)) (checks setting r)
unfolding checks literal_checks rule_entries
checks-small setting (rule name message assert) from =
    let m = 1 + condition_entries assert in
    let inner = condition-small m setting [] tt 2 assert from (omega arith) in (
      small m _ _ [] _ tt (omega arith),
      (
        small m _ _ [] _ tt (omega arith),
        (
          small m _ _ [] _ tt (omega (arith, some-condition assert)),
          every_append (Small m) (literal_checks setting assert) (body setting [] assert)
              (every-if (Small m) setting.is_service (map literal_check (literals assert)) [] inner.1 tt)
              inner.0,
        ),
      ),
    )
checks-small setting (template v) from = (value-small (1 + value_entries v) [] tt 2 v from (omega arith)).0
