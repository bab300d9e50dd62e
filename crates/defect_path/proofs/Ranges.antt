-- An entry that is found in a subtree has its word among those of the subtree.
use Prim.Native.Nat.{ℕ, ◌+◌, ◌≤◌, ◌<◌}
use native.Mathlib.Omega.{arith}
use mathlib.Core.Bool.{Bool, true, false, cond}
use mathlib.Core.List.{List, ◌++◌}
use mathlib.Core.Option.{Option, none, some}
use mathlib.Core.Path.{◌≡◌, refl}
use lib.Dec.{eqb}
use borrow.Author.Tests.{eqb-true}
use Rattle.text.specs.Ascii.{ascii}
use Rattle.text.specs.Reader.{or_else}
use Rattle.text.specs.CaseLaws.{zero-not-one}
use Rattle.definition.specs.Tree.{Text, Value, constant, number, string, array, object, Values, no_values, value, Pairs, no_pairs, pair, Condition, literal, many, negation, one, two, comparison, quantifier, Conditions, no_conditions, condition}
use Rattle.definition.specs.Within.{condition_entries, conditions_entries, pairs_entries, value_entries, values_entries}
use Rattle.rule.specs.Index.{ValueAt, ValuesAt, PairsAt, ConditionAt, ConditionsAt}
use Rattle.validation.specs.Check.{entry_of}
use Rattle.sheet.specs.Operators.{operator_name}
use Rattle.validation.specs.Location.{dotted, index, through, here_or, here_as, in_value, in_values, in_pairs, in_side, at_quantifier, in_condition, in_conditions}

-- `place` is the number of one of the `n` entries from word `i` on
pub record Among (place i n : ℕ) : Type 0 where
  pub low : i < place
  pub high : place ≤ i + n

-- Searches and what they find

pub none_found : {R : Type 0} {p : Text} → none ≡ some p → R
none_found e = zero-not-one cc

pub either-found : {R : Type 0} (a b : Option Text) (p : Text) → (a ≡ some p → R) → (b ≡ some p → R) → or_else a b ≡ some p → R
unfolding or_else
either-found none b p f g e = g e
either-found (some t) b p f g e = f e

pub through-found : {R : Type 0} (part : Text) (o : Option Text) (p : Text)
    → ((rest : Text) → o ≡ some rest → p ≡ part ++ rest → R)
    → through part o ≡ some p
    → R
unfolding through
through-found part none p f e = none_found e
through-found part (some t) p f e = f t refl (cc)

pub here_found : {R : Type 0} (is_here : Bool) (t : Text) (o : Option Text) (p : Text)
    → (is_here ≡ true → R)
    → (o ≡ some p → R)
    → here_as is_here t o ≡ some p
    → R
unfolding here_as
here_found true t o p f g e = f refl
here_found false t o p f g e = g e

pub here-or-found : {R : Type 0} (is_here : Bool) (o : Option Text) (p : Text) → (is_here ≡ true → R) → (o ≡ some p → R) → here_or is_here o ≡ some p → R
unfolding here_or
here-or-found true o p f g e = f refl
here-or-found false o p f g e = g e

module _ (place i n : ℕ) where
  among-here : (e : ℕ) (t : Text) (o : Option Text) (p : Text)
      → e ≡ i + 1
      → 0 < n
      → (o ≡ some p → Among place i n)
      → here_as (eqb e place) t o ≡ some p
      → Among place i n
  among-here e t o p same Some-of f h = here_found (eqb e place) t o p (λ q. let w = eqb-true e place q in omega arith) f h

  among-own : (e : ℕ) (o : Option Text) (p : Text)
      → e ≡ i + 1
      → 0 < n
      → (o ≡ some p → Among place i n)
      → here_or (eqb e place) o ≡ some p
      → Among place i n
  among-own e o p same Some-of f h = here-or-found (eqb e place) o p (λ q. let w = eqb-true e place q in omega arith) f h

module _ (sheet words : List ℕ) (place : ℕ) where
  mutual
    unfolding in_value value_entries

    pub value-among : (v : Value) (i : ℕ) (p : Text) → ValueAt sheet words i v → in_value place v ≡ some p → Among place i (value_entries v)
    value-among (constant e type) i p at h = among-own place i 1 e none p at.is_entry (omega arith) (λ z. none_found z) h
    value-among (number e digits) i p at h = among-own place i 1 e none p at.is_entry (omega arith) (λ z. none_found z) h
    value-among (string e t) i p at h = among-own place i 1 e none p at.is_entry (omega arith) (λ z. none_found z) h
    value-among (array e values) i p at h =
        among-own place i (1 + values_entries values) e (in_values place 0 values) p at.0.is_entry (omega arith)
        (λ z. let r = values-among values (i + 1) 0 p at.1 z in omega arith)
        h
    value-among (object e pairs) i p at h =
        among-own place i (1 + pairs_entries pairs) e (in_pairs place pairs) p at.0.is_entry (omega arith)
        (λ z. let r = pairs-among pairs (i + 1) p at.1 z in omega arith)
        h

    values-among : (vs : Values) (i k : ℕ) (p : Text) → ValuesAt sheet words i vs → in_values place k vs ≡ some p → Among place i (values_entries vs)
    values-among no_values i k p at h = none_found h
    values-among (value v others) i k p at h =
        either-found (through (index k) (in_value place v)) (in_values place (k + 1) others) p
        (through-found (index k) (in_value place v) p (λ q z _. let r = value-among v i q at.0 z in omega arith))
        (λ z. let r = values-among others (i + value_entries v) (k + 1) p at.1 z in omega arith)
        h

    pairs-among : (ps : Pairs) (i : ℕ) (p : Text) → PairsAt sheet words i ps → in_pairs place ps ≡ some p → Among place i (pairs_entries ps)
    pairs-among no_pairs i p at h = none_found h
    pairs-among (pair key v others) i p at h =
        either-found (through (dotted key) (in_value place v)) (in_pairs place others) p
        (through-found (dotted key) (in_value place v) p (λ q z _. let r = value-among v (i + 1) q at.1 z in omega arith))
        (λ z. let r = pairs-among others (i + (1 + value_entries v)) p at.2 z in omega arith)
        h

  value-own : (v : Value) (i : ℕ) → ValueAt sheet words i v → entry_of v ≡ i + 1
  unfolding entry_of
  value-own (constant e type) i at = at.is_entry
  value-own (number e digits) i at = at.is_entry
  value-own (string e t) i at = at.is_entry
  value-own (array e values) i at = at.0.is_entry
  value-own (object e pairs) i at = at.0.is_entry

  pub value-size : (v : Value) → 0 < value_entries v
  unfolding value_entries
  value-size (constant e type) = omega arith
  value-size (number e digits) = omega arith
  value-size (string e t) = omega arith
  value-size (array e values) = omega arith
  value-size (object e pairs) = omega arith

  pub condition-size : (c : Condition) → 0 < condition_entries c
  unfolding condition_entries
  condition-size (literal e truth) = omega arith
  condition-size (many e op children) = omega arith
  condition-size (negation e child) = omega arith
  condition-size (one e op v) = omega arith
  condition-size (two e op left right) = omega arith
  condition-size (comparison e which left right) = omega arith
  condition-size (quantifier e op bind over body) = omega arith

  side-among : (defect : ℕ) (part : Text) (v : Value) (i : ℕ) (p : Text)
      → ValueAt sheet words i v
      → in_side defect place part v ≡ some p
      → Among place i (value_entries v)
  unfolding in_side
  side-among defect part v i p at h = by-defect (eqb defect 17) h
    where
      by-defect : (b : Bool)
          → cond b (here_or (eqb (entry_of v) place) none) (through part (in_value place v)) ≡ some p
          → Among place i (value_entries v)
      by-defect true z = among-own place i (value_entries v) (entry_of v) none p (value-own v i at) (value-size v) (λ y. none_found y) z
      by-defect false z = through-found part (in_value place v) p (λ q y _. value-among v i q at y) z

  mutual
    unfolding in_condition condition_entries

    pub condition-among : (defect : ℕ) (c : Condition) (i : ℕ) (p : Text)
        → ConditionAt sheet words i c
        → in_condition defect place c ≡ some p
        → Among place i (condition_entries c)
    condition-among defect (literal e truth) i p at h = among-own place i 1 e none p at.is_entry (omega arith) (λ z. none_found z) h
    condition-among defect (many e op children) i p at h =
        among-own place i (1 + conditions_entries children) e (in_conditions defect place op 0 children) p at.0.is_entry (omega arith)
        (λ z. let r = conditions-among defect op children (i + 1) 0 p at.1 z in omega arith)
        h
    condition-among defect (negation e child) i p at h =
        among-own place i (1 + condition_entries child) e _ p at.0.is_entry (omega arith)
        (through-found (ascii ".not") (in_condition defect place child) p
        (λ q z _. let r = condition-among defect child (i + 1) q at.1 z in omega arith))
        h
    condition-among defect (one e op v) i p at h =
        among-own place i (1 + value_entries v) e _ p at.0.is_entry (omega arith)
        (through-found (dotted (operator_name op)) (in_value place v) p
        (λ q z _. let r = value-among v (i + 1) q at.1 z in omega arith))
        h
    condition-among defect (two e op left right) i p at h =
        among-own place i (1 + (value_entries left + value_entries right)) e _ p at.0.is_entry (omega arith)
        (either-found _ _ p
        (through-found (dotted (operator_name op) ++ index 0) (in_value place left) p
        (λ q z _. let r = value-among left (i + 1) q at.1 z in omega arith))
        (through-found (dotted (operator_name op) ++ index 1) (in_value place right) p
        (λ q z _. let r = value-among right (i + 1 + value_entries left) q at.2 z in omega arith)))
        h
    condition-among defect (comparison e which left right) i p at h =
        among-own place i (1 + (value_entries left + value_entries right)) e _ p at.0.is_entry (omega arith)
        (either-found _ _ p
        (λ z. let r = side-among defect (ascii ".compare.left") left (i + 1) p at.1 z in omega arith)
        (λ z. let r = side-among defect (ascii ".compare.right") right (i + 1 + value_entries left) p at.2 z in omega arith))
        h
    condition-among defect (quantifier e op bind over body) i p at h =
        among-here place i (1 + (value_entries over + condition_entries body)) e (at_quantifier defect op) _ p at.0.is_entry (omega arith)
        (either-found _ _ p
        (through-found (dotted (operator_name op) ++ ascii ".in") (in_value place over) p
        (λ q z _. let r = value-among over (i + 1) q at.1 z in omega arith))
        (through-found (dotted (operator_name op) ++ ascii ".that") (in_condition defect place body) p
        (λ q z _. let r = condition-among defect body (i + 1 + value_entries over) q at.2 z in omega arith)))
        h

    conditions-among : (defect op : ℕ) (cs : Conditions) (i k : ℕ) (p : Text)
        → ConditionsAt sheet words i cs
        → in_conditions defect place op k cs ≡ some p
        → Among place i (conditions_entries cs)
    conditions-among defect op no_conditions i k p at h = none_found h
    conditions-among defect op (condition c others) i k p at h =
        either-found _ (in_conditions defect place op (k + 1) others) p
        (through-found (dotted (operator_name op) ++ index k) (in_condition defect place c) p
        (λ q z _. let r = condition-among defect c i q at.0 z in omega arith))
        (λ z. let r = conditions-among defect op others (i + condition_entries c) (k + 1) p at.1 z in omega arith)
        h
