-- Conditions and values in the index: what an operator says of the tree, a condition's children, and the first of several.
use Prim.Native.Nat.{ℕ, ◌+◌, ◌≤◌, ◌<◌}
use native.Mathlib.Omega.{arith}
use mathlib.Core.List.{List}
use mathlib.Core.Logic.{⊎_elim, ◌⊎◌, inl, inr}
use mathlib.Core.Option.{some}
use mathlib.Core.Path.{◌≡◌, refl, sym, ap, ◌∙◌}
use lib.ListN.{drop}
use Rattle.text.specs.Reader.{Reader}
use Rattle.text.specs.ReadAt.{ReadsTo}
use Rattle.sheet.specs.Entries.{ConditionHead, condition_head}
use Rattle.sheet.proofs.RuleHeadLaws.{ConditionHeadFits, condition_head-exact}
use Rattle.definition.specs.Tree.{Value, constant, number, string, array, object, Values, no_values, value, Condition, literal, many, negation, one, two, comparison, quantifier, Conditions, no_conditions, condition}
use Rattle.definition.specs.Within.{condition_entries, conditions_entries, value_entries, values_entries}
use Rattle.rule.specs.Index.{start_of, end_of, EntryAt, ConditionAt}
use Rattle.rule.specs.IndexLaws.{value-next, condition-next}
use Rattle.rule.specs.Kinds.{operator_in, OperatorAt}
use Rattle.rule.specs.Nodes.{IsValue, AreValues, IsCondition, AreConditions, Behind, children_of, ChildrenFrom}

pub same_head : {H : Type 0} {reader : Reader (List ℕ) H} {rule words : List ℕ} {i at next size e : ℕ} {h k : H}
    → at ≡ start_of words i
    → ReadsTo reader rule at h next
    → EntryAt reader rule words i size e k
    → h ≡ k
same_head {H} {reader} {rule} {words} {i} {at} {next} {size} {e} {h} {k} start r a =
    let p : reader (drop (start_of words i) rule) ≡ some (h, drop next rule) = rw (sym start) r.reads in
    let q : ◌≡◌ {A = H × List ℕ} (h, drop next rule) (k, a.rest) = cc a.reads in
    ap (λ (x : H × List ℕ). x.0) q

-- What an operator says of the condition that is there.

abbrev pub HasOperator : ℕ → Condition → Type 0
HasOperator op (literal e truth) = op ≡ 1
HasOperator op (many e own children) = (op ≡ own) × (2 ≤ op) × (op ≤ 3)
HasOperator op (negation e child) = op ≡ 4
HasOperator op (one e own v) = (op ≡ own) × ((op ≡ 5) ⊎ (op ≡ 19))
HasOperator op (two e own left right) = (op ≡ own) × (6 ≤ op) × (op ≤ 17)
HasOperator op (comparison e which left right) = op ≡ 18
HasOperator op (quantifier e own bind over body) = (op ≡ own) × (20 ≤ op) × (op ≤ 21)

module _ (rule words : List ℕ) (i : ℕ) {at op : ℕ} (start : at ≡ start_of words i) (kind : OperatorAt rule at op) where
  head-operator : {size e : ℕ} {h : ConditionHead} → EntryAt condition_head rule words i size e h → (op ≡ operator_in h) × ConditionHeadFits h
  head-operator {h = h} a =
      let k : OperatorAt rule (start_of words i) op = rw start at kind in
      (k.is h a.rest a.reads, (condition_head-exact.sound (drop (start_of words i) rule) h a.rest a.reads).1)

  pub has-operator : (c : Condition) → ConditionAt rule words i c → HasOperator op c
  unfolding operator_in
  has-operator (literal e truth) a = (head-operator a).0
  has-operator (many e own children) a = let f = head-operator a.0 in (f.0, omega (arith, f.0, f.1.0.0), omega (arith, f.0, f.1.0.1))
  has-operator (negation e child) a = (head-operator a.0).0
  has-operator (one e own v) a = let f = head-operator a.0 in (f.0, ⊎_elim (λ q. inl (f.0 ∙ q)) (λ q. inr (f.0 ∙ q)) f.1)
  has-operator (two e own left right) a = let f = head-operator a.0 in (f.0, omega (arith, f.0, f.1.0), omega (arith, f.0, f.1.1))
  has-operator (comparison e which left right) a = (head-operator a.0).0
  has-operator (quantifier e own bind over body) a =
      let f = head-operator a.0 in
      (f.0, omega (arith, f.0, f.1.0.0), omega (arith, f.0, f.1.0.1))

pub value-size : (v : Value) → 1 ≤ value_entries v
unfolding value_entries
value-size (constant e type) = omega arith
value-size (number e digits) = omega arith
value-size (string e t) = omega arith
value-size (array e values) = omega arith
value-size (object e pairs) = omega arith

pub condition-size : (c : Condition) → 1 ≤ condition_entries c
unfolding condition_entries
condition-size (literal e truth) = omega arith
condition-size (many e op children) = omega arith
condition-size (negation e child) = omega arith
condition-size (one e op v) = omega arith
condition-size (two e op left right) = omega arith
condition-size (comparison e which left right) = omega arith
condition-size (quantifier e op bind over body) = omega arith

module _ {rule words : List ℕ} {i end at op r : ℕ} (start : at ≡ start_of words i) (kind : OperatorAt rule at op) (k : ChildrenFrom words op i end r) where
  pub children-stand : (c : Condition) → IsCondition rule words i end c → AreConditions rule words r end (children_of c)
  unfolding children_of condition_entries conditions_entries
  children-stand (literal e truth) w =
      let p = has-operator rule words i start kind (literal e truth) w.stands in
      let f : r ≡ end = k.literal (omega arith) in
      record { stand = tt; ends = omega arith }
  children-stand (many e own children) w =
      let p = has-operator rule words i start kind (many e own children) w.stands in
      let f : r ≡ i + 1 = k.inner p.1 (omega (arith, p.2)) in
      record { stand = rw f w.stands.1; ends = omega (arith, w.ends) }
  children-stand (negation e child) w =
      let p = has-operator rule words i start kind (negation e child) w.stands in
      let f : r ≡ i + 1 = k.inner (omega arith) (omega arith) in
      record { stand = (rw f w.stands.1, tt); ends = omega (arith, w.ends) }
  children-stand (one e own v) w =
      let p = has-operator rule words i start kind (one e own v) w.stands in
      let f : r ≡ end = ⊎_elim (λ q. k.values (omega arith) (omega arith)) (λ q. k.values (omega arith) (omega arith)) p.1 in
      record { stand = tt; ends = omega arith }
  children-stand (two e own left right) w =
      let p = has-operator rule words i start kind (two e own left right) w.stands in
      let f : r ≡ end = k.values (omega (arith, p.1)) (omega (arith, p.2)) in
      record { stand = tt; ends = omega arith }
  children-stand (comparison e which left right) w =
      let p = has-operator rule words i start kind (comparison e which left right) w.stands in
      let f : r ≡ end = k.values (omega arith) (omega arith) in
      record { stand = tt; ends = omega arith }
  children-stand (quantifier e own bind over body) w =
      let p = has-operator rule words i start kind (quantifier e own bind over body) w.stands in
      let b : Behind words (i + 1) end r = k.body p.1 in
      let n : end_of words (i + 1) ≡ i + 1 + value_entries over = value-next rule words (i + 1) over w.stands.1 in
      let m : 1 ≤ value_entries over = value-size over in
      let f : r ≡ i + 1 + value_entries over = b.exact (omega arith) (omega (arith, w.ends)) ∙ n in
      record { stand = (rw f w.stands.2, tt); ends = omega (arith, w.ends) }

-- Several conditions, side by side.

unfoldable pub tail_of : Conditions → Conditions
tail_of no_conditions = no_conditions
tail_of (condition c others) = others

module _ {rule words : List ℕ} {i end r : ℕ} (inside : i < end) (b : Behind words i end r) where
  first-end : {c : Condition} {others : Conditions} → AreConditions rule words i end (condition c others) → r ≡ i + condition_entries c
  unfolding conditions_entries
  first-end {c} {others} w =
      let n : end_of words i ≡ i + condition_entries c = condition-next rule words i c w.stand.0 in
      let p : 1 ≤ condition_entries c = condition-size c in
      b.exact (omega arith) (omega (arith, w.ends)) ∙ n

  pub first-stands : {c : Condition} {others : Conditions} → AreConditions rule words i end (condition c others) → IsCondition rule words i r c
  first-stands w = record { stands = w.stand.0; ends = first-end w }

  pub tail-stands : (cs : Conditions) → AreConditions rule words i end cs → AreConditions rule words r end (tail_of cs)
  unfolding tail_of conditions_entries
  tail-stands no_conditions w = absurd (omega (arith, w.ends, inside))
  tail-stands (condition c others) w =
      let f : r ≡ i + condition_entries c = first-end w in
      record { stand = rw f w.stand.1; ends = omega (arith, w.ends) }

pub none_left : {rule words : List ℕ} {i end : ℕ} (cs : Conditions) → end ≤ i → AreConditions rule words i end cs → cs ≡ no_conditions
unfolding conditions_entries
none_left no_conditions h w = refl
none_left (condition c others) h w = let p : 1 ≤ condition_entries c = condition-size c in absurd (omega (arith, w.ends))

pub none-ends : {rule words : List ℕ} {i end : ℕ} → AreConditions rule words i end no_conditions → end ≤ i
unfolding conditions_entries
none-ends w = omega (arith, w.ends)

-- Several values, side by side.

unfoldable pub others_of : Values → Values
others_of no_values = no_values
others_of (value v others) = others

module _ {rule words : List ℕ} {i end r : ℕ} (inside : i < end) (b : Behind words i end r) where
  value-end : {v : Value} {others : Values} → AreValues rule words i end (value v others) → r ≡ i + value_entries v
  unfolding values_entries
  value-end {v} {others} w =
      let n : end_of words i ≡ i + value_entries v = value-next rule words i v w.stand.0 in
      let p : 1 ≤ value_entries v = value-size v in
      b.exact (omega arith) (omega (arith, w.ends)) ∙ n

  pub value-stands : {v : Value} {others : Values} → AreValues rule words i end (value v others) → IsValue rule words i r v
  value-stands w = record { stands = w.stand.0; ends = value-end w }

  pub others-stand : (vs : Values) → AreValues rule words i end vs → AreValues rule words r end (others_of vs)
  unfolding others_of values_entries
  others-stand no_values w = absurd (omega (arith, w.ends, inside))
  others-stand (value v others) w =
      let f : r ≡ i + value_entries v = value-end w in
      record { stand = rw f w.stand.1; ends = omega (arith, w.ends) }

pub no-values-left : {rule words : List ℕ} {i end : ℕ} (vs : Values) → end ≤ i → AreValues rule words i end vs → vs ≡ no_values
unfolding values_entries
no-values-left no_values h w = refl
no-values-left (value v others) h w = let p : 1 ≤ value_entries v = value-size v in absurd (omega (arith, w.ends))

pub no-values-end : {rule words : List ℕ} {i end : ℕ} → AreValues rule words i end no_values → end ≤ i
unfolding values_entries
no-values-end w = omega (arith, w.ends)
