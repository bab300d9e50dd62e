-- Laws of a rule's index: the words of other subtrees may change, and the next sibling is at the end of a subtree's first word.
use Rattle.std.specs.Prelude.{ℕ, ◌+◌, ◌%◌, ◌≤◌, ◌<◌, List, ◌≡◌, refl, get_or}
use Rattle.std.proofs.Common.{ap, ◌∙◌, arith}
use Rattle.text.specs.Reader.{Reader}
use Rattle.definition.specs.Tree.{Value, constant, number, string, array, object, Values, no_values, value, Pairs, no_pairs, pair, Condition, literal, many, negation, one, two, comparison, quantifier, Conditions, no_conditions, condition}
use Rattle.definition.specs.Limits.{word_entries}
use Rattle.definition.specs.Within.{condition_entries, conditions_entries, pairs_entries, value_entries, values_entries}
use Rattle.rule.specs.Index.{end_of, EntryAt, ValueAt, ValuesAt, PairsAt, ConditionAt, ConditionsAt}

-- the words from `a` up to `b` are the same in both
pub record Agree (words later : List ℕ) (a b : ℕ) : Type 0 where
  pub same : (j : ℕ) → a ≤ j → j < b → get_or later j 0 ≡ get_or words j 0

pub agree-within : {words later : List ℕ} {a b c d : ℕ} → Agree words later a b → a ≤ c → d ≤ b → Agree words later c d
agree-within agree p q = record { same = λ j l r. agree.same j (omega arith) (omega arith) }

pub agree_same : {words : List ℕ} {a b : ℕ} → Agree words words a b
agree_same = record { same = λ j l r. refl }

pub agree_then : {words later last : List ℕ} {a b : ℕ} → Agree words later a b → Agree later last a b → Agree words last a b
agree_then p q = record { same = λ j l r. q.same j l r ∙ p.same j l r }

pub entry_frame : {H : Type 0} {reader : Reader (List ℕ) H} {sheet words later : List ℕ} {a b i size e : ℕ} {h : H}
    → EntryAt reader sheet words i size e h
    → Agree words later a b
    → a ≤ i
    → i < b
    → EntryAt reader sheet later i size e h
entry_frame {i} at agree l r =
    let same = agree.same i l r in
    record { is_entry = at.is_entry; ends = ap (λ (w : ℕ). w % word_entries) same ∙ at.ends; rest = at.rest; reads = rw same at.reads }

module _ (sheet words later : List ℕ) where
  mutual
    unfolding value_entries values_entries pairs_entries

    pub value_frame : (v : Value) (i : ℕ) → ValueAt sheet words i v → Agree words later i (i + value_entries v) → ValueAt sheet later i v
    value_frame (constant e type) i at agree = entry_frame at agree (omega arith) (omega arith)
    value_frame (number e digits) i at agree = entry_frame at agree (omega arith) (omega arith)
    value_frame (string e t) i at agree = entry_frame at agree (omega arith) (omega arith)
    value_frame (array e vs) i at agree =
        (entry_frame at.0 agree (omega arith) (omega arith), values-frame vs (i + 1) at.1 (agree-within agree (omega arith) (omega arith)))
    value_frame (object e pairs) i at agree =
        (entry_frame at.0 agree (omega arith) (omega arith), pairs-frame pairs (i + 1) at.1 (agree-within agree (omega arith) (omega arith)))

    pub values-frame : (vs : Values) (i : ℕ) → ValuesAt sheet words i vs → Agree words later i (i + values_entries vs) → ValuesAt sheet later i vs
    values-frame no_values i at agree = tt
    values-frame (value v others) i at agree =
        (value_frame v i at.0 (agree-within agree (omega arith) (omega arith)), values-frame others (i + value_entries v) at.1 (agree-within agree (omega arith) (omega arith)))

    pub pairs-frame : (ps : Pairs) (i : ℕ) → PairsAt sheet words i ps → Agree words later i (i + pairs_entries ps) → PairsAt sheet later i ps
    pairs-frame no_pairs i at agree = tt
    pairs-frame (pair key v others) i at agree =
        (entry_frame at.0 agree (omega arith) (omega arith), value_frame v (i + 1) at.1 (agree-within agree (omega arith) (omega arith)), pairs-frame others (i + (1 + value_entries v)) at.2 (agree-within agree (omega arith) (omega arith)))

  mutual
    unfolding condition_entries conditions_entries

    pub condition-frame : (c : Condition) (i : ℕ)
        → ConditionAt sheet words i c
        → Agree words later i (i + condition_entries c)
        → ConditionAt sheet later i c
    condition-frame (literal e truth) i at agree = entry_frame at agree (omega arith) (omega arith)
    condition-frame (many e op children) i at agree =
        (entry_frame at.0 agree (omega arith) (omega arith), conditions-frame children (i + 1) at.1 (agree-within agree (omega arith) (omega arith)))
    condition-frame (negation e child) i at agree =
        (entry_frame at.0 agree (omega arith) (omega arith), condition-frame child (i + 1) at.1 (agree-within agree (omega arith) (omega arith)))
    condition-frame (one e op v) i at agree =
        (entry_frame at.0 agree (omega arith) (omega arith), value_frame v (i + 1) at.1 (agree-within agree (omega arith) (omega arith)))
    condition-frame (two e op left right) i at agree =
        (entry_frame at.0 agree (omega arith) (omega arith), value_frame left (i + 1) at.1 (agree-within agree (omega arith) (omega arith)), value_frame right (i + 1 + value_entries left) at.2 (agree-within agree (omega arith) (omega arith)))
    condition-frame (comparison e which left right) i at agree =
        (entry_frame at.0 agree (omega arith) (omega arith), value_frame left (i + 1) at.1 (agree-within agree (omega arith) (omega arith)), value_frame right (i + 1 + value_entries left) at.2 (agree-within agree (omega arith) (omega arith)))
    condition-frame (quantifier e op bind over body) i at agree =
        (entry_frame at.0 agree (omega arith) (omega arith), value_frame over (i + 1) at.1 (agree-within agree (omega arith) (omega arith)), condition-frame body (i + 1 + value_entries over) at.2 (agree-within agree (omega arith) (omega arith)))

    pub conditions-frame : (cs : Conditions) (i : ℕ)
        → ConditionsAt sheet words i cs
        → Agree words later i (i + conditions_entries cs)
        → ConditionsAt sheet later i cs
    conditions-frame no_conditions i at agree = tt
    conditions-frame (condition c others) i at agree =
        (condition-frame c i at.0 (agree-within agree (omega arith) (omega arith)), conditions-frame others (i + condition_entries c) at.1 (agree-within agree (omega arith) (omega arith)))

-- the next sibling, or the sibling of the nearest holder that has one
module _ (sheet words : List ℕ) (i : ℕ) where
  pub value-next : (v : Value) → ValueAt sheet words i v → end_of words i ≡ i + value_entries v
  unfolding value_entries
  value-next (constant e type) at = at.ends
  value-next (number e digits) at = at.ends
  value-next (string e t) at = at.ends
  value-next (array e vs) at = at.0.ends
  value-next (object e pairs) at = at.0.ends

  pub condition-next : (c : Condition) → ConditionAt sheet words i c → end_of words i ≡ i + condition_entries c
  unfolding condition_entries
  condition-next (literal e truth) at = at.ends
  condition-next (many e op children) at = at.0.ends
  condition-next (negation e child) at = at.0.ends
  condition-next (one e op v) at = at.0.ends
  condition-next (two e op left right) at = at.0.ends
  condition-next (comparison e which left right) at = at.0.ends
  condition-next (quantifier e op bind over body) at = at.0.ends
