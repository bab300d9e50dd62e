-- 32 is heard only where the rule that a text is passes a limit of a sheet.
use Rattle.std.specs.Prelude.{ℕ, ◌+◌, ◌≤◌, List, ◌≡◌, refl, length}
use Rattle.std.proofs.Common.{arith, sym, ap, ap₂, subst, ◌∙◌}
use Rattle.std.proofs.Math.Option.{some, none-ne-some}
use Rattle.definition.specs.Limits.{max_sheet_bytes, max_rule_entries}
use Rattle.definition.specs.Tree.{Value, constant, number, string, array, object, Values, no_values, value, Pairs, no_pairs, pair, Condition, literal, many, negation, one, two, comparison, quantifier, Conditions, no_conditions, condition, Rule, rule, template}
use Rattle.definition.specs.Decode.{decode_rule}
use Rattle.definition.proofs.RoundTrip.{rule-round-trip}
use Rattle.definition.specs.Within.{value_entries, values_entries, pairs_entries, condition_entries, conditions_entries, ValueFrom, ValuesFrom, PairsFrom, ConditionFrom, ConditionsFrom, RuleFrom, rule_entries}
use Rattle.definition.specs.Write.{write_rule}
use Rattle.call.specs.Call.{Reply, refused_by, reply_to}
use Rattle.call.proofs.CallLaws.{not-told, refused-injective}
use Rattle.json_rule.specs.Bare.{bare_value, bare_values, bare_pairs, bare_condition, bare_conditions, bare_rule}
use Rattle.json_rule.proofs.BackLaws.{bare-rule}
use Rattle.json_rule.specs.Conversion.{Conversion, rule_in, from_json}
use Rattle.conversion.specs.Numbered.{numbered_value, numbered_values, numbered_pairs, numbered_condition, numbered_conditions, numbered_rule, KeepsLimits}
use Rattle.conversion.specs.Fares.{FromJson, no-rule, over-limit, short-of-sheet, sheet-made}
use Rattle.conversion.specs.FareLaws.{from-fares}
use Rattle.conversion.specs.FitLaws.{limits-fit}

-- The numbers are not written

mutual
  unfolding bare_value bare_values bare_pairs numbered_value numbered_values numbered_pairs

  numbered-bare : (n : ℕ) (v : Value) → bare_value (numbered_value n v) ≡ bare_value v
  numbered-bare n (constant e type) = refl
  numbered-bare n (number e digits) = refl
  numbered-bare n (string e text) = refl
  numbered-bare n (array e vs) = ap (array 0) (values-bare (n + 1) vs)
  numbered-bare n (object e ps) = ap (object 0) (pairs-bare (n + 1) ps)

  values-bare : (n : ℕ) (vs : Values) → bare_values (numbered_values n vs) ≡ bare_values vs
  values-bare n no_values = refl
  values-bare n (value v others) = ap₂ value (numbered-bare n v) (values-bare (n + value_entries v) others)

  pairs-bare : (n : ℕ) (ps : Pairs) → bare_pairs (numbered_pairs n ps) ≡ bare_pairs ps
  pairs-bare n no_pairs = refl
  pairs-bare n (pair key v others) = ap₂ (pair key) (numbered-bare (n + 1) v) (pairs-bare (n + 1 + value_entries v) others)

mutual
  unfolding bare_condition bare_conditions numbered_condition numbered_conditions

  condition-bare : (n : ℕ) (c : Condition) → bare_condition (numbered_condition n c) ≡ bare_condition c
  condition-bare n (literal e t) = refl
  condition-bare n (many e op children) = ap (many 0 op) (conditions-bare (n + 1) children)
  condition-bare n (negation e child) = ap (negation 0) (condition-bare (n + 1) child)
  condition-bare n (one e op v) = ap (one 0 op) (numbered-bare (n + 1) v)
  condition-bare n (two e op left right) = ap₂ (two 0 op) (numbered-bare (n + 1) left) (numbered-bare (n + 1 + value_entries left) right)
  condition-bare n (comparison e which left right) = ap₂ (comparison 0 which) (numbered-bare (n + 1) left) (numbered-bare (n + 1 + value_entries left) right)
  condition-bare n (quantifier e op name over body) = ap₂ (quantifier 0 op name) (numbered-bare (n + 1) over) (condition-bare (n + 1 + value_entries over) body)

  conditions-bare : (n : ℕ) (cs : Conditions) → bare_conditions (numbered_conditions n cs) ≡ bare_conditions cs
  conditions-bare n no_conditions = refl
  conditions-bare n (condition c others) = ap₂ condition (condition-bare n c) (conditions-bare (n + condition_entries c) others)

rule-bare : (r : Rule) → bare_rule (numbered_rule r) ≡ bare_rule r
unfolding bare_rule numbered_rule
rule-bare (rule name message assert) = ap (rule name message) (condition-bare 2 assert)
rule-bare (template v) = ap template (numbered-bare 2 v)

pub numbered-same : (r : Rule) → write_rule (numbered_rule r) ≡ write_rule r
numbered-same r = sym (bare-rule (numbered_rule r)) ∙ ap write_rule (rule-bare r) ∙ bare-rule r

-- The numbers are those of the entries

mutual
  unfolding value_entries values_entries pairs_entries numbered_value numbered_values numbered_pairs

  entries-same : (n : ℕ) (v : Value) → value_entries (numbered_value n v) ≡ value_entries v
  entries-same n (constant e type) = refl
  entries-same n (number e digits) = refl
  entries-same n (string e text) = refl
  entries-same n (array e vs) = rw (values_same (n + 1) vs)
  entries-same n (object e ps) = rw (pairs-same (n + 1) ps)

  values_same : (n : ℕ) (vs : Values) → values_entries (numbered_values n vs) ≡ values_entries vs
  values_same n no_values = refl
  values_same n (value v others) = rw (entries-same n v, values_same (n + value_entries v) others)

  pairs-same : (n : ℕ) (ps : Pairs) → pairs_entries (numbered_pairs n ps) ≡ pairs_entries ps
  pairs-same n no_pairs = refl
  pairs-same n (pair key v others) = rw (entries-same (n + 1) v, pairs-same (n + 1 + value_entries v) others)

mutual
  unfolding condition_entries conditions_entries numbered_condition numbered_conditions

  condition-same : (n : ℕ) (c : Condition) → condition_entries (numbered_condition n c) ≡ condition_entries c
  condition-same n (literal e t) = refl
  condition-same n (many e op children) = rw (conditions-same (n + 1) children)
  condition-same n (negation e child) = rw (condition-same (n + 1) child)
  condition-same n (one e op v) = rw (entries-same (n + 1) v)
  condition-same n (two e op left right) = rw (entries-same (n + 1) left, entries-same (n + 1 + value_entries left) right)
  condition-same n (comparison e which left right) = rw (entries-same (n + 1) left, entries-same (n + 1 + value_entries left) right)
  condition-same n (quantifier e op name over body) = rw (entries-same (n + 1) over, condition-same (n + 1 + value_entries over) body)

  conditions-same : (n : ℕ) (cs : Conditions) → conditions_entries (numbered_conditions n cs) ≡ conditions_entries cs
  conditions-same n no_conditions = refl
  conditions-same n (condition c others) = rw (condition-same n c, conditions-same (n + condition_entries c) others)

mutual
  unfolding numbered_value numbered_values numbered_pairs

  value-from : (n : ℕ) (v : Value) → ValueFrom n (numbered_value n v)
  value-from n (constant e type) = refl
  value-from n (number e digits) = refl
  value-from n (string e text) = refl
  value-from n (array e vs) = (refl, values-from (n + 1) vs)
  value-from n (object e ps) = (refl, pairs-from (n + 1) ps)

  values-from : (n : ℕ) (vs : Values) → ValuesFrom n (numbered_values n vs)
  values-from n no_values = tt
  values-from n (value v others) = (
    value-from n v,
    subst (λ (k : ℕ). ValuesFrom (n + k) (numbered_values (n + value_entries v) others)) (sym (entries-same n v)) (values-from (n + value_entries v) others),
  )

  pairs-from : (n : ℕ) (ps : Pairs) → PairsFrom n (numbered_pairs n ps)
  pairs-from n no_pairs = tt
  pairs-from n (pair key v others) = (
    value-from (n + 1) v,
    subst (λ (k : ℕ). PairsFrom (n + 1 + k) (numbered_pairs (n + 1 + value_entries v) others)) (sym (entries-same (n + 1) v)) (pairs-from (n + 1 + value_entries v) others),
  )

mutual
  unfolding numbered_condition numbered_conditions

  condition-from : (n : ℕ) (c : Condition) → ConditionFrom n (numbered_condition n c)
  condition-from n (literal e t) = refl
  condition-from n (many e op children) = (refl, conditions-from (n + 1) children)
  condition-from n (negation e child) = (refl, condition-from (n + 1) child)
  condition-from n (one e op v) = (refl, value-from (n + 1) v)
  condition-from n (two e op left right) = (
    refl,
    value-from (n + 1) left,
    subst (λ (k : ℕ). ValueFrom (n + 1 + k) (numbered_value (n + 1 + value_entries left) right)) (sym (entries-same (n + 1) left)) (value-from (n + 1 + value_entries left) right),
  )
  condition-from n (comparison e which left right) = (
    refl,
    value-from (n + 1) left,
    subst (λ (k : ℕ). ValueFrom (n + 1 + k) (numbered_value (n + 1 + value_entries left) right)) (sym (entries-same (n + 1) left)) (value-from (n + 1 + value_entries left) right),
  )
  condition-from n (quantifier e op name over body) = (
    refl,
    value-from (n + 1) over,
    subst (λ (k : ℕ). ConditionFrom (n + 1 + k) (numbered_condition (n + 1 + value_entries over) body)) (sym (entries-same (n + 1) over)) (condition-from (n + 1 + value_entries over) body),
  )

  conditions-from : (n : ℕ) (cs : Conditions) → ConditionsFrom n (numbered_conditions n cs)
  conditions-from n no_conditions = tt
  conditions-from n (condition c others) = (
    condition-from n c,
    subst (λ (k : ℕ). ConditionsFrom (n + k) (numbered_conditions (n + condition_entries c) others)) (sym (condition-same n c)) (conditions-from (n + condition_entries c) others),
  )

rule-from : (r : Rule) → RuleFrom 1 (numbered_rule r)
unfolding numbered_rule
rule-from (rule name message assert) = condition-from 2 assert
rule-from (template v) = value-from 2 v

rule-same : (r : Rule) → rule_entries (numbered_rule r) ≡ rule_entries r
unfolding rule_entries numbered_rule
rule-same (rule name message assert) = rw (condition-same 2 assert)
rule-same (template v) = rw (entries-same 2 v)

-- Limits

pub keeps-decodes : (text : List ℕ) (r : Rule) → rule_in text ≡ some r → KeepsLimits r → decode_rule (write_rule r) ≡ some (numbered_rule r)
keeps-decodes text r e h =
    (rule-round-trip (write_rule r) (numbered_rule r)).1 (
      sym (numbered-same r),
      record {
        entries = subst (λ (n : ℕ). n ≤ max_rule_entries) (sym (rule-same r)) h.entries;
        bytes = subst (λ (s : List ℕ). length s ≤ max_sheet_bytes) (sym (numbered-same r)) h.bytes;
        fits = limits-fit text r e h;
        numbers = rule-from r;
      },
    )

limit-passed : (c : Conversion) {a : Reply (List ℕ)} → FromJson c a → a ≡ refused_by 32 → (r : Rule) × (rule_in c.bytes ≡ some r) × (KeepsLimits r → ⊥)
limit-passed c (no-rule e) q = let z : ◌≡◌ {A = ℕ} 31 32 = refused-injective q in absurd (omega arith)
limit-passed c (over-limit r e d) q = (r, e, λ h. none-ne-some (numbered_rule r) (sym d ∙ keeps-decodes c.bytes r e h))
limit-passed c (short-of-sheet r t e d h) q = let z : ◌≡◌ {A = ℕ} 33 32 = refused-injective q in absurd (omega arith)
limit-passed c (sheet-made r t e d h) q = absurd (not-told (sym q))

pub only-limits : (c : Conversion) → reply_to from_json c ≡ refused_by 32 → (r : Rule) × (rule_in c.bytes ≡ some r) × (KeepsLimits r → ⊥)
only-limits c e = limit-passed c (from-fares c) e
