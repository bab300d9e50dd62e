-- A sheet has at least as many bytes as its rule or template makes checks: so many bytes for each entry.
use Rattle.std.specs.Prelude.{ℕ, ◌+◌, ◌*◌, ◌≤◌, List, ◌++◌, ◌≡◌, refl, length}
use Rattle.std.proofs.Common.{arith, ap, ◌∙◌, length-append}
use Rattle.std.proofs.Math.Option.{Option, none, some}
use Rattle.text.specs.Ascii.{ascii}
use Rattle.text.specs.Numeral.{decimal_of}
use Rattle.text.specs.NumeralLaws.{decimal_of-begins}
use Rattle.sheet.specs.Entries.{ConditionHead, literal_head, many_head, negation_head, one_head, two_head, comparison_head, quantifier_head, ValueHead, constant_head, number_head, string_head, array_head, object_head}
use Rattle.sheet.specs.Write.{write_end, write_item, write_length, write_rule_head, write_last, write_operator, write_condition_head, write_type, write_value_head, write_key_head, mark_of}
use Rattle.definition.specs.Tree.{Text, Value, constant, number, string, array, object, Values, no_values, value, Pairs, no_pairs, pair, Condition, literal, many, negation, one, two, comparison, quantifier, Conditions, no_conditions, condition, Rule, rule, template, Schema}
use Rattle.definition.specs.Write.{write_value, write_values, write_pairs, write_condition, write_conditions, write_rule, count_of_values, count_of_pairs, count_of_conditions}
use Rattle.definition.specs.Decode.{decode_schema, decode_rule}
use Rattle.definition.proofs.RoundTrip.{rule-round-trip}
use Rattle.definition.specs.Within.{value_entries, values_entries, pairs_entries, condition_entries, conditions_entries, rule_entries}
use Rattle.reference.specs.Setting.{Setting}
use Rattle.validation.specs.Check.{checks}
use Rattle.validation.specs.Judge.{Verdict, all_pass, fails_at, judge}
use Rattle.validation.specs.Result.{Call, Answer, answer_of, setting_for, refusals, first_refusal, checked, judged, refused_or, result_of, numbers_of}
use Rattle.validation.proofs.WideningLaws.{passed_of}
use Rattle.validation.proofs.CountLaws.{passes-at-most, checks-at-most}

-- The heads.

item-bytes : (n : ℕ) → 2 ≤ length (write_item n)
unfolding write_item ascii
item-bytes n =
    let (d, rest, digits, _) = decimal_of-begins n in
    let size : length (decimal_of n) ≡ 1 + length rest = ap length digits ∙ omega arith in
    omega arith

last-bytes : (text : List ℕ) → 2 ≤ length (write_last text)
unfolding write_last write_end ascii
last-bytes text = simp length-append (omega arith)

-- a letter, two items and the last text
fields-bytes : (letter : List ℕ) (a b : ℕ) (text : List ℕ) → length letter ≡ 1 → 7 ≤ length (letter ++ write_item a ++ write_item b ++ write_last text)
fields-bytes letter a b text e = simp length-append (omega (arith, item-bytes a, item-bytes b, last-bytes text))

type-bytes : (type n : ℕ) (text : List ℕ) → 7 ≤ length (write_type type n text)
unfolding write_type ascii
type-bytes type n text = fields-bytes (ascii "V") type n text refl

operator-bytes : (op n : ℕ) (text : List ℕ) → 7 ≤ length (write_operator op n text)
unfolding write_operator ascii
operator-bytes op n text = fields-bytes (ascii "C") op n text refl

value-head-bytes : (h : ValueHead) → 7 ≤ length (write_value_head h)
unfolding write_value_head
value-head-bytes (constant_head type) = type-bytes type 0 _
value-head-bytes (number_head digits) = type-bytes 4 _ digits
value-head-bytes (string_head text) = type-bytes 5 _ text
value-head-bytes (array_head count) = type-bytes 6 count _
value-head-bytes (object_head count) = type-bytes 7 count _

condition-head-bytes : (h : ConditionHead) → 7 ≤ length (write_condition_head h)
unfolding write_condition_head
condition-head-bytes (literal_head truth) = operator-bytes 1 (mark_of truth) _
condition-head-bytes (many_head op count) = operator-bytes op count _
condition-head-bytes negation_head = operator-bytes 4 0 _
condition-head-bytes (one_head op) = operator-bytes op 0 _
condition-head-bytes (two_head op) = operator-bytes op 0 _
condition-head-bytes (comparison_head which) = operator-bytes 18 which _
condition-head-bytes (quantifier_head op bind) = operator-bytes op _ bind

key-head-bytes : (key : List ℕ) → 3 ≤ length (write_key_head key)
unfolding write_key_head ascii
key-head-bytes key = simp length-append (omega (arith, item-bytes (length key), last-bytes key))

length-bytes : (o : Option (List ℕ)) → 2 ≤ length (write_length o)
unfolding write_length ascii
length-bytes none = omega arith
length-bytes (some t) = item-bytes (length t)

-- The trees: three bytes an entry, and four more for a value or a condition.

mutual
  unfolding write_value value_entries

  value-bytes : (v : Value) → 3 * value_entries v + 4 ≤ length (write_value v)
  value-bytes (constant e type) = value-head-bytes (constant_head type)
  value-bytes (number e digits) = value-head-bytes (number_head digits)
  value-bytes (string e text) = value-head-bytes (string_head text)
  value-bytes (array e values) =
      simp length-append (omega (arith, value-head-bytes (array_head (count_of_values values)), values-bytes values))
  value-bytes (object e pairs) =
      simp length-append (omega (arith, value-head-bytes (object_head (count_of_pairs pairs)), pairs-bytes pairs))

  values-bytes : (vs : Values) → 3 * values_entries vs ≤ length (write_values vs)
  values-bytes no_values = omega arith
  values-bytes (value v others) = simp length-append (omega (arith, value-bytes v, values-bytes others))

  pairs-bytes : (ps : Pairs) → 3 * pairs_entries ps ≤ length (write_pairs ps)
  pairs-bytes no_pairs = omega arith
  pairs-bytes (pair key v others) =
      simp length-append (omega (arith, key-head-bytes key, value-bytes v, pairs-bytes others))

mutual
  unfolding write_condition condition_entries

  condition-bytes : (c : Condition) → 3 * condition_entries c + 4 ≤ length (write_condition c)
  condition-bytes (literal e truth) = condition-head-bytes (literal_head truth)
  condition-bytes (many e op children) =
      simp length-append (omega (arith, condition-head-bytes (many_head op (count_of_conditions children)), conditions-bytes children))
  condition-bytes (negation e child) = simp length-append (omega (arith, condition-head-bytes negation_head, condition-bytes child))
  condition-bytes (one e op v) = simp length-append (omega (arith, condition-head-bytes (one_head op), value-bytes v))
  condition-bytes (two e op left right) =
      simp length-append (omega (arith, condition-head-bytes (two_head op), value-bytes left, value-bytes right))
  condition-bytes (comparison e which left right) =
      simp length-append (omega (arith, condition-head-bytes (comparison_head which), value-bytes left, value-bytes right))
  condition-bytes (quantifier e op bind over body) =
      simp length-append (omega (arith, condition-head-bytes (quantifier_head op bind), value-bytes over, condition-bytes body))

  conditions-bytes : (cs : Conditions) → 3 * conditions_entries cs ≤ length (write_conditions cs)
  conditions-bytes no_conditions = omega arith
  conditions-bytes (condition c others) = simp length-append (omega (arith, condition-bytes c, conditions-bytes others))

-- at most three checks an entry and three for a rule
rule-bytes : (r : Rule) → 3 * rule_entries r + 3 ≤ length (write_rule r)
unfolding write_rule write_rule_head write_end ascii rule_entries
rule-bytes (rule name message assert) =
    simp length-append (omega (arith, length-bytes name, length-bytes message, condition-bytes assert))
rule-bytes (template v) = simp length-append (omega (arith, value-bytes v))

-- so a check passes no more of them than its sheet has bytes

verdict-passed : (setting : Setting) (label : Text) (r : Rule) (v : Verdict) → (numbers_of (answer_of setting label r v)).passed ≡ passed_of v
unfolding numbers_of answer_of passed_of
verdict-passed setting label r (all_pass n) = refl
verdict-passed setting label r (fails_at n c d) = refl

pub judged-passed : (setting : Setting) (label sheet : List ℕ) (s : Option Schema) (r : Option Rule) → ((x : Rule) → r ≡ some x → decode_rule sheet ≡ some x)
    → (numbers_of (judged setting label s r)).passed ≤ length sheet
unfolding numbers_of judged checked
judged-passed setting label sheet none r e = omega arith
judged-passed setting label sheet (some s) none e = omega arith
judged-passed setting label sheet (some s) (some r) e =
    let written = ap length ((rule-round-trip sheet r).0 (e r refl)).0 in
    let passed = verdict-passed setting label r (judge setting s (checks setting r)) in
    let most = passes-at-most setting s (checks setting r) in
    omega (arith, written, passed, most, checks-at-most setting r, rule-bytes r)

passed-or : (o : Option ℕ) (a : Answer) (n : ℕ) → (numbers_of a).passed ≤ n → (numbers_of (refused_or o a)).passed ≤ n
unfolding numbers_of refused_or
passed-or none a n h = h
passed-or (some m) a n h = omega arith

pub passed-bytes : (c : Call) → (numbers_of (result_of c)).passed ≤ length c.asked.rule
unfolding result_of
passed-bytes c =
    passed-or (first_refusal (refusals c)) _ _ (judged-passed (setting_for c) c.asked.label c.asked.rule (decode_schema c.schema) (decode_rule c.asked.rule) (λ x e. e))
