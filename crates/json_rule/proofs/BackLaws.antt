-- A rule as JSON stands for the rule, and its sheet has no numbers of entries.
use Rattle.std.specs.Prelude.{ℕ, zero, suc, ◌+◌, ◌-◌, ◌≤◌, ◌<◌, Bool, true, false, cond, List, [], ◌∷◌, ◌++◌, ◌⊎◌, ◌≡◌, refl, length, get_or, eqb}
use Rattle.std.proofs.lemmas.Bool.{false≢true, eqb-false, lt-leb}
use Rattle.std.proofs.Common.{inl, inr, sym, ap, ap₂, subst, ◌∙◌, arith, eqb-true, le-leb, eq-eqb, ne_eqb}
use Rattle.std.proofs.Math.Option.{Option, none, some, bind, map}
use Rattle.text.specs.Ascii.{ascii}
use Rattle.sheet.specs.Operators.{shape_of, operator_name, operator_row, row_in, operators, first_operator, row}
use Rattle.sheet.proofs.OperatorLaws.{shape_by_tests, shape-tests}
use Rattle.sheet.specs.Operators as Operators
use Rattle.text.specs.Order.{same_bytes, is_among, none_twice}
use Rattle.text.specs.Reader.{or_else}
use Rattle.text.specs.CaseLaws.{by-test}
use Rattle.json_text.specs.Distinct.{keys_of}
use Rattle.json_text.specs.Json.{Text, Json, Elements, no_elements, element, Members, no_members, member}
use Rattle.json_text.specs.Json as Json
use Rattle.definition.specs.Tree.{Value, constant, number, string, array, object, Values, no_values, value, Pairs, no_pairs, pair, Condition, literal, many, negation, one, two, comparison, quantifier, Conditions, no_conditions, condition, Rule, rule, template}
use Rattle.definition.specs.Write.{write_value, write_values, write_pairs, write_condition, write_conditions, write_rule, count_of_values, count_of_pairs, count_of_conditions}
use Rattle.definition.specs.Within.{ValueFits, ValuesFit, PairsFit, ConditionFits, ConditionsFit}
use Rattle.json_rule.specs.Shape.{value_of, values_of, pairs_of, number_of, place_in, operator_of, comparison_names, comparison_of, as_left, as_which, as_right, as_over, as_bound, as_body, first_of, comparison_from, quantifier_from, which_of, bound_of, comparison_part, quantifier_part, comparison_parts, comparison_in, quantifier_parts, listed, two_from, two_in, conditions_from, the_only, operation, condition_of, operations, children_of, conditions_of, parts_of, as_assert, as_name, as_message, optional_of, rule_part, rule_parts, rule_from, rule_of}
use Rattle.json_rule.specs.AsJson.{constant_of, comparison_name, as_json, as_elements, as_members, operating, condition_as_json, conditions_as_elements, optionally, rule_as_json}
use Rattle.json_rule.specs.Bare.{bare_value, bare_values, bare_pairs, bare_condition, bare_conditions, bare_rule}

-- The numbers are not written

bare-count : (vs : Values) → count_of_values (bare_values vs) ≡ count_of_values vs
unfolding bare_values count_of_values
bare-count no_values = refl
bare-count (value v others) = rw (bare-count others)

bare-count-pairs : (ps : Pairs) → count_of_pairs (bare_pairs ps) ≡ count_of_pairs ps
unfolding bare_pairs count_of_pairs
bare-count-pairs no_pairs = refl
bare-count-pairs (pair key v others) = rw (bare-count-pairs others)

bare-count-conditions : (cs : Conditions) → count_of_conditions (bare_conditions cs) ≡ count_of_conditions cs
unfolding bare_conditions count_of_conditions
bare-count-conditions no_conditions = refl
bare-count-conditions (condition c others) = rw (bare-count-conditions others)

mutual
  unfolding bare_value bare_values bare_pairs write_value write_values write_pairs

  bare-value : (v : Value) → write_value (bare_value v) ≡ write_value v
  bare-value (constant e type) = refl
  bare-value (number e digits) = refl
  bare-value (string e text) = refl
  bare-value (array e vs) = rw (bare-count vs, bare-values vs)
  bare-value (object e ps) = rw (bare-count-pairs ps, bare-pairs ps)

  bare-values : (vs : Values) → write_values (bare_values vs) ≡ write_values vs
  bare-values no_values = refl
  bare-values (value v others) = rw (bare-value v, bare-values others)

  bare-pairs : (ps : Pairs) → write_pairs (bare_pairs ps) ≡ write_pairs ps
  bare-pairs no_pairs = refl
  bare-pairs (pair key v others) = rw (bare-value v, bare-pairs others)

mutual
  unfolding bare_condition bare_conditions write_condition write_conditions

  bare-condition : (c : Condition) → write_condition (bare_condition c) ≡ write_condition c
  bare-condition (literal e t) = refl
  bare-condition (many e op children) = rw (bare-count-conditions children, bare-conditions children)
  bare-condition (negation e child) = rw (bare-condition child)
  bare-condition (one e op v) = rw (bare-value v)
  bare-condition (two e op left right) = rw (bare-value left, bare-value right)
  bare-condition (comparison e which left right) = rw (bare-value left, bare-value right)
  bare-condition (quantifier e op name over body) = rw (bare-value over, bare-condition body)

  bare-conditions : (cs : Conditions) → write_conditions (bare_conditions cs) ≡ write_conditions cs
  bare-conditions no_conditions = refl
  bare-conditions (condition c others) = rw (bare-condition c, bare-conditions others)

pub bare-rule : (r : Rule) → write_rule (bare_rule r) ≡ write_rule r
unfolding bare_rule write_rule
bare-rule (rule name message assert) = rw (bare-condition assert)
bare-rule (template v) = rw (bare-value v)

-- Values

constant-back : (e type : ℕ) → 1 ≤ type → type ≤ 3 → value_of (as_json (constant e type)) ≡ constant 0 type
unfolding value_of as_json constant_of
constant-back e n l h = other n l h
  where
    other : (n : ℕ) → 1 ≤ n → n ≤ 3 → value_of (cond (eqb n 1) Json.null (Json.truth (eqb n 3))) ≡ constant 0 n
    other zero l h = absurd (omega arith)
    other (suc zero) l h = refl
    other (suc (suc zero)) l h = refl
    other (suc (suc (suc zero))) l h = refl
    other (suc (suc (suc (suc n)))) l h = absurd (omega arith)

mutual
  unfolding value_of values_of pairs_of as_json as_elements as_members bare_value bare_values bare_pairs

  pub value-back : (v : Value) → ValueFits v → value_of (as_json v) ≡ bare_value v
  value-back (constant e type) h = constant-back e type h.0 h.1
  value-back (number e digits) h = refl
  value-back (string e text) h = refl
  value-back (array e vs) h = ap (array 0) (values-back vs h)
  value-back (object e ps) h = ap (object 0) (pairs-back ps h.1)

  values-back : (vs : Values) → ValuesFit vs → values_of (as_elements vs) ≡ bare_values vs
  values-back no_values h = refl
  values-back (value v others) h = ap₂ value (value-back v h.0) (values-back others h.1)

  pairs-back : (ps : Pairs) → PairsFit ps → pairs_of (as_members ps) ≡ bare_pairs ps
  pairs-back no_pairs h = refl
  pairs-back (pair key v others) h = ap₂ (pair key) (value-back v h.1) (pairs-back others h.2)

-- Names: a table is tested once, for all its numbers

unfoldable pub below : (ℕ → Bool) → ℕ → Bool
below f zero = true
below f (suc n) = cond (f n) (below f n) false

pub below_all : (f : ℕ → Bool) (n k : ℕ) → below f n ≡ true → k < n → f k ≡ true
unfolding below
below_all f zero k h l = absurd (omega arith)
below_all f (suc n) k h l = go (f n) refl h (λ g m. below_all f n k g m)
  where
    go : (x : Bool) → f n ≡ x → cond x (below f n) false ≡ true → (below f n ≡ true → k < n → f k ≡ true) → f k ≡ true
    go true e g more = by-test (eqb k n) (λ q. ap f (eqb-true k n q) ∙ e) (λ q. let other = eqb-false k n q in more g (omega arith))
    go false e g more = absurd (false≢true g)

abbrev named : ℕ → Bool
named k = eqb (operator_of (operator_name (k + 2))) (k + 2)

all_named : below named 20 ≡ true
unfolding below operator_of number_of operator_name operator_row row_in operators first_operator row same_bytes ascii
all_named = refl

operator-back : (op : ℕ) → 2 ≤ op → op ≤ 21 → operator_of (operator_name op) ≡ op
operator-back op l h =
    let same : op - 2 + 2 ≡ op = omega arith in
    let found = eqb-true (operator_of (operator_name (op - 2 + 2))) (op - 2 + 2) (below_all named 20 (op - 2) all_named (omega arith)) in
    subst (λ (k : ℕ). operator_of (operator_name k) ≡ k) same found

abbrev called : ℕ → Bool
called k = eqb (comparison_of (comparison_name (k + 1))) (k + 1)

all-called : below called 6 ≡ true
unfolding below comparison_of comparison_name comparison_names place_in same_bytes ascii
all-called = refl

comparison-name-back : (n : ℕ) → 1 ≤ n → n ≤ 6 → comparison_of (comparison_name n) ≡ n
comparison-name-back n l h =
    let same : n - 1 + 1 ≡ n = omega arith in
    let found = eqb-true (comparison_of (comparison_name (n - 1 + 1))) (n - 1 + 1) (below_all called 6 (n - 1) all-called (omega arith)) in
    subst (λ (k : ℕ). comparison_of (comparison_name k) ≡ k) same found

-- Operators with their operands

operated : (op : ℕ) (v : Json) (c : Condition) → 2 ≤ op → op ≤ 21 → operation (shape_of op) op v (condition_of v) (children_of v) (parts_of v) ≡ some c → condition_of (operating op v) ≡ some c
unfolding operating condition_of operations the_only bind
operated op v c l h e = rw (operator-back op l h, e)

pub shape-many : (op : ℕ) → 2 ≤ op → op ≤ 3 → shape_of op ≡ Operators.many
unfolding shape_by_tests
shape-many op l h = rw (shape-tests op, lt-leb op 1 (omega arith), le-leb op 3 h)

pub shape_one : (op : ℕ) → (op ≡ 5) ⊎ (op ≡ 19) → shape_of op ≡ Operators.one
unfolding shape_of
shape_one op (inl e) = ap shape_of e
shape_one op (inr e) = ap shape_of e

pub one-low : (op : ℕ) → (op ≡ 5) ⊎ (op ≡ 19) → 2 ≤ op
one-low op (inl e) = omega arith
one-low op (inr e) = omega arith

pub one-high : (op : ℕ) → (op ≡ 5) ⊎ (op ≡ 19) → op ≤ 21
one-high op (inl e) = omega arith
one-high op (inr e) = omega arith

pub shape_two : (op : ℕ) → 6 ≤ op → op ≤ 17 → shape_of op ≡ Operators.two
unfolding shape_by_tests
shape_two op l h = rw (shape-tests op, lt-leb op 1 (omega arith), lt-leb op 3 (omega arith), lt-leb op 4 (omega arith), lt-leb op 5 (omega arith), le-leb op 17 h)

pub shape-quantifier : (op : ℕ) → 20 ≤ op → op ≤ 21 → shape_of op ≡ Operators.quantifier
unfolding shape_by_tests
shape-quantifier op l h =
    rw (shape-tests op, lt-leb op 1 (omega arith), lt-leb op 3 (omega arith), lt-leb op 4 (omega arith), lt-leb op 5 (omega arith), lt-leb op 17 (omega arith), lt-leb op 18 (omega arith), lt-leb op 19 (omega arith))

-- what a shape makes of an operand, by its shape
by_shape : (op : ℕ) {sh : Operators.Shape} (v : Json) (c : Condition) → 2 ≤ op → op ≤ 21 → shape_of op ≡ sh → operation sh op v (condition_of v) (children_of v) (parts_of v) ≡ some c
    → condition_of (operating op v) ≡ some c
by_shape op v c l h e f = operated op v c l h (rw e f)

many-back : (op : ℕ) (es : Elements) (cs : Conditions) (list : List Condition) → conditions_of es ≡ some list → conditions_from list ≡ cs
    → operation Operators.many op (Json.array es) (condition_of (Json.array es)) (children_of (Json.array es)) (parts_of (Json.array es)) ≡ some (many 0 op cs)
unfolding operation children_of
many-back op es cs list e f = rw (e, f)

negation-back : (op : ℕ) (v : Json) (c : Condition) → condition_of v ≡ some c → operation Operators.negation op v (condition_of v) (children_of v) (parts_of v) ≡ some (negation 0 c)
unfolding operation
negation-back op v c e = rw e

one-back : (op : ℕ) (v : Json) (w : Value) → value_of v ≡ w → operation Operators.one op v (condition_of v) (children_of v) (parts_of v) ≡ some (one 0 op w)
unfolding operation
one-back op v w e = rw e

two_back : (op : ℕ) (v w : Json) (a b : Value) → value_of v ≡ a → value_of w ≡ b
    → two_in op (Json.array (element v (element w no_elements))) ≡ some (two 0 op a b)
unfolding two_in two_from listed
two_back op v w a b e f = rw (e, f)

comparison-back : (n : ℕ) (v w : Json) (a b : Value) → 1 ≤ n → n ≤ 6 → value_of v ≡ a → value_of w ≡ b
    → comparison_in (Json.object (member (ascii "left") v (member (ascii "op") (Json.string (comparison_name n)) (member (ascii "right") w no_members)))) ≡ some (comparison 0 n a b)
unfolding comparison_in comparison_parts comparison_part comparison_from which_of first_of as_left as_which as_right bind or_else same_bytes ascii
comparison-back n v w a b l h e f = rw (comparison-name-back n l h, ne_eqb n 0 (λ q. absurd (omega arith)), e, f)

quantifier-back : (op : ℕ) (v w : Json) (a : Value) (name : Text) (c : Condition) → value_of v ≡ a → condition_of w ≡ some c
    → bind (parts_of (Json.object (member (ascii "in") v (member (ascii "as") (Json.string name) (member (ascii "that") w no_members))))) (quantifier_from op) ≡ some (quantifier 0 op name a c)
unfolding parts_of quantifier_parts quantifier_part quantifier_from bound_of first_of as_over as_bound as_body bind or_else same_bytes ascii
quantifier-back op v w a name c e f = rw (e, f)

-- Conditions

literal-back : (t : Bool) → condition_of (Json.truth t) ≡ some (literal 0 t)
unfolding condition_of
literal-back t = refl

unfoldable list_of : Conditions → List Condition
list_of no_conditions = []
list_of (condition c others) = c ∷ list_of others

list_back : (cs : Conditions) → conditions_from (list_of cs) ≡ cs
unfolding list_of conditions_from
list_back no_conditions = refl
list_back (condition c others) = ap (condition c) (list_back others)

none_more : conditions_of no_elements ≡ some (list_of no_conditions)
unfolding conditions_of list_of
none_more = refl

one_more : (v : Json) (vs : Elements) (c : Condition) (cs : Conditions) → condition_of v ≡ some c → conditions_of vs ≡ some (list_of cs)
    → conditions_of (element v vs) ≡ some (list_of (condition c cs))
unfolding conditions_of list_of bind
one_more v vs c cs e f = rw (e, f)

two-operation : (op : ℕ) (v : Json) → operation Operators.two op v (condition_of v) (children_of v) (parts_of v) ≡ two_in op v
unfolding operation
two-operation op v = refl

comparison-operation : (op : ℕ) (v : Json) → operation Operators.comparison op v (condition_of v) (children_of v) (parts_of v) ≡ comparison_in v
unfolding operation
comparison-operation op v = refl

quantifier-operation : (op : ℕ) (v : Json) → operation Operators.quantifier op v (condition_of v) (children_of v) (parts_of v) ≡ bind (parts_of v) (quantifier_from op)
unfolding operation
quantifier-operation op v = refl

pub shape-not : shape_of 4 ≡ Operators.negation
unfolding shape_of
shape-not = refl

pub shape-compare : shape_of 18 ≡ Operators.comparison
unfolding shape_of
shape-compare = refl

mutual
  unfolding condition_as_json conditions_as_elements bare_condition bare_conditions

  pub condition-back : (c : Condition) → ConditionFits c → condition_of (condition_as_json c) ≡ some (bare_condition c)
  condition-back (literal e t) h = literal-back t
  condition-back (many e op children) h =
      by_shape op _ _ h.0.0 (omega (arith, h.0.1)) (shape-many op h.0.0 h.0.1)
      (many-back op (conditions_as_elements children) (bare_conditions children) (list_of (bare_conditions children)) (conditions-back children h.1) (list_back (bare_conditions children)))
  condition-back (negation e child) h =
      by_shape 4 _ _ (omega arith) (omega arith) shape-not (negation-back 4 (condition_as_json child) (bare_condition child) (condition-back child h))
  condition-back (one e op v) h =
      by_shape op _ _ (one-low op h.0) (one-high op h.0) (shape_one op h.0) (one-back op (as_json v) (bare_value v) (value-back v h.1.fits))
  condition-back (two e op left right) h =
      by_shape op _ _ (omega (arith, h.0.0)) (omega (arith, h.0.1)) (shape_two op h.0.0 h.0.1)
      (two-operation op _ ∙ two_back op (as_json left) (as_json right) (bare_value left) (bare_value right) (value-back left h.1.fits) (value-back right h.2.fits))
  condition-back (comparison e which left right) h =
      by_shape 18 _ _ (omega arith) (omega arith) shape-compare
      (comparison-operation 18 _
      ∙ comparison-back which (as_json left) (as_json right) (bare_value left) (bare_value right) h.0.0 h.0.1 (value-back left h.1.fits) (value-back right h.2.fits))
  condition-back (quantifier e op name over body) h =
      by_shape op _ _ (omega (arith, h.0.0)) (omega (arith, h.0.1)) (shape-quantifier op h.0.0 h.0.1)
      (quantifier-operation op _
      ∙ quantifier-back op (as_json over) (condition_as_json body) (bare_value over) name (bare_condition body) (value-back over h.2.fits) (condition-back body h.3))

  conditions-back : (cs : Conditions) → ConditionsFit cs → conditions_of (conditions_as_elements cs) ≡ some (list_of (bare_conditions cs))
  conditions-back no_conditions h = none_more
  conditions-back (condition c others) h =
      one_more (condition_as_json c) (conditions_as_elements others) (bare_condition c) (bare_conditions others) (condition-back c h.0) (conditions-back others h.1)

-- Rules

rule-members : (name message : Option Text) (v : Json) (c : Condition) → condition_of v ≡ some c
    → rule_of (Json.object (optionally (ascii "name") name (member (ascii "assert") v (optionally (ascii "message") message no_members)))) ≡ some (rule name message c)
unfolding rule_of keys_of none_twice is_among same_bytes ascii optionally rule_parts rule_part optional_of rule_from first_of as_name as_message as_assert bind or_else
rule-members none none v c e = rw e
rule-members none (some m) v c e = rw e
rule-members (some n) none v c e = rw e
rule-members (some n) (some m) v c e = rw e

-- a rule as JSON stands for that rule
pub shape-back : (name message : Option Text) (assert : Condition) → ConditionFits assert
    → bind (rule_as_json (rule name message assert)) rule_of ≡ some (bare_rule (rule name message assert))
unfolding rule_as_json bare_rule bind
shape-back name message assert h = rule-members name message (condition_as_json assert) (bare_condition assert) (condition-back assert h)
