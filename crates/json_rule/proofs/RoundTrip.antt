-- A rule that is written as JSON is read back: its tree is sound, and does not nest too deep.
use Rattle.std.specs.Prelude.{ℕ, zero, suc, ◌+◌, ◌-◌, ◌*◌, ◌≤◌, ◌<◌, max, Bool, true, false, cond, List, [], ◌∷◌, ◌⊎◌, ◌≡◌, refl, eqb}
use Rattle.std.proofs.Common.{inl, inr, sym, ap, subst, ◌∙◌, arith}
use Rattle.std.proofs.Math.Option.{Option, none, some, bind}
use Rattle.text.specs.Utf8.{is_utf8}
use Rattle.text.specs.Ascii.{ascii}
use Rattle.sheet.specs.Computing.{computing}
use Rattle.sheet.specs.Within.{OptionWithin}
use Rattle.sheet.specs.Operators.{operator_name}
use Rattle.json_text.specs.Json.{Text, Json, no_elements, element, Members, no_members, member}
use Rattle.json_text.specs.Json as Json
use Rattle.json_text.specs.Sound.{Sound, SoundElements, SoundMembers, depth_of, depth_of_elements, depth_of_members}
use Rattle.json_text.specs.Grammar.{document, max_depth}
use Rattle.json_text.specs.Escaped.{plain, written}
use Rattle.json_text.proofs.GrammarLaws.{document-back}
use Rattle.definition.specs.Tree.{Value, constant, number, string, array, object, Values, no_values, value, Pairs, no_pairs, pair, Condition, literal, many, negation, one, two, comparison, quantifier, Conditions, no_conditions, condition, Rule, rule}
use Rattle.definition.specs.Within.{value_nesting, values_nesting, pairs_nesting, condition_nesting, conditions_nesting, ValueFits, ValuesFit, PairsFit, OperandFits, ConditionFits, ConditionsFit, RuleFits}
use Rattle.json_rule.specs.Shape.{comparison_names, rule_of}
use Rattle.json_rule.specs.AsJson.{constant_of, comparison_name, as_json, as_elements, as_members, operating, condition_as_json, conditions_as_elements, optionally, rule_as_json}
use Rattle.json_rule.specs.Bare.{bare_rule}
use Rattle.json_rule.proofs.BackLaws.{below, below_all, one-low, one-high, shape-back}

-- Names are UTF-8

abbrev named : ℕ → Bool
named k = is_utf8 (operator_name (k + 2))

all_named : below named 20 ≡ true
unfolding computing below operator_name
all_named = refl

operator-utf8 : (op : ℕ) → 2 ≤ op → op ≤ 21 → is_utf8 (operator_name op) ≡ true
operator-utf8 op l h =
    let same : op - 2 + 2 ≡ op = omega arith in
    subst (λ (k : ℕ). is_utf8 (operator_name k) ≡ true) same (below_all named 20 (op - 2) all_named (omega arith))

abbrev called : ℕ → Bool
called k = is_utf8 (comparison_name (k + 1))

all-called : below called 6 ≡ true
unfolding computing below comparison_name comparison_names
all-called = refl

comparison-utf8 : (n : ℕ) → 1 ≤ n → n ≤ 6 → is_utf8 (comparison_name n) ≡ true
comparison-utf8 n l h =
    let same : n - 1 + 1 ≡ n = omega arith in
    subst (λ (k : ℕ). is_utf8 (comparison_name k) ≡ true) same (below_all called 6 (n - 1) all-called (omega arith))

-- Values

constant-sound : (x y : Bool) → Sound (cond x Json.null (Json.truth y))
constant-sound true y = tt
constant-sound false y = tt

constant-depth : (x y : Bool) → depth_of (cond x Json.null (Json.truth y)) ≤ 1
unfolding depth_of
constant-depth true y = omega arith
constant-depth false y = omega arith

mutual
  unfolding constant_of as_json as_elements as_members

  value-sound : (v : Value) → ValueFits v → Sound (as_json v)
  value-sound (constant e type) h = constant-sound (eqb type 1) (eqb type 3)
  value-sound (number e digits) h = h.1
  value-sound (string e text) h = h.utf8
  value-sound (array e vs) h = values-sound vs h
  value-sound (object e ps) h = pairs-sound ps h.1

  values-sound : (vs : Values) → ValuesFit vs → SoundElements (as_elements vs)
  values-sound no_values h = tt
  values-sound (value v others) h = (value-sound v h.0, values-sound others h.1)

  pairs-sound : (ps : Pairs) → PairsFit ps → SoundMembers (as_members ps)
  pairs-sound no_pairs h = tt
  pairs-sound (pair key v others) h = (h.0.utf8, (value-sound v h.1, pairs-sound others h.2))

mutual
  unfolding constant_of as_json as_elements as_members depth_of depth_of_elements depth_of_members value_nesting values_nesting pairs_nesting

  value-depth : (v : Value) → depth_of (as_json v) ≤ value_nesting v
  value-depth (constant e type) = constant-depth (eqb type 1) (eqb type 3)
  value-depth (number e digits) = omega arith
  value-depth (string e text) = omega arith
  value-depth (array e vs) = omega (arith, values-depth vs)
  value-depth (object e ps) = omega (arith, pairs-depth ps)

  values-depth : (vs : Values) → depth_of_elements (as_elements vs) ≤ values_nesting vs
  values-depth no_values = omega arith
  values-depth (value v others) = omega (arith, value-depth v, values-depth others)

  pairs-depth : (ps : Pairs) → depth_of_members (as_members ps) ≤ pairs_nesting ps
  pairs-depth no_pairs = omega arith
  pairs-depth (pair key v others) = omega (arith, value-depth v, pairs-depth others)

-- Conditions: two levels for each of theirs, and those of a value

operating-sound : (op : ℕ) (v : Json) → 2 ≤ op → op ≤ 21 → Sound v → Sound (operating op v)
unfolding operating
operating-sound op v l h s = (operator-utf8 op l h, (s, tt))

operating-depth : (op : ℕ) (v : Json) (n : ℕ) → depth_of v ≤ n → depth_of (operating op v) ≤ n + 1
unfolding operating depth_of depth_of_members
operating-depth op v n h = omega arith

name-in : is_utf8 (ascii "in") ≡ true
unfolding computing
name-in = refl

name-as : is_utf8 (ascii "as") ≡ true
unfolding computing
name-as = refl

name-that : is_utf8 (ascii "that") ≡ true
unfolding computing
name-that = refl

name-left : is_utf8 (ascii "left") ≡ true
unfolding computing
name-left = refl

name-op : is_utf8 (ascii "op") ≡ true
unfolding computing
name-op = refl

name-right : is_utf8 (ascii "right") ≡ true
unfolding computing
name-right = refl

mutual
  unfolding condition_as_json conditions_as_elements

  condition-sound : (c : Condition) → ConditionFits c → Sound (condition_as_json c)
  condition-sound (literal e t) h = tt
  condition-sound (many e op children) h = operating-sound op _ h.0.0 (omega (arith, h.0.1)) (conditions-sound children h.1)
  condition-sound (negation e child) h = operating-sound 4 _ (omega arith) (omega arith) (condition-sound child h)
  condition-sound (one e op v) h = operating-sound op _ (one-low op h.0) (one-high op h.0) (value-sound v h.1.fits)
  condition-sound (two e op left right) h =
      operating-sound op _ (omega (arith, h.0.0)) (omega (arith, h.0.1)) (value-sound left h.1.fits, (value-sound right h.2.fits, tt))
  condition-sound (comparison e which left right) h =
      operating-sound 18 _ (omega arith) (omega arith)
      (name-left, (value-sound left h.1.fits, (name-op, (comparison-utf8 which h.0.0 h.0.1, (name-right, (value-sound right h.2.fits, tt))))))
  condition-sound (quantifier e op name over body) h =
      operating-sound op _ (omega (arith, h.0.0)) (omega (arith, h.0.1))
      (name-in, (value-sound over h.2.fits, (name-as, (h.1.utf8, (name-that, (condition-sound body h.3, tt))))))

  conditions-sound : (cs : Conditions) → ConditionsFit cs → SoundElements (conditions_as_elements cs)
  conditions-sound no_conditions h = tt
  conditions-sound (condition c others) h = (condition-sound c h.0, conditions-sound others h.1)

mutual
  unfolding condition_as_json conditions_as_elements depth_of depth_of_elements depth_of_members condition_nesting conditions_nesting

  condition-depth : (c : Condition) → ConditionFits c → depth_of (condition_as_json c) ≤ 2 * condition_nesting c + 64
  condition-depth (literal e t) h = omega arith
  condition-depth (many e op children) h =
      let d = operating-depth op (Json.array (conditions_as_elements children)) (suc (depth_of_elements (conditions_as_elements children))) (omega arith) in
      omega (arith, conditions-depth children h.1)
  condition-depth (negation e child) h =
      let d = operating-depth 4 (condition_as_json child) (depth_of (condition_as_json child)) (omega arith) in
      omega (arith, condition-depth child h)
  condition-depth (one e op v) h =
      let d = operating-depth op (as_json v) (depth_of (as_json v)) (omega arith) in
      omega (arith, value-depth v, h.1.nesting)
  condition-depth (two e op left right) h =
      let d = operating-depth op (Json.array (element (as_json left) (element (as_json right) no_elements))) 65 (omega (arith, value-depth left, value-depth right, h.1.nesting, h.2.nesting)) in
      omega arith
  condition-depth (comparison e which left right) h =
      let d = operating-depth 18 (Json.object (member (ascii "left") (as_json left) (member (ascii "op") (Json.string (comparison_name which)) (member (ascii "right") (as_json right) no_members)))) 65 (omega (arith, value-depth left, value-depth right, h.1.nesting, h.2.nesting)) in
      omega arith
  condition-depth (quantifier e op name over body) h =
      let k = condition-depth body h.3 in
      let d = operating-depth op (Json.object (member (ascii "in") (as_json over) (member (ascii "as") (Json.string name) (member (ascii "that") (condition_as_json body) no_members)))) (2 * condition_nesting body + 65) (omega (arith, k, value-depth over, h.2.nesting)) in
      omega arith

  conditions-depth : (cs : Conditions) → ConditionsFit cs → depth_of_elements (conditions_as_elements cs) ≤ 2 * conditions_nesting cs + 64
  conditions-depth no_conditions h = omega arith
  conditions-depth (condition c others) h = omega (arith, condition-depth c h.0, conditions-depth others h.1)

-- Rules

name-name : is_utf8 (ascii "name") ≡ true
unfolding computing
name-name = refl

name-assert : is_utf8 (ascii "assert") ≡ true
unfolding computing
name-assert = refl

name-message : is_utf8 (ascii "message") ≡ true
unfolding computing
name-message = refl

optionally-sound : (key : Text) (t : Option Text) (ms : Members) → is_utf8 key ≡ true → OptionWithin t → SoundMembers ms → SoundMembers (optionally key t ms)
unfolding optionally
optionally-sound key none ms k h s = s
optionally-sound key (some t) ms k h s = (k, (h.utf8, s))

optionally-depth : (key : Text) (t : Option Text) (ms : Members) → depth_of_members (optionally key t ms) ≤ depth_of_members ms
unfolding optionally depth_of depth_of_members
optionally-depth key none ms = omega arith
optionally-depth key (some t) ms = omega arith

abbrev pub members-of : Option Text → Option Text → Json → Members
members-of name message v = optionally (ascii "name") name (member (ascii "assert") v (optionally (ascii "message") message no_members))

members-depth : (name message : Option Text) (v : Json) → depth_of (Json.object (members-of name message v)) ≤ depth_of v + 1
unfolding depth_of depth_of_members
members-depth name message v =
    omega (arith, optionally-depth (ascii "name") name (member (ascii "assert") v (optionally (ascii "message") message no_members)), optionally-depth (ascii "message") message no_members)

pub read_back : (name message : Option Text) (assert : Condition) → RuleFits (rule name message assert)
    → document (written plain (Json.object (members-of name message (condition_as_json assert)))) ≡ some (Json.object (members-of name message (condition_as_json assert)))
read_back name message assert h =
    document-back plain (Json.object (members-of name message (condition_as_json assert)))
    (optionally-sound (ascii "name") name _ name-name h.0
    (name-assert, (condition-sound assert h.3, optionally-sound (ascii "message") message no_members name-message h.1 tt)))
    (omega (arith, members-depth name message (condition_as_json assert), condition-depth assert h.3, h.2))

-- a rule's JSON, written compactly, is read back, and stands for the rule
pub rule-back : (name message : Option Text) (assert : Condition) → RuleFits (rule name message assert)
    → bind (bind (rule_as_json (rule name message assert)) (λ j. document (written plain j))) rule_of ≡ some (bare_rule (rule name message assert))
unfolding rule_as_json bind
rule-back name message assert h = rw (read_back name message assert h) (shape-back name message assert h.3)
