-- A sheet turned to JSON and back is the same sheet; what is made of JSON is a well-formed sheet of a rule.
use Rattle.std.specs.Prelude.{ℕ, ◌≤◌, Bool, true, false, cond, List, ◌∷◌, ◌≡◌, refl, eqb, length, get_or}
use Rattle.std.proofs.Common.{arith, sym, ap, subst, ◌∙◌}
use Rattle.std.proofs.lemmas.Bool.{false≢true}
use Rattle.std.proofs.Math.Option.{Option, none, some, bind, map, some-injective, none-ne-some}
use Rattle.text.specs.Ascii.{ascii}
use Rattle.text.specs.Order.{same_bytes, is_among, none_twice}
use Rattle.sheet.specs.Write.{write_rule_head}
use Rattle.json_text.specs.Json.{Json, Elements, no_elements, element, no_members, member}
use Rattle.json_text.specs.Json as Json
use Rattle.json_text.specs.Grammar.{document}
use Rattle.json_text.specs.Escaped.{plain, written}
use Rattle.json_text.specs.Distinct.{keys_of, distinct, distinct_elements, distinct_members}
use Rattle.definition.specs.Tree.{Text, Value, constant, number, string, array, object, Values, no_values, value, Pairs, no_pairs, pair, Condition, literal, many, negation, one, two, comparison, quantifier, Conditions, no_conditions, condition, Rule, rule, template}
use Rattle.definition.specs.Decode.{decode_rule}
use Rattle.definition.specs.Decode as Decode
use Rattle.definition.proofs.KeyLaws.{differ-none-twice}
use Rattle.definition.proofs.RoundTrip.{rule-round-trip}
use Rattle.definition.specs.Within.{ValueFits, ValuesFit, PairsFit, ConditionFits, ConditionsFit, RuleFits}
use Rattle.definition.specs.Write.{write_rule}
use Rattle.call.specs.Call.{Reply, told, reply_to}
use Rattle.call.proofs.CallLaws.{not-told, told-injective}
use Rattle.json_rule.specs.Shape.{RulePart, first_of, as_name, as_assert, as_message, rule_parts, rule_from, rule_of}
use Rattle.json_rule.specs.AsJson.{constant_of, comparison_name, as_json, as_elements, as_members, operating, condition_as_json, conditions_as_elements, optionally, rule_as_json}
use Rattle.json_rule.specs.Bare.{bare_rule}
use Rattle.json_rule.proofs.BackLaws.{bare-rule, shape-back}
use Rattle.json_rule.proofs.RoundTrip.{members-of, read_back}
use Rattle.json_rule.specs.Conversion.{Conversion, rule_in, from_json, json_in, to_json}
use Rattle.conversion.specs.Fares.{FromJson, no-rule, over-limit, short-of-sheet, sheet-made, ToJson, no-sheet, short-of-text, text-made}
use Rattle.conversion.specs.FareLaws.{from-fares, to-fares, told-sheet}

-- No key comes twice in a rule's JSON

keys-same : (ps : Pairs) → keys_of (as_members ps) ≡ Decode.keys_of ps
unfolding keys_of as_members Decode.keys_of
keys-same no_pairs = refl
keys-same (pair key v others) = ap (λ (ks : List Text). key ∷ ks) (keys-same others)

constant-distinct : (x y : Bool) → distinct (cond x Json.null (Json.truth y)) ≡ true
unfolding distinct
constant-distinct true y = refl
constant-distinct false y = refl

mutual
  unfolding constant_of as_json as_elements as_members distinct distinct_elements distinct_members

  value-distinct : (v : Value) → ValueFits v → distinct (as_json v) ≡ true
  value-distinct (constant e type) h = constant-distinct (eqb type 1) (eqb type 3)
  value-distinct (number e digits) h = refl
  value-distinct (string e t) h = refl
  value-distinct (array e vs) h = values-distinct vs h
  value-distinct (object e ps) h = rw (keys-same ps, differ-none-twice ps h.0) (pairs-distinct ps h.1)

  values-distinct : (vs : Values) → ValuesFit vs → distinct_elements (as_elements vs) ≡ true
  values-distinct no_values h = refl
  values-distinct (value v others) h = rw (value-distinct v h.0) (values-distinct others h.1)

  pairs-distinct : (ps : Pairs) → PairsFit ps → distinct_members (as_members ps) ≡ true
  pairs-distinct no_pairs h = refl
  pairs-distinct (pair key v others) h = rw (value-distinct v h.1) (pairs-distinct others h.2)

operating-distinct : (op : ℕ) (v : Json) → distinct v ≡ true → distinct (operating op v) ≡ true
unfolding operating distinct distinct_members keys_of none_twice is_among
operating-distinct op v e = rw e

compared-distinct : (left right : Json) (name : Text) → distinct left ≡ true → distinct right ≡ true
    → distinct (Json.object (member (ascii "left") left (member (ascii "op") (Json.string name) (member (ascii "right") right no_members)))) ≡ true
unfolding ascii distinct distinct_members keys_of none_twice is_among same_bytes
compared-distinct left right name l r = rw (l, r)

scope-distinct : (over body : Json) (name : Text) → distinct over ≡ true → distinct body ≡ true
    → distinct (Json.object (member (ascii "in") over (member (ascii "as") (Json.string name) (member (ascii "that") body no_members)))) ≡ true
unfolding ascii distinct distinct_members keys_of none_twice is_among same_bytes
scope-distinct over body name o b = rw (o, b)

pair-distinct : (left right : Json) → distinct left ≡ true → distinct right ≡ true → distinct (Json.array (element left (element right no_elements))) ≡ true
unfolding distinct distinct_elements
pair-distinct left right l r = rw (l, r)

truth-distinct : (t : Bool) → distinct (Json.truth t) ≡ true
unfolding distinct
truth-distinct t = refl

array-distinct : (vs : Elements) → distinct_elements vs ≡ true → distinct (Json.array vs) ≡ true
unfolding distinct
array-distinct vs e = e

mutual
  unfolding condition_as_json conditions_as_elements distinct_elements

  condition-distinct : (c : Condition) → ConditionFits c → distinct (condition_as_json c) ≡ true
  condition-distinct (literal e t) h = truth-distinct t
  condition-distinct (many e op children) h = operating-distinct op _ (array-distinct (conditions_as_elements children) (conditions-distinct children h.1))
  condition-distinct (negation e child) h = operating-distinct 4 _ (condition-distinct child h)
  condition-distinct (one e op v) h = operating-distinct op _ (value-distinct v h.1.fits)
  condition-distinct (two e op left right) h = operating-distinct op _ (pair-distinct (as_json left) (as_json right) (value-distinct left h.1.fits) (value-distinct right h.2.fits))
  condition-distinct (comparison e which left right) h =
      operating-distinct 18 _ (compared-distinct (as_json left) (as_json right) (comparison_name which) (value-distinct left h.1.fits) (value-distinct right h.2.fits))
  condition-distinct (quantifier e op name over body) h =
      operating-distinct op _ (scope-distinct (as_json over) (condition_as_json body) name (value-distinct over h.2.fits) (condition-distinct body h.3))

  conditions-distinct : (cs : Conditions) → ConditionsFit cs → distinct_elements (conditions_as_elements cs) ≡ true
  conditions-distinct no_conditions h = refl
  conditions-distinct (condition c others) h = rw (condition-distinct c h.0) (conditions-distinct others h.1)

rule-distinct : (name message : Option Text) (v : Json) → distinct v ≡ true → distinct (Json.object (members-of name message v)) ≡ true
unfolding optionally ascii distinct distinct_members keys_of none_twice is_among same_bytes
rule-distinct none none v e = rw e
rule-distinct none (some m) v e = rw e
rule-distinct (some n) none v e = rw e
rule-distinct (some n) (some m) v e = rw e

-- There and back

abbrev pub json_of_rule : (name message : Option Text) → Condition → Json
json_of_rule name message assert = Json.object (members-of name message (condition_as_json assert))

rule-again : (name message : Option Text) (assert : Condition) → RuleFits (rule name message assert)
    → rule_in (written plain (json_of_rule name message assert)) ≡ some (bare_rule (rule name message assert))
unfolding rule_in bind rule_as_json
rule-again name message assert h =
    let known : rule_of (json_of_rule name message assert) ≡ some (bare_rule (rule name message assert)) = shape-back name message assert h.3 in
    rw (read_back name message assert h, rule-distinct name message (condition_as_json assert) (condition-distinct assert h.3)) known

-- what is told is the JSON of the sheet's rule
pub text_of : (sheet : List ℕ) (j : Json) → json_in sheet ≡ some j
    → (name : Option Text) × (message : Option Text) × (assert : Condition) × (decode_rule sheet ≡ some (rule name message assert)) × (j ≡ json_of_rule name message assert)
unfolding json_in bind rule_as_json
text_of sheet j e = by (decode_rule sheet) refl e
  where
    by : (o : Option Rule) → decode_rule sheet ≡ o → bind o rule_as_json ≡ some j
        → (name : Option Text) × (message : Option Text) × (assert : Condition) × (decode_rule sheet ≡ some (rule name message assert)) × (j ≡ json_of_rule name message assert)
    by none d e = absurd (none-ne-some j e)
    by (some (rule name message assert)) d e = (name, message, assert, d, sym (some-injective (json_of_rule name message assert) j e))
    by (some (template v)) d e = absurd (none-ne-some j e)

told-text-is : (c : Conversion) (text : List ℕ) {a : Reply (List ℕ)} → ToJson c a → a ≡ told text → (j : Json) × (json_in c.bytes ≡ some j) × (text ≡ written plain j)
told-text-is c text (no-sheet e) q = absurd (not-told q)
told-text-is c text (short-of-text j e h) q = absurd (not-told q)
told-text-is c text (text-made j e h) q = (j, e, sym (told-injective q))

pub round_trip : (sheet text : List ℕ) (room room' : ℕ) → reply_to to_json (record { bytes = sheet; room = room }) ≡ told text → length sheet ≤ room'
    → reply_to from_json (record { bytes = text; room = room' }) ≡ told sheet
round_trip sheet text room room' e fits =
    let (j, json, is) = told-text-is (record { bytes = sheet; room = room }) text (to-fares (record { bytes = sheet; room = room })) e in
    let (name, message, assert, decoded, same) = text_of sheet j json in
    let r = rule name message assert in
    let (writes, within) = (rule-round-trip sheet r).0 decoded in
    let again : write_rule (bare_rule r) ≡ sheet = bare-rule r ∙ sym writes in
    let known : rule_in text ≡ some (bare_rule r) = ap rule_in (is ∙ ap (written plain) same) ∙ rule-again name message assert within.fits in
    let read : decode_rule (write_rule (bare_rule r)) ≡ some r = ap decode_rule again ∙ decoded in
    told-sheet (record { bytes = text; room = room' }) (bare_rule r) known r read (subst (λ (l : List ℕ). length l ≤ room') (sym again) fits) ∙ ap told again

-- What is made is a well-formed sheet that begins with `R`

unfoldable pub is_rule : Rule → Bool
is_rule (rule name message assert) = true
is_rule (template v) = false

from_parts : (o : Option Condition) (name message : Option Text) (r : Rule) → map (rule name message) o ≡ some r → is_rule r ≡ true
unfolding is_rule
from_parts none name message r e = absurd (none-ne-some r e)
from_parts (some c) name message r e = sym (ap is_rule (some-injective (rule name message c) r e))

bound : (o : Option (List RulePart)) (r : Rule) → bind o rule_from ≡ some r → is_rule r ≡ true
unfolding bind rule_from
bound none r e = absurd (none-ne-some r e)
bound (some parts) r e = from_parts (first_of as_assert parts) (first_of as_name parts) (first_of as_message parts) r e

unless : (b : Bool) {o : Option Rule} (r : Rule) → cond b o none ≡ some r → o ≡ some r
unless true r e = e
unless false r e = absurd (none-ne-some r e)

shaped-rule : (j : Json) (r : Rule) → rule_of j ≡ some r → is_rule r ≡ true
unfolding rule_of
shaped-rule Json.null r e = absurd (none-ne-some r e)
shaped-rule (Json.truth b) r e = absurd (none-ne-some r e)
shaped-rule (Json.number digits) r e = absurd (none-ne-some r e)
shaped-rule (Json.string t) r e = absurd (none-ne-some r e)
shaped-rule (Json.array vs) r e = absurd (none-ne-some r e)
shaped-rule (Json.object ms) r e = bound (rule_parts ms) r (unless (none_twice (keys_of ms)) r e)

rule-in : (o : Option Json) (r : Rule) → bind o (λ (j : Json). cond (distinct j) (rule_of j) none) ≡ some r → is_rule r ≡ true
unfolding bind
rule-in none r e = absurd (none-ne-some r e)
rule-in (some j) r e = shaped-rule j r (unless (distinct j) r e)

first_byte : (r : Rule) → is_rule r ≡ true → get_or (write_rule r) 0 0 ≡ 0x52
unfolding is_rule write_rule write_rule_head ascii
first_byte (rule name message assert) h = refl
first_byte (template v) h = absurd (false≢true h)

template-byte : (t : Rule) → get_or (write_rule t) 0 0 ≡ 0x52 → is_rule t ≡ true
unfolding is_rule write_rule write_rule_head ascii
template-byte (rule name message assert) h = refl
template-byte (template v) h = absurd (omega arith)

told-sheet-is : (c : Conversion) (sheet : List ℕ) {a : Reply (List ℕ)} → FromJson c a → a ≡ told sheet
    → (r : Rule) × (t : Rule) × (rule_in c.bytes ≡ some r) × (decode_rule (write_rule r) ≡ some t) × (sheet ≡ write_rule r)
told-sheet-is c sheet (no-rule e) q = absurd (not-told q)
told-sheet-is c sheet (over-limit r e d) q = absurd (not-told q)
told-sheet-is c sheet (short-of-sheet r t e d h) q = absurd (not-told q)
told-sheet-is c sheet (sheet-made r t e d h) q = (r, t, e, d, sym (told-injective q))

pub made-well-formed : (c : Conversion) (sheet : List ℕ) → reply_to from_json c ≡ told sheet
    → (t : Rule) × (decode_rule sheet ≡ some t) × (is_rule t ≡ true) × (get_or sheet 0 0 ≡ 0x52)
unfolding rule_in
made-well-formed c sheet e =
    let (r, t, known, decoded, is) = told-sheet-is c sheet (from-fares c) e in
    let begins : get_or (write_rule r) 0 0 ≡ 0x52 = first_byte r (rule-in (document c.bytes) r known) in
    let (writes, within) = (rule-round-trip (write_rule r) t).0 decoded in
    (t, ap decode_rule is ∙ decoded, template-byte t (ap (λ (s : List ℕ). get_or s 0 0) (sym writes) ∙ begins), ap (λ (s : List ℕ). get_or s 0 0) is ∙ begins)
