-- JSON has at most six times as many bytes as the entries that it stands for: a byte takes six at most, and every entry has some of its own.
use Rattle.std.specs.Prelude.{ℕ, ◌+◌, ◌-◌, ◌*◌, ◌≤◌, true, false, ◌||◌, List, [], ◌∷◌, ◌++◌, ◌≡◌, refl, leb, ltb, eqb, length}
use Rattle.std.proofs.Common.{arith, subst, length-append, leb-true, leb-false, ltb-true, ltb-false}
use Rattle.std.proofs.Math.Option.{Option, none, some, some-injective}
use Rattle.std.proofs.Math.ListN.{get_or-eq_default}
use Rattle.text.specs.Ascii.{ascii}
use Rattle.text.specs.CaseLaws.{by-test}
use Rattle.text.specs.NumeralLaws.{decimal_of-one, decimal_of-last}
use Rattle.sheet.specs.Operators.{operator_name, not_operator, compare_operator}
use Rattle.sheet.proofs.OperatorLaws.{over, alike, name-past}
use Rattle.sheet.specs.Entries.{array_head, object_head, many_head, negation_head, one_head, two_head, comparison_head, quantifier_head}
use Rattle.sheet.specs.Entries as Entries
use Rattle.sheet.specs.Write.{write_item, mark_of, write_end, write_last, write_length, write_text, write_type, write_value_head, write_key_head, write_operator, write_condition_head, write_rule_head}
use Rattle.definition.specs.Tree.{Text, Value, constant, number, string, array, object, Values, no_values, value, Pairs, no_pairs, pair, Condition, literal, many, negation, one, two, comparison, quantifier, Conditions, no_conditions, condition, rule}
use Rattle.definition.specs.Write.{write_value, write_values, write_pairs, count_of_values, count_of_pairs, write_condition, write_conditions, count_of_conditions, write_rule}
use Rattle.json_text.specs.Json.{Json, no_elements, element, Members, no_members, member}
use Rattle.json_text.specs.Json as Json
use Rattle.json_text.specs.Escaped.{Escapes, plain, short, letter_of, control_of, escaped_byte, escaped, quoted, written, written_elements, written_members}
use Rattle.json_rule.specs.Shape.{comparison_names}
use Rattle.json_rule.specs.AsJson.{constant_of, as_json, as_elements, as_members, json_of, comparison_name, operating, condition_as_json, conditions_as_elements, optionally, rule_as_json}

pub json-is : (v : Value) → json_of v ≡ written short (as_json v)
unfolding json_of
json-is v = refl

-- Texts

control-most : (letter b : ℕ) → length (control_of letter b) ≤ 6
unfolding control_of ascii
control-most letter b = by-test (eqb letter 0) (λ e. rw e (omega arith)) (λ e. rw e (omega arith))

byte-most : (how : Escapes) (b : ℕ) → length (escaped_byte how b) ≤ 6
unfolding escaped_byte
byte-most how b =
    by-test (eqb b 0x22 || eqb b 0x5C) (λ e. rw e (omega arith))
    (λ e. rw e (by-test (leb 0x20 b) (λ l. rw l (omega arith)) (λ l. rw l (control-most (letter_of how b) b))))

escaped-most : (how : Escapes) (t : List ℕ) → length (escaped how t) ≤ 6 * length t
unfolding escaped
escaped-most how [] = omega arith
escaped-most how (b ∷ t) =
    let more = escaped-most how t in
    let first = byte-most how b in
    let both = length-append (escaped_byte how b) (escaped how t) in
    omega arith

quoted-most : (how : Escapes) (t : List ℕ) → length (quoted how t) ≤ 6 * length t + 2
unfolding quoted
quoted-most how t =
    let inner = escaped-most how t in
    let both = length-append (escaped how t) (0x22 ∷ []) in
    omega arith

-- Entries

last-length : (text : List ℕ) → length (write_last text) ≡ length text + 2
unfolding write_last write_end ascii
last-length text = simp length-append (omega arith)

type-least : (type n : ℕ) (text : List ℕ) → length text + 2 ≤ length (write_type type n text)
unfolding write_type ascii
type-least type n text = let l = last-length text in simp length-append (omega arith)

key-least : (key : Text) → length key + 2 ≤ length (write_key_head key)
unfolding write_key_head ascii
key-least key = let l = last-length key in simp length-append (omega arith)

constant-most : (how : Escapes) (type : ℕ) → length (written how (constant_of type)) ≤ 5
unfolding written constant_of ascii
constant-most how type =
    by-test (eqb type 1) (λ e. rw e (omega arith))
    (λ e. rw e (by-test (eqb type 3) (λ t. rw t (omega arith)) (λ t. rw t (omega arith))))

-- Values

mutual
  unfolding write_value write_values write_pairs write_value_head written written_elements written_members as_json as_elements as_members

  pub value-most : (how : Escapes) (v : Value) → length (written how (as_json v)) + 1 ≤ 6 * length (write_value v)
  value-most how (constant e type) = let l = type-least type 0 [] in let m = constant-most how type in omega arith
  value-most how (number e digits) = let l = type-least 4 (length digits) digits in omega arith
  value-most how (string e t) = let l = type-least 5 (length t) t in let m = quoted-most how t in omega arith
  value-most how (array e vs) =
      let l = type-least 6 (count_of_values vs) [] in
      let m = values-most how vs [] (omega arith) in
      let both = length-append (write_value_head (array_head (count_of_values vs))) (write_values vs) in
      omega arith
  value-most how (object e ps) =
      let l = type-least 7 (count_of_pairs ps) [] in
      let m = pairs-most how ps [] (omega arith) in
      let both = length-append (write_value_head (object_head (count_of_pairs ps))) (write_pairs ps) in
      omega arith

  values-most : (how : Escapes) (vs : Values) (before : List ℕ) → length before ≤ 1 → length (written_elements how before (as_elements vs)) ≤ 6 * length (write_values vs) + 1
  values-most how no_values before h = omega arith
  values-most how (value v others) before h =
      let m = value-most how v in
      let more = values-most how others (0x2C ∷ []) (omega arith) in
      let a = length-append (write_value v) (write_values others) in
      let b = length-append (written how (as_json v)) (written_elements how (0x2C ∷ []) (as_elements others)) in
      let c = length-append before (written how (as_json v) ++ written_elements how (0x2C ∷ []) (as_elements others)) in
      omega arith

  pairs-most : (how : Escapes) (ps : Pairs) (before : List ℕ) → length before ≤ 1 → length (written_members how before (as_members ps)) ≤ 6 * length (write_pairs ps) + 1
  pairs-most how no_pairs before h = omega arith
  pairs-most how (pair key v others) before h =
      let k = key-least key in
      let q = quoted-most how key in
      let m = value-most how v in
      let more = pairs-most how others (0x2C ∷ []) (omega arith) in
      let a = length-append (write_value v) (write_pairs others) in
      let b = length-append (write_key_head key) (write_value v ++ write_pairs others) in
      let c = length-append (written how (as_json v)) (written_members how (0x2C ∷ []) (as_members others)) in
      let d = length-append (quoted how key) (0x3A ∷ (written how (as_json v) ++ written_members how (0x2C ∷ []) (as_members others))) in
      let e = length-append before (quoted how key ++ (0x3A ∷ (written how (as_json v) ++ written_members how (0x2C ∷ []) (as_members others)))) in
      omega arith

pub json-short : (v : Value) → length (json_of v) ≤ 6 * length (write_value v)
json-short v = let m = value-most short v in rw (json-is v) (omega arith)

-- Conditions

item-least : (n : ℕ) → 2 ≤ length (write_item n)
unfolding write_item ascii
item-least n =
    by-test (ltb n 10)
    (λ q. rw (decimal_of-one n (ltb-true n 10 q)) (omega arith))
    (λ q. rw (decimal_of-last n (ltb-false n 10 q)) (simp length-append (omega arith)))

operator-least : (op n : ℕ) (text : List ℕ) → length text + 7 ≤ length (write_operator op n text)
unfolding write_operator ascii
operator-least op n text =
    let a = item-least op in
    let b = item-least n in
    let l = last-length text in
    simp length-append (omega arith)

name-most : (op : ℕ) → length (quoted plain (operator_name op)) ≤ 13
unfolding over operator_name ascii letter_of control_of quoted escaped escaped_byte
name-most op =
    by-test (leb op 21)
    (λ q.
    let l = leb-true op 21 q in
    leb-true (length (quoted plain (operator_name op))) 13 (alike (λ (k : ℕ). leb (length (quoted plain (operator_name k))) 13) (λ (k : ℕ). true) 0 22 refl op (omega arith) (omega arith)))
    (λ q. let l = leb-false op 21 q in rw (name-past op (omega arith)) (omega arith))

comparison-most : (which : ℕ) → length (quoted plain (comparison_name which)) ≤ 5
unfolding over comparison_name comparison_names ascii letter_of control_of quoted escaped escaped_byte
comparison-most which =
    by-test (leb which 6)
    (λ q.
    let l = leb-true which 6 q in
    leb-true (length (quoted plain (comparison_name which))) 5 (alike (λ (k : ℕ). leb (length (quoted plain (comparison_name k))) 5) (λ (k : ℕ). true) 0 7 refl which (omega arith) (omega arith)))
    (λ q.
    let l = leb-false which 6 q in
    let past : length comparison_names ≤ which - 1 = omega arith in
    rw (get_or-eq_default comparison_names [] past) (omega arith))

operating-most : (op k : ℕ) (v : Json) → length (quoted plain (operator_name op)) ≤ k → length (written plain (operating op v)) ≤ length (written plain v) + (k + 3)
unfolding operating written written_members
operating-most op k v n =
    let a = length-append (quoted plain (operator_name op)) (0x3A ∷ (written plain v ++ (0x7D ∷ []))) in
    let b = length-append (written plain v) (0x7D ∷ []) in
    omega arith

-- a member with a comma
member-most : (key : Text) (v : Json) (others : Members) (k : ℕ) → length (quoted plain key) ≡ k
    → length (written_members plain (0x2C ∷ []) (member key v others)) ≡ k + 2 + length (written plain v) + length (written_members plain (0x2C ∷ []) others)
unfolding written_members
member-most key v others k e =
    let a = length-append (quoted plain key) (0x3A ∷ (written plain v ++ written_members plain (0x2C ∷ []) others)) in
    let b = length-append (written plain v) (written_members plain (0x2C ∷ []) others) in
    omega arith

first-most : (ms : Members) → length (written_members plain [] ms) ≤ length (written_members plain (0x2C ∷ []) ms)
unfolding written_members
first-most no_members = omega arith
first-most (member key v others) = omega arith

left_key : length (quoted plain (ascii "left")) ≡ 6
unfolding ascii letter_of control_of quoted escaped escaped_byte
left_key = refl

op-key : length (quoted plain (ascii "op")) ≡ 4
unfolding ascii letter_of control_of quoted escaped escaped_byte
op-key = refl

right_key : length (quoted plain (ascii "right")) ≡ 7
unfolding ascii letter_of control_of quoted escaped escaped_byte
right_key = refl

in-key : length (quoted plain (ascii "in")) ≡ 4
unfolding ascii letter_of control_of quoted escaped escaped_byte
in-key = refl

as-key : length (quoted plain (ascii "as")) ≡ 4
unfolding ascii letter_of control_of quoted escaped escaped_byte
as-key = refl

that-key : length (quoted plain (ascii "that")) ≡ 6
unfolding ascii letter_of control_of quoted escaped escaped_byte
that-key = refl

name-key : length (quoted plain (ascii "name")) ≡ 6
unfolding ascii letter_of control_of quoted escaped escaped_byte
name-key = refl

assert-key : length (quoted plain (ascii "assert")) ≡ 8
unfolding ascii letter_of control_of quoted escaped escaped_byte
assert-key = refl

message-key : length (quoted plain (ascii "message")) ≡ 9
unfolding ascii letter_of control_of quoted escaped escaped_byte
message-key = refl

compare-name : length (quoted plain (operator_name compare_operator)) ≤ 9
unfolding operator_name ascii letter_of control_of quoted escaped escaped_byte
compare-name = omega arith

compared-most : (left right : Json) (name : Text)
    → length (written_members plain [] (member (ascii "left") left (member (ascii "op") (Json.string name) (member (ascii "right") right no_members))))
    ≤ 24 + length (written plain left) + length (quoted plain name) + length (written plain right)
unfolding written written_members
compared-most left right name =
    let a = first-most (member (ascii "left") left (member (ascii "op") (Json.string name) (member (ascii "right") right no_members))) in
    let b = member-most (ascii "left") left (member (ascii "op") (Json.string name) (member (ascii "right") right no_members)) 6 left_key in
    let c = member-most (ascii "op") (Json.string name) (member (ascii "right") right no_members) 4 op-key in
    let d = member-most (ascii "right") right no_members 7 right_key in
    omega arith

scope-most : (collection body : Json) (name : Text)
    → length (written_members plain [] (member (ascii "in") collection (member (ascii "as") (Json.string name) (member (ascii "that") body no_members))))
    ≤ 21 + length (written plain collection) + length (quoted plain name) + length (written plain body)
unfolding written written_members
scope-most collection body name =
    let a = first-most (member (ascii "in") collection (member (ascii "as") (Json.string name) (member (ascii "that") body no_members))) in
    let b = member-most (ascii "in") collection (member (ascii "as") (Json.string name) (member (ascii "that") body no_members)) 4 in-key in
    let c = member-most (ascii "as") (Json.string name) (member (ascii "that") body no_members) 4 as-key in
    let d = member-most (ascii "that") body no_members 6 that-key in
    omega arith

mutual
  unfolding ascii condition_as_json conditions_as_elements write_condition write_conditions write_condition_head written written_elements

  condition-most : (c : Condition) → length (written plain (condition_as_json c)) + 1 ≤ 6 * length (write_condition c)
  condition-most (literal e true) = let h = operator-least 1 (mark_of true) [] in omega arith
  condition-most (literal e false) = let h = operator-least 1 (mark_of false) [] in omega arith
  condition-most (many e op children) =
      let m = operating-most op 13 (Json.array (conditions_as_elements children)) (name-most op) in
      let h = operator-least op (count_of_conditions children) [] in
      let k = conditions-most children [] (omega arith) in
      let both = length-append (write_condition_head (many_head op (count_of_conditions children))) (write_conditions children) in
      omega arith
  condition-most (negation e child) =
      let m = operating-most not_operator 13 (condition_as_json child) (name-most not_operator) in
      let h = operator-least not_operator 0 [] in
      let k = condition-most child in
      let both = length-append (write_condition_head negation_head) (write_condition child) in
      omega arith
  condition-most (one e op v) =
      let m = operating-most op 13 (as_json v) (name-most op) in
      let h = operator-least op 0 [] in
      let k = value-most plain v in
      let both = length-append (write_condition_head (one_head op)) (write_value v) in
      omega arith
  condition-most (two e op left right) =
      let m = operating-most op 13 (Json.array (element (as_json left) (element (as_json right) no_elements))) (name-most op) in
      let h = operator-least op 0 [] in
      let k = value-most plain left in
      let l = value-most plain right in
      let a = length-append (written plain (as_json left)) (0x2C ∷ (written plain (as_json right) ++ (0x5D ∷ []))) in
      let b = length-append (written plain (as_json right)) (0x5D ∷ []) in
      let both = length-append (write_condition_head (two_head op)) (write_value left ++ write_value right) in
      let values = length-append (write_value left) (write_value right) in
      omega arith
  condition-most (comparison e which left right) =
      let ms = member (ascii "left") (as_json left) (member (ascii "op") (Json.string (comparison_name which)) (member (ascii "right") (as_json right) no_members)) in
      let m = operating-most compare_operator 9 (Json.object ms) compare-name in
      let h = operator-least compare_operator which [] in
      let k = value-most plain left in
      let l = value-most plain right in
      let n = comparison-most which in
      let members = compared-most (as_json left) (as_json right) (comparison_name which) in
      let both = length-append (write_condition_head (comparison_head which)) (write_value left ++ write_value right) in
      let values = length-append (write_value left) (write_value right) in
      omega arith
  condition-most (quantifier e op name collection body) =
      let ms = member (ascii "in") (as_json collection) (member (ascii "as") (Json.string name) (member (ascii "that") (condition_as_json body) no_members)) in
      let m = operating-most op 13 (Json.object ms) (name-most op) in
      let h = operator-least op (length name) name in
      let k = value-most plain collection in
      let l = condition-most body in
      let n = quoted-most plain name in
      let members = scope-most (as_json collection) (condition_as_json body) name in
      let both = length-append (write_condition_head (quantifier_head op name)) (write_value collection ++ write_condition body) in
      let values = length-append (write_value collection) (write_condition body) in
      omega arith

  conditions-most : (cs : Conditions) (before : List ℕ) → length before ≤ 1 → length (written_elements plain before (conditions_as_elements cs)) ≤ 6 * length (write_conditions cs) + 1
  conditions-most no_conditions before h = omega arith
  conditions-most (condition c others) before h =
      let m = condition-most c in
      let more = conditions-most others (0x2C ∷ []) (omega arith) in
      let a = length-append (write_condition c) (write_conditions others) in
      let b = length-append (written plain (condition_as_json c)) (written_elements plain (0x2C ∷ []) (conditions_as_elements others)) in
      let d = length-append before (written plain (condition_as_json c) ++ written_elements plain (0x2C ∷ []) (conditions_as_elements others)) in
      omega arith

-- Rules

length_most : (t : Option Text) → 2 ≤ length (write_length t)
unfolding write_length ascii
length_most none = omega arith
length_most (some t) = item-least (length t)

head-least : (name message : Option Text) → length (write_text name) + length (write_text message) + 7 ≤ length (write_rule_head (Entries.rule name message))
unfolding write_rule_head write_end ascii
head-least name message =
    let a = length_most name in
    let b = length_most message in
    simp length-append (omega arith)

optionally-most : (key : Text) (k : ℕ) (t : Option Text) (others : Members) → length (quoted plain key) ≡ k
    → length (written_members plain (0x2C ∷ []) (optionally key t others)) ≤ k + 4 + 6 * length (write_text t) + length (written_members plain (0x2C ∷ []) others)
unfolding optionally write_text written
optionally-most key k none others e = omega arith
optionally-most key k (some t) others e =
    let m = member-most key (Json.string t) others k e in
    let n = quoted-most plain t in
    omega arith

-- a rule's JSON is at most six times as long as its sheet
pub rule-most : (name message : Option Text) (assert : Condition) (j : Json) → rule_as_json (rule name message assert) ≡ some j
    → length (written plain j) ≤ 6 * length (write_rule (rule name message assert))
unfolding rule_as_json write_rule written written_members
rule-most name message assert j e =
    let behind = optionally (ascii "message") message no_members in
    let inner = member (ascii "assert") (condition_as_json assert) behind in
    let a = optionally-most (ascii "name") 6 name inner name-key in
    let b = member-most (ascii "assert") (condition_as_json assert) behind 8 assert-key in
    let c = optionally-most (ascii "message") 9 message no_members message-key in
    let d = first-most (optionally (ascii "name") name inner) in
    let k = condition-most assert in
    let h = head-least name message in
    let both = length-append (write_rule_head (Entries.rule name message)) (write_condition assert) in
    subst (λ (x : Json). length (written plain x) ≤ 6 * length (write_rule (rule name message assert)))
    (some-injective (Json.object (optionally (ascii "name") name inner)) j e)
    (omega arith)
