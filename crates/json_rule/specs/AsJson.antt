-- A rule as JSON, members in definition.rs's order and those that are absent left out; a value as JSON, members in the order of the sheet, and the text that a message has for it.
use Rattle.std.specs.Prelude.{ℕ, ◌-◌, cond, [], eqb, get_or}
use Rattle.std.proofs.Math.Option.{Option, none, some}
use Rattle.text.specs.Ascii.{ascii}
use Rattle.json_text.specs.Json.{Json, null, truth, Elements, no_elements, element, Members, no_members, member}
use Rattle.json_text.specs.Json as Json
use Rattle.json_text.specs.Escaped.{short, short_letter, letter_of, hex_of, control_of, escaped_byte, escaped, quoted, written}
use Rattle.sheet.specs.Operators.{operator_name, not_operator, compare_operator}
use Rattle.definition.specs.Tree.{Text, Value, constant, number, string, array, object, Values, no_values, value, Pairs, no_pairs, pair, Condition, literal, many, negation, one, two, comparison, quantifier, Conditions, no_conditions, condition, Rule, rule, template}
use Rattle.json_rule.specs.Shape.{comparison_names}

-- 1 null, 2 false, 3 true
unfoldable pub constant_of : (type : ℕ) → Json
constant_of type = cond (eqb type 1) null (truth (eqb type 3))

unfoldable mutual
  pub as_json : Value → Json
  as_json (constant e type) = constant_of type
  as_json (number e digits) = Json.number digits
  as_json (string e text) = Json.string text
  as_json (array e vs) = Json.array (as_elements vs)
  as_json (object e pairs) = Json.object (as_members pairs)

  pub as_elements : Values → Elements
  as_elements no_values = no_elements
  as_elements (value v others) = element (as_json v) (as_elements others)

  pub as_members : Pairs → Members
  as_members no_pairs = no_members
  as_members (pair key v others) = member key (as_json v) (as_members others)

-- compact, with the short escapes
unfoldable pub json_of : Value → Text
unfolding ascii short_letter letter_of hex_of control_of escaped_byte escaped quoted written constant_of as_json
json_of v = written short (as_json v)

-- Conditions

-- what `compare` compares by
unfoldable pub comparison_name : ℕ → Text
comparison_name which = get_or comparison_names (which - 1) []

-- an operator with its operand
unfoldable pub operating : ℕ → Json → Json
operating op v = Json.object (member (operator_name op) v no_members)

unfoldable mutual
  pub condition_as_json : Condition → Json
  condition_as_json (literal e t) = truth t
  condition_as_json (many e op children) = operating op (Json.array (conditions_as_elements children))
  condition_as_json (negation e child) = operating not_operator (condition_as_json child)
  condition_as_json (one e op v) = operating op (as_json v)
  condition_as_json (two e op left right) = operating op (Json.array (element (as_json left) (element (as_json right) no_elements)))
  condition_as_json (comparison e which left right) =
      operating compare_operator (Json.object (member (ascii "left") (as_json left) (member (ascii "op") (Json.string (comparison_name which)) (member (ascii "right") (as_json right) no_members))))
  condition_as_json (quantifier e op name over body) =
      operating op (Json.object (member (ascii "in") (as_json over) (member (ascii "as") (Json.string name) (member (ascii "that") (condition_as_json body) no_members))))

  pub conditions_as_elements : Conditions → Elements
  conditions_as_elements no_conditions = no_elements
  conditions_as_elements (condition c others) = element (condition_as_json c) (conditions_as_elements others)

unfoldable pub optionally : Text → Option Text → Members → Members
optionally key none others = others
optionally key (some t) others = member key (Json.string t) others

-- a template, which is no rule, has none
unfoldable pub rule_as_json : Rule → Option Json
rule_as_json (rule name message assert) =
    some (Json.object (optionally (ascii "name") name (member (ascii "assert") (condition_as_json assert) (optionally (ascii "message") message no_members))))
rule_as_json (template v) = none
