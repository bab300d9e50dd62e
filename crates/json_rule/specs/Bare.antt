-- A tree without the numbers of its entries, which a sheet does not have.
use Rattle.definition.specs.Tree.{Value, constant, number, string, array, object, Values, no_values, value, Pairs, no_pairs, pair, Condition, literal, many, negation, one, two, comparison, quantifier, Conditions, no_conditions, condition, Rule, rule, template}

unfoldable mutual
  pub bare_value : Value → Value
  bare_value (constant e type) = constant 0 type
  bare_value (number e digits) = number 0 digits
  bare_value (string e text) = string 0 text
  bare_value (array e vs) = array 0 (bare_values vs)
  bare_value (object e pairs) = object 0 (bare_pairs pairs)

  pub bare_values : Values → Values
  bare_values no_values = no_values
  bare_values (value v others) = value (bare_value v) (bare_values others)

  pub bare_pairs : Pairs → Pairs
  bare_pairs no_pairs = no_pairs
  bare_pairs (pair key v others) = pair key (bare_value v) (bare_pairs others)

unfoldable mutual
  pub bare_condition : Condition → Condition
  bare_condition (literal e t) = literal 0 t
  bare_condition (many e op children) = many 0 op (bare_conditions children)
  bare_condition (negation e child) = negation 0 (bare_condition child)
  bare_condition (one e op v) = one 0 op (bare_value v)
  bare_condition (two e op left right) = two 0 op (bare_value left) (bare_value right)
  bare_condition (comparison e which left right) = comparison 0 which (bare_value left) (bare_value right)
  bare_condition (quantifier e op name over body) = quantifier 0 op name (bare_value over) (bare_condition body)

  pub bare_conditions : Conditions → Conditions
  bare_conditions no_conditions = no_conditions
  bare_conditions (condition c others) = condition (bare_condition c) (bare_conditions others)

unfoldable pub bare_rule : Rule → Rule
bare_rule (rule name message assert) = rule name message (bare_condition assert)
bare_rule (template v) = template (bare_value v)
