-- Rules in whose values no object has a key twice, as Distinct says of JSON.
use Rattle.std.specs.Prelude.{Bool, true, ◌&&◌}
use Rattle.text.specs.Order.{none_twice}
use Rattle.definition.specs.Tree.{Value, constant, number, string, array, object, Values, no_values, value, Pairs, no_pairs, pair, Condition, literal, many, negation, one, two, comparison, quantifier, Conditions, no_conditions, condition, Rule, rule, template}
use Rattle.definition.specs.Decode.{keys_of}

unfoldable mutual
  pub apart_value : Value → Bool
  apart_value (constant e type) = true
  apart_value (number e digits) = true
  apart_value (string e text) = true
  apart_value (array e vs) = apart_values vs
  apart_value (object e pairs) = none_twice (keys_of pairs) && apart_pairs pairs

  pub apart_values : Values → Bool
  apart_values no_values = true
  apart_values (value v others) = apart_value v && apart_values others

  pub apart_pairs : Pairs → Bool
  apart_pairs no_pairs = true
  apart_pairs (pair key v others) = apart_value v && apart_pairs others

unfoldable mutual
  pub apart_condition : Condition → Bool
  apart_condition (literal e t) = true
  apart_condition (many e op children) = apart_conditions children
  apart_condition (negation e child) = apart_condition child
  apart_condition (one e op v) = apart_value v
  apart_condition (two e op left right) = apart_value left && apart_value right
  apart_condition (comparison e which left right) = apart_value left && apart_value right
  apart_condition (quantifier e op name over body) = apart_value over && apart_condition body

  pub apart_conditions : Conditions → Bool
  apart_conditions no_conditions = true
  apart_conditions (condition c others) = apart_condition c && apart_conditions others

unfoldable pub apart_rule : Rule → Bool
apart_rule (rule name message assert) = apart_condition assert
apart_rule (template v) = apart_value v
