-- Whether a rule or template mentions a field of the record: whether a reference or a quantifier's `in` has the field's name after the first dot
-- past its first character (document 02, T-14).
use Rattle.std.specs.Prelude.{Bool, false, ◌||◌, List, [], ◌∷◌}
use Rattle.std.proofs.Math.Option.{Option, none, some}
use Rattle.text.specs.Order.{same_bytes}
use Rattle.definition.specs.Tree.{Text, Value, constant, number, string, array, object, Values, no_values, value, Pairs, no_pairs, pair, Condition, literal, many, negation, one, two, comparison, quantifier, Conditions, no_conditions, condition, Rule, rule, template}
use Rattle.reference.specs.Path.{split}
use Rattle.validation.specs.Check.{reference_text}

-- whether these segments, which follow a first dot, begin with the name
unfoldable pub is_next : Text → List Text → Bool
is_next name [] = false
is_next name (s ∷ path) = same_bytes name s

-- no dot is part of a longer character: the first dot past the first byte is the first one past the first character
unfoldable pub past_first : Text → Text
past_first [] = []
past_first (b ∷ t) = t

unfoldable pub is_named : Text → Text → Bool
is_named name t = is_next name (split (past_first t)).others

-- a string, if it is a reference
unfoldable pub in_reference : Text → (t : Text) → Option Text → Bool
in_reference name t none = false
in_reference name t (some u) = is_named name t

unfoldable mutual
  pub in_value : Text → Value → Bool
  in_value name (constant e type) = false
  in_value name (number e digits) = false
  in_value name (string e t) = in_reference name t (reference_text t)
  in_value name (array e vs) = in_values name vs
  in_value name (object e pairs) = in_pairs name pairs

  pub in_values : Text → Values → Bool
  in_values name no_values = false
  in_values name (value v others) = in_value name v || in_values name others

  pub in_pairs : Text → Pairs → Bool
  in_pairs name no_pairs = false
  in_pairs name (pair key v others) = in_value name v || in_pairs name others

-- the value of a quantifier's `in`, whether it is a reference or not
unfoldable pub in_over : Text → Value → Bool
in_over name (constant e type) = false
in_over name (number e digits) = false
in_over name (string e t) = is_named name t
in_over name (array e vs) = false
in_over name (object e pairs) = false

unfoldable mutual
  pub in_condition : Text → Condition → Bool
  in_condition name (literal e truth) = false
  in_condition name (many e op children) = in_conditions name children
  in_condition name (negation e child) = in_condition name child
  in_condition name (one e op v) = in_value name v
  in_condition name (two e op left right) = in_value name left || in_value name right
  in_condition name (comparison e which left right) = in_value name left || in_value name right
  in_condition name (quantifier e op bind over body) = in_over name over || (in_value name over || in_condition name body)

  pub in_conditions : Text → Conditions → Bool
  in_conditions name no_conditions = false
  in_conditions name (condition c others) = in_condition name c || in_conditions name others

unfoldable pub mentions : Text → Rule → Bool
mentions name (rule rule_name message assert) = in_condition name assert
mentions name (template v) = in_value name v
