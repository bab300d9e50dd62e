-- A tree with the numbers that its entries have in a sheet, and when it keeps the limits of one.
use Rattle.std.specs.Prelude.{ℕ, ◌+◌, ◌≤◌, max, length}
use Rattle.std.proofs.Math.Option.{Option, none, some}
use Rattle.sheet.specs.Entries.{max_text}
use Rattle.definition.specs.Tree.{Text, Value, constant, number, string, array, object, Values, no_values, value, Pairs, no_pairs, pair, Condition, literal, many, negation, one, two, comparison, quantifier, Conditions, no_conditions, condition, Rule, rule, template}
use Rattle.definition.specs.Limits.{max_sheet_bytes, max_rule_entries, max_condition_nesting, max_value_nesting}
use Rattle.definition.specs.Within.{value_entries, condition_entries, rule_entries, value_nesting, condition_nesting}
use Rattle.definition.specs.Write.{write_rule}

unfoldable mutual
  pub numbered_value : ℕ → Value → Value
  numbered_value n (constant e type) = constant n type
  numbered_value n (number e digits) = number n digits
  numbered_value n (string e text) = string n text
  numbered_value n (array e vs) = array n (numbered_values (n + 1) vs)
  numbered_value n (object e pairs) = object n (numbered_pairs (n + 1) pairs)

  pub numbered_values : ℕ → Values → Values
  numbered_values n no_values = no_values
  numbered_values n (value v others) = value (numbered_value n v) (numbered_values (n + value_entries v) others)

  pub numbered_pairs : ℕ → Pairs → Pairs
  numbered_pairs n no_pairs = no_pairs
  numbered_pairs n (pair key v others) = pair key (numbered_value (n + 1) v) (numbered_pairs (n + 1 + value_entries v) others)

unfoldable mutual
  pub numbered_condition : ℕ → Condition → Condition
  numbered_condition n (literal e t) = literal n t
  numbered_condition n (many e op children) = many n op (numbered_conditions (n + 1) children)
  numbered_condition n (negation e child) = negation n (numbered_condition (n + 1) child)
  numbered_condition n (one e op v) = one n op (numbered_value (n + 1) v)
  numbered_condition n (two e op left right) = two n op (numbered_value (n + 1) left) (numbered_value (n + 1 + value_entries left) right)
  numbered_condition n (comparison e which left right) = comparison n which (numbered_value (n + 1) left) (numbered_value (n + 1 + value_entries left) right)
  numbered_condition n (quantifier e op name over body) = quantifier n op name (numbered_value (n + 1) over) (numbered_condition (n + 1 + value_entries over) body)

  pub numbered_conditions : ℕ → Conditions → Conditions
  numbered_conditions n no_conditions = no_conditions
  numbered_conditions n (condition c others) = condition (numbered_condition n c) (numbered_conditions (n + condition_entries c) others)

-- the first entry is the sheet's head
unfoldable pub numbered_rule : Rule → Rule
numbered_rule (rule name message assert) = rule name message (numbered_condition 2 assert)
numbered_rule (template v) = template (numbered_value 2 v)

-- The longest text of a tree, in bytes

unfoldable mutual
  pub longest_of_value : Value → ℕ
  longest_of_value (constant e type) = 0
  longest_of_value (number e digits) = length digits
  longest_of_value (string e text) = length text
  longest_of_value (array e vs) = longest_of_values vs
  longest_of_value (object e pairs) = longest_of_pairs pairs

  pub longest_of_values : Values → ℕ
  longest_of_values no_values = 0
  longest_of_values (value v others) = max (longest_of_value v) (longest_of_values others)

  pub longest_of_pairs : Pairs → ℕ
  longest_of_pairs no_pairs = 0
  longest_of_pairs (pair key v others) = max (length key) (max (longest_of_value v) (longest_of_pairs others))

unfoldable mutual
  pub longest_of_condition : Condition → ℕ
  longest_of_condition (literal e t) = 0
  longest_of_condition (many e op children) = longest_of_conditions children
  longest_of_condition (negation e child) = longest_of_condition child
  longest_of_condition (one e op v) = longest_of_value v
  longest_of_condition (two e op left right) = max (longest_of_value left) (longest_of_value right)
  longest_of_condition (comparison e which left right) = max (longest_of_value left) (longest_of_value right)
  longest_of_condition (quantifier e op bind over body) = max (length bind) (max (longest_of_value over) (longest_of_condition body))

  pub longest_of_conditions : Conditions → ℕ
  longest_of_conditions no_conditions = 0
  longest_of_conditions (condition c others) = max (longest_of_condition c) (longest_of_conditions others)

unfoldable pub length_of : Option Text → ℕ
length_of none = 0
length_of (some t) = length t

unfoldable pub longest_text : Rule → ℕ
longest_text (rule name message assert) = max (length_of name) (max (length_of message) (longest_of_condition assert))
longest_text (template v) = longest_of_value v

-- How deep the values of a tree nest

unfoldable mutual
  pub deepest_of_condition : Condition → ℕ
  deepest_of_condition (literal e t) = 0
  deepest_of_condition (many e op children) = deepest_of_conditions children
  deepest_of_condition (negation e child) = deepest_of_condition child
  deepest_of_condition (one e op v) = value_nesting v
  deepest_of_condition (two e op left right) = max (value_nesting left) (value_nesting right)
  deepest_of_condition (comparison e which left right) = max (value_nesting left) (value_nesting right)
  deepest_of_condition (quantifier e op bind over body) = max (value_nesting over) (deepest_of_condition body)

  pub deepest_of_conditions : Conditions → ℕ
  deepest_of_conditions no_conditions = 0
  deepest_of_conditions (condition c others) = max (deepest_of_condition c) (deepest_of_conditions others)

unfoldable pub deepest_value : Rule → ℕ
deepest_value (rule name message assert) = deepest_of_condition assert
deepest_value (template v) = value_nesting v

unfoldable pub deepest_condition : Rule → ℕ
deepest_condition (rule name message assert) = condition_nesting assert
deepest_condition (template v) = 0

-- the limits of a rule's sheet (document 01), and nothing else
pub record KeepsLimits (r : Rule) : Type 0 where
  pub entries : rule_entries r ≤ max_rule_entries
  pub bytes : length (write_rule r) ≤ max_sheet_bytes
  pub texts : longest_text r ≤ max_text
  pub conditions : deepest_condition r ≤ max_condition_nesting
  pub values : deepest_value r ≤ max_value_nesting
