-- A tree as its sheet: each entry's head, then what it announces, in order. The entry numbers are not written.
use Rattle.std.specs.Prelude.{ℕ, ◌+◌, Bool, true, false, List, [], ◌++◌}
use Rattle.std.proofs.Math.Option.{Option, none, some}
use Rattle.sheet.specs.Entries.{HolderHead, literal_head, many_head, negation_head, one_head, two_head, comparison_head, quantifier_head, constant_head, number_head, string_head, array_head, object_head}
use Rattle.sheet.specs.Entries as Entries
use Rattle.sheet.specs.Write.{write_schema_head, write_field_head, write_rule_head, write_condition_head, write_value_head, write_key_head}
use Rattle.definition.specs.Tree.{Text, Field, field, Items, absent, element, Members, no_members, member, Holder, Schema, Value, constant, number, string, array, object, Values, no_values, value, Pairs, no_pairs, pair, Condition, literal, many, negation, one, two, comparison, quantifier, Conditions, no_conditions, condition, Rule, rule, template}

-- Fields

unfoldable pub has_items : Items → Bool
has_items absent = false
has_items (element f) = true

unfoldable pub count_of_members : Members → ℕ
count_of_members no_members = 0
count_of_members (member name f others) = count_of_members others + 1

unfoldable mutual
  pub write_field : Text → Field → List ℕ
  write_field name (field e kind is_open tag items ms) =
      write_field_head
      (record { kind = kind; is_open = is_open; has_items = has_items items; count = count_of_members ms; name = name; tag = tag })
      ++ (write_items items ++ write_members ms)

  -- an element's name is empty
  pub write_items : Items → List ℕ
  write_items absent = []
  write_items (element f) = write_field [] f

  pub write_members : Members → List ℕ
  write_members no_members = []
  write_members (member name f others) = write_field name f ++ write_members others

unfoldable pub head_of : Holder → HolderHead
head_of h = record { is_open = h.is_open; count = count_of_members h.members }

unfoldable pub head_of_arguments : Option Holder → Option HolderHead
head_of_arguments none = none
head_of_arguments (some h) = some (head_of h)

unfoldable pub write_arguments : Option Holder → List ℕ
write_arguments none = []
write_arguments (some h) = write_members h.members

unfoldable pub write_schema : Schema → List ℕ
write_schema t =
    write_schema_head (record { fields = head_of t.fields; arguments = head_of_arguments t.arguments })
    ++ (write_members t.fields.members ++ write_arguments t.arguments)

-- Values

unfoldable pub count_of_values : Values → ℕ
count_of_values no_values = 0
count_of_values (value v others) = count_of_values others + 1

unfoldable pub count_of_pairs : Pairs → ℕ
count_of_pairs no_pairs = 0
count_of_pairs (pair key v others) = count_of_pairs others + 1

unfoldable mutual
  pub write_value : Value → List ℕ
  write_value (constant e type) = write_value_head (constant_head type)
  write_value (number e digits) = write_value_head (number_head digits)
  write_value (string e text) = write_value_head (string_head text)
  write_value (array e vs) = write_value_head (array_head (count_of_values vs)) ++ write_values vs
  write_value (object e pairs) = write_value_head (object_head (count_of_pairs pairs)) ++ write_pairs pairs

  pub write_values : Values → List ℕ
  write_values no_values = []
  write_values (value v others) = write_value v ++ write_values others

  pub write_pairs : Pairs → List ℕ
  write_pairs no_pairs = []
  write_pairs (pair key v others) = write_key_head key ++ (write_value v ++ write_pairs others)

-- Conditions

unfoldable pub count_of_conditions : Conditions → ℕ
count_of_conditions no_conditions = 0
count_of_conditions (condition c others) = count_of_conditions others + 1

unfoldable mutual
  pub write_condition : Condition → List ℕ
  write_condition (literal e truth) = write_condition_head (literal_head truth)
  write_condition (many e op children) = write_condition_head (many_head op (count_of_conditions children)) ++ write_conditions children
  write_condition (negation e child) = write_condition_head negation_head ++ write_condition child
  write_condition (one e op v) = write_condition_head (one_head op) ++ write_value v
  write_condition (two e op left right) = write_condition_head (two_head op) ++ (write_value left ++ write_value right)
  write_condition (comparison e which left right) = write_condition_head (comparison_head which) ++ (write_value left ++ write_value right)
  write_condition (quantifier e op bind over body) = write_condition_head (quantifier_head op bind) ++ (write_value over ++ write_condition body)

  pub write_conditions : Conditions → List ℕ
  write_conditions no_conditions = []
  write_conditions (condition c others) = write_condition c ++ write_conditions others

unfoldable pub write_rule : Rule → List ℕ
write_rule (rule name message assert) = write_rule_head (Entries.rule name message) ++ write_condition assert
write_rule (template v) = write_rule_head Entries.template ++ write_value v
