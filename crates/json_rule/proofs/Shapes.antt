-- JSON that is a rule, and neighbours that are none, by computation (definition.rs).
use Prim.Native.Nat.{ℕ}
use mathlib.Core.Bool.{true, false}
use mathlib.Core.List.{List, [], ◌∷◌}
use mathlib.Core.Option.{Option, none, some, bind}
use mathlib.Core.Path.{◌≡◌, refl}
use Rattle.text.specs.Ascii.{ascii}
use Rattle.sheet.specs.Operators.{shape_of, operator_row, row_in, operators, first_operator, row}
use Rattle.text.specs.Order.{same_bytes, is_among, none_twice}
use Rattle.text.specs.Reader.{or_else}
use Rattle.json_text.specs.Distinct.{keys_of}
use Rattle.json_text.specs.Json.{Json, null, truth, number, string, array, object, no_elements, element, Members, no_members, member}
use Rattle.definition.specs.Tree.{constant, Condition, literal, many, negation, one, two, comparison, quantifier, no_conditions, condition, Rule, rule}
use Rattle.definition.specs.Tree as Tree
use Rattle.json_rule.specs.Shape.{value_of, values_of, pairs_of, number_of, place_in, operator_of, comparison_names, comparison_of, as_left, as_which, as_right, as_over, as_bound, as_body, first_of, comparison_from, quantifier_from, which_of, bound_of, comparison_part, quantifier_part, comparison_parts, comparison_in, two_from, listed, two_in, conditions_from, the_only, operation, condition_of, operations, children_of, conditions_of, parts_of, quantifier_parts, as_assert, as_name, as_message, optional_of, rule_part, rule_parts, rule_from, rule_of}

-- opens every definition, so that an example computes
unfoldable made : Json → Option Rule
unfolding bind ascii shape_of operator_row row_in same_bytes is_among none_twice or_else value_of values_of pairs_of number_of operators first_operator row place_in operator_of comparison_names comparison_of as_left as_which as_right as_over as_bound as_body first_of comparison_from quantifier_from which_of bound_of comparison_part quantifier_part comparison_parts comparison_in two_from listed two_in conditions_from the_only operation condition_of operations children_of conditions_of parts_of quantifier_parts as_assert as_name as_message optional_of rule_part rule_parts keys_of rule_from rule_of
made j = rule_of j

-- a rule of one condition
abbrev asserting : Json → Json
asserting c = object (member (ascii "assert") c no_members)

plain : made (object (member (ascii "message") null (member (ascii "assert") (truth true) (member (ascii "name") (string (ascii "n")) no_members))))
    ≡ some (rule (some (ascii "n")) none (literal 0 true))
unfolding made
plain = refl

-- in any order
compared : made (asserting (object (member (ascii "compare") (object (member (ascii "right") null (member (ascii "left") (truth false) (member (ascii "op") (string (ascii "gte")) no_members)))) no_members)))
    ≡ some (rule none none (comparison 0 6 (constant 0 2) (constant 0 1)))
unfolding made
compared = refl

quantified : made (asserting (object (member (ascii "for_any") (object (member (ascii "that") (truth false) (member (ascii "in") (array no_elements) (member (ascii "as") (string (ascii "x")) no_members)))) no_members)))
    ≡ some (rule none none (quantifier 0 21 (ascii "x") (Tree.array 0 Tree.no_values) (literal 0 false)))
unfolding made
quantified = refl

several : made (asserting (object (member (ascii "all") (array (element (object (member (ascii "exists") null no_members)) (element (object (member (ascii "lt") (array (element null (element null no_elements))) no_members)) no_elements))) no_members)))
    ≡ some (rule none none (many 0 2 (condition (one 0 5 (constant 0 1)) (condition (two 0 12 (constant 0 1) (constant 0 1)) no_conditions))))
unfolding made
several = refl

-- no `assert`
without : made (object (member (ascii "name") null no_members)) ≡ none
unfolding made
without = refl

-- another member
unknown : made (object (member (ascii "assert") (truth true) (member (ascii "x") null no_members))) ≡ none
unfolding made
unknown = refl

-- two operators
twofold : made (asserting (object (member (ascii "exists") null (member (ascii "truthy") null no_members)))) ≡ none
unfolding made
twofold = refl

-- three operands
three : made (asserting (object (member (ascii "eq") (array (element null (element null (element null no_elements)))) no_members))) ≡ none
unfolding made
three = refl

-- a part twice, and one missing
twice : made (asserting (object (member (ascii "compare") (object (member (ascii "left") null (member (ascii "left") null (member (ascii "op") (string (ascii "eq")) no_members)))) no_members))) ≡ none
unfolding made
twice = refl

-- null is no condition
nothing : made (asserting null) ≡ none
unfolding made
nothing = refl
