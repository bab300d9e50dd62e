-- The writing of a small schema, rule and template, byte for byte.
use Prim.Native.Nat.{ℕ}
use mathlib.Core.Bool.{true, false}
use mathlib.Core.List.{List}
use mathlib.Core.Option.{none, some}
use mathlib.Core.Path.{◌≡◌, refl}
use Rattle.text.specs.Ascii.{ascii}
use Rattle.text.specs.Numeral.{decimal_in, decimal_of}
use Rattle.sheet.specs.Write.{write_end, write_item, mark_of, write_mark, write_length, write_text, write_holder_head, write_arguments_head, write_schema_head, write_field_head, write_rule_head, write_last, write_operator, write_condition_head, write_type, write_value_head, write_key_head}
use Rattle.definition.specs.Tree.{Schema, field, absent, element, no_members, member, number, string, constant, array, object, no_values, value, no_pairs, pair, rule, template, quantifier, two, negation}
use Rattle.definition.specs.Write.{has_items, count_of_members, write_field, head_of, head_of_arguments, write_arguments, write_schema, count_of_values, count_of_pairs, write_value, count_of_conditions, write_condition, write_rule}

-- opens every writer, so that an example computes
opened : Schema → List ℕ
unfolding ascii decimal_in decimal_of write_end write_item mark_of write_mark write_length write_text write_holder_head write_arguments_head write_schema_head write_field_head write_rule_head write_last write_operator write_condition_head write_type write_value_head write_key_head has_items count_of_members write_field head_of head_of_arguments write_arguments write_schema count_of_values count_of_pairs write_value count_of_conditions write_condition write_rule
opened t = write_schema t

-- an open record with `tags`, an array of strings, and the union `unit` with the tag `of`; arguments without fields
schema-written :
    write_schema
    (record {
      fields =
          record {
            is_open = true;
            members =
                member (ascii "tags") (field 2 6 false none (element (field 3 1 false none absent no_members)) no_members)
                (member (ascii "unit") (field 4 11 false (some (ascii "of")) absent no_members) no_members);
          };
      arguments = some (record { is_open = false; members = no_members });
    })
    ≡ ascii "H,1,2,0,0\nF,6,0,1,0,4,-,tags\nF,1,0,0,0,0,-,\nF,11,0,0,0,4,2,unitof\n"
unfolding opened
schema-written = refl

-- every tag, `t` for short, is not among two values
rule-written :
    write_rule
    (rule (some (ascii "tags")) none
    (quantifier 2 20 (ascii "t") (string 3 (ascii "$fields.tags"))
    (negation 4 (two 5 14 (string 6 (ascii "$t")) (array 7 (value (number 8 (ascii "-0.5")) (value (constant 9 1) no_values)))))))
    ≡ ascii "R,4,-,tags\nC,20,1,t\nV,5,12,$fields.tags\nC,4,0,\nC,14,0,\nV,5,2,$t\nV,6,2,\nV,4,4,-0.5\nV,1,0,\n"
unfolding opened
rule-written = refl

template-written :
    write_rule (template (object 2 (pair (ascii "a") (constant 4 3) (pair (ascii "b") (string 6 (ascii "x,\n")) no_pairs))))
    ≡ ascii "T\nV,7,2,\nK,1,a\nV,3,0,\nK,1,b\nV,5,3,x,\n\n"
unfolding opened
template-written = refl
