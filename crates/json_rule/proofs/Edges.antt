-- The conversions at their edges, by computation.
use Prim.Native.Nat.{ℕ}
use mathlib.Core.List.{List, [], ◌∷◌, ◌++◌}
use mathlib.Core.Option.{none, some, bind}
use mathlib.Core.Path.{◌≡◌, refl}
use lib.ListN.{replicate}
use Rattle.text.specs.Ascii.{ascii}
use Rattle.text.specs.Utf8 as Utf8
use Rattle.text.specs.Order.{same_bytes, is_among, none_twice}
use Rattle.text.specs.Reader as Reader
use Rattle.sheet.specs.Operators.{shape_of, operator_name, operator_row, row_in, operators, first_operator, row}
use Rattle.sheet.specs.Write as SheetWrite
use Rattle.json_text.specs.Encode.{utf8_of}
use Rattle.json_text.specs.Strings as Strings
use Rattle.json_text.specs.Escaped as Escaped
use Rattle.json_text.specs.Grammar as Grammar
use Rattle.json_text.specs.Distinct.{keys_of, distinct, distinct_elements, distinct_members}
use Rattle.definition.specs.Computing.{computing}
use Rattle.definition.specs.Write as Write
use Rattle.call.specs.Call.{Reply, refused_by, told, reply_to, heard_by, refused_or, first_refusal, EachDue, all_shown, by}
use Rattle.json_rule.specs.Shape as Shape
use Rattle.json_rule.specs.AsJson as AsJson
use Rattle.json_rule.specs.Conversion.{Conversion, is_missing, of_room, rule_in, sheet_of, sheet_from, from_json_refusals, from_json, json_in, text_of, text_from, to_json_refusals, to_json}

-- open every definition, so that an edge computes

unfoldable from : (text : List ℕ) (room : ℕ) → Reply (List ℕ)
unfolding computing bind same_bytes is_among none_twice shape_of operator_name operator_row row_in operators first_operator row SheetWrite.write_item SheetWrite.mark_of SheetWrite.write_length SheetWrite.write_text SheetWrite.write_end SheetWrite.write_rule_head SheetWrite.write_last SheetWrite.write_operator SheetWrite.write_condition_head SheetWrite.write_type SheetWrite.write_value_head SheetWrite.write_key_head utf8_of Strings.hex_value Strings.hex_digit Strings.hex4 Strings.paired Strings.unicode Strings.short_escape Strings.escape Strings.is_unescaped Strings.unescaped Strings.char Strings.char_then Strings.chars_in Strings.string Grammar.is_space Grammar.unspaced Grammar.spaces Grammar.is_of_number Grammar.number_run Grammar.number_text Grammar.spelled Grammar.scalar Grammar.comma_or Grammar.elements_after Grammar.members_after Grammar.elements_in Grammar.members_in Grammar.elements Grammar.members Grammar.container Grammar.value Grammar.at_end Grammar.document keys_of distinct distinct_elements distinct_members Write.count_of_values Write.count_of_pairs Write.count_of_conditions Write.write_value Write.write_values Write.write_pairs Write.write_condition Write.write_conditions Write.write_rule heard_by refused_or first_refusal Reader.or_else Shape.value_of Shape.values_of Shape.pairs_of Shape.number_of Shape.place_in Shape.operator_of Shape.comparison_names Shape.comparison_of Shape.as_left Shape.as_which Shape.as_right Shape.as_over Shape.as_bound Shape.as_body Shape.first_of Shape.comparison_from Shape.quantifier_from Shape.which_of Shape.bound_of Shape.comparison_part Shape.quantifier_part Shape.comparison_parts Shape.comparison_in Shape.two_from Shape.listed Shape.two_in Shape.conditions_from Shape.the_only Shape.operation Shape.condition_of Shape.operations Shape.children_of Shape.conditions_of Shape.parts_of Shape.quantifier_parts Shape.as_assert Shape.as_name Shape.as_message Shape.optional_of Shape.rule_part Shape.rule_parts Shape.rule_from Shape.rule_of is_missing of_room rule_in sheet_of sheet_from from_json_refusals
from text room = reply_to from_json (record { bytes = text; room = room })

unfoldable to : (sheet : List ℕ) (room : ℕ) → Reply (List ℕ)
unfolding computing bind operator_name operator_row row_in operators first_operator row Escaped.short_letter Escaped.letter_of Escaped.hex_of Escaped.control_of Escaped.escaped_byte Escaped.escaped Escaped.quoted Escaped.written Escaped.written_elements Escaped.written_members heard_by refused_or first_refusal Shape.comparison_names AsJson.constant_of AsJson.as_json AsJson.as_elements AsJson.as_members AsJson.comparison_name AsJson.operating AsJson.condition_as_json AsJson.conditions_as_elements AsJson.optionally AsJson.rule_as_json is_missing of_room json_in text_of text_from to_json_refusals
to sheet room = reply_to to_json (record { bytes = sheet; room = room })

-- document 01's example

abbrev example_sheet : List ℕ
example_sheet = ascii "R,-,-,\nC,20,1,b\nV,5,12,$fields.bars\nC,12,0,\nV,5,8,$b.count\nV,4,1,9\n"

abbrev example_text : List ℕ
example_text = ascii "{\"assert\":{\"for_all\":{\"in\":\"$fields.bars\",\"as\":\"b\",\"that\":{\"lt\":[\"$b.count\",9]}}}}"

example-to : to example_sheet 82 ≡ told example_text
unfolding to
example-to = refl

example-from : from example_text 67 ≡ told example_sheet
unfolding from
example-from = refl

-- 33 with a byte less
to-no-room : to example_sheet 81 ≡ refused_by 33
unfolding to
to-no-room = refl

from-no-room : from example_text 66 ≡ refused_by 33
unfolding from
from-no-room = refl

-- escapes, the order of members, number text as written; and the same sheet again
abbrev escaped_sheet : List ℕ
escaped_sheet = ascii "R,6,0,a\"\\\n" ++ (0x1F ∷ ascii "/\nC,18,6,\nV,1,0,\nV,7,1,\nK,1,k\nV,4,2,-0\n")

abbrev escaped_text : List ℕ
escaped_text = ascii "{\"name\":\"a\\\"\\\\\\u000a\\u001f/\",\"assert\":{\"compare\":{\"left\":null,\"op\":\"gte\",\"right\":{\"k\":-0}}},\"message\":\"\"}"

escaped-to : to escaped_sheet 200 ≡ told escaped_text
unfolding to
escaped-to = refl

escaped-from : from escaped_text 200 ≡ told escaped_sheet
unfolding from
escaped-from = refl

-- 5: a template, an empty sheet, a sheet short of its last byte
template : to (ascii "T\nV,1,0,\n") 200 ≡ refused_by 5
unfolding to
template = refl

no-sheet : to [] 0 ≡ refused_by 5
unfolding to
no-sheet = refl

unfinished : to (ascii "R,-,-,\nC,1,1,") 200 ≡ refused_by 5
unfolding to
unfinished = refl

-- 31: no text, a member that a rule has not, a key twice; null counts as absent, white space does not count
no_text : from [] 200 ≡ refused_by 31
unfolding from
no_text = refl

another-member : from (ascii "{\"assert\":true,\"x\":null}") 200 ≡ refused_by 31
unfolding from
another-member = refl

twice : from (ascii "{\"assert\":{\"exists\":{\"a\":1,\"\\u0061\":2}}}") 200 ≡ refused_by 31
unfolding from
twice = refl

absent : from (ascii " {\"name\": null,\"assert\" :true} ") 200 ≡ told (ascii "R,-,-,\nC,1,1,\n")
unfolding from
absent = refl

-- 32: a name of 513 bytes, and then 31 comes first; 512 pass
abbrev named : ℕ → List ℕ → List ℕ
named n behind = ascii "{\"name\":\"" ++ (replicate n 97 ++ (ascii "\",\"assert\":true" ++ behind))

over-limit : from (named 513 (ascii "}")) 0 ≡ refused_by 32
unfolding from
over-limit = refl

within-limit : from (named 512 (ascii "}")) 525 ≡ refused_by 33
unfolding from
within-limit = refl

before-limit : from (named 513 (ascii ",\"name\":null}")) 0 ≡ refused_by 31
unfolding from
before-limit = refl

-- each number is heard in some call

each_from : EachDue from_json_refusals (31 ∷ 32 ∷ 33 ∷ [])
unfolding from
each_from =
    by (record { bytes = []; room = 0 }) refl
    (by (record { bytes = named 513 (ascii "}"); room = 0 }) refl (by (record { bytes = example_text; room = 66 }) refl all_shown))

each_to : EachDue to_json_refusals (5 ∷ 33 ∷ [])
unfolding to
each_to = by (record { bytes = []; room = 0 }) refl (by (record { bytes = example_sheet; room = 0 }) refl all_shown)
