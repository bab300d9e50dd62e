-- Refusals in their order, by computation: each text has the fault of its number, and those of all numbers after it.
use Prim.Native.Nat.{ℕ, zero, suc, ◌-◌}
use mathlib.Core.List.{List, [], ◌∷◌, ◌++◌}
use mathlib.Core.Option.{Option, none, some}
use mathlib.Core.Path.{◌≡◌, refl}
use lib.ListN.{length}
use Rattle.text.specs.Ascii.{ascii}
use Rattle.sheet.specs.Operators as Operators
use Rattle.sheet.specs.Write as Heads
use Rattle.definition.specs.Computing.{computing}
use Rattle.definition.specs.Write as Write
use Rattle.call.specs.Call.{first_refusal}
use Rattle.json_text.specs.Encode.{utf8_of}
use Rattle.json_text.specs.Strings as Strings
use Rattle.json_text.specs.Grammar as Grammar
use Rattle.json_text.specs.Distinct as Distinct
use Rattle.json_rule.specs.Shape as Shape
use Rattle.json_rule.specs.Conversion.{is_missing, of_room, rule_in, sheet_of, sheet_from, from_json_refusals}

-- opens every definition, so that an example computes
unfoldable heard : List ℕ → ℕ → Option ℕ
unfolding computing first_refusal is_missing of_room rule_in sheet_of sheet_from from_json_refusals utf8_of Strings.hex_value Strings.hex_digit Strings.hex4 Strings.paired Strings.unicode Strings.short_escape Strings.escape Strings.is_unescaped Strings.unescaped Strings.char Strings.char_then Strings.chars_in Strings.string Grammar.is_space Grammar.unspaced Grammar.spaces Grammar.is_of_number Grammar.number_run Grammar.number_text Grammar.spelled Grammar.scalar Grammar.comma_or Grammar.elements_after Grammar.members_after Grammar.elements_in Grammar.members_in Grammar.elements Grammar.members Grammar.container Grammar.value Grammar.at_end Grammar.document Distinct.keys_of Distinct.distinct Operators.operator_row Operators.row_in Operators.operators Operators.first_operator Operators.row Shape.value_of Shape.number_of Shape.operator_of Shape.the_only Shape.operation Shape.condition_of Shape.first_of Shape.as_assert Shape.as_name Shape.as_message Shape.optional_of Shape.rule_part Shape.rule_parts Shape.rule_from Shape.rule_of Heads.write_end Heads.write_item Heads.mark_of Heads.write_length Heads.write_text Heads.write_rule_head Heads.write_last Heads.write_operator Heads.write_condition_head Heads.write_type Heads.write_value_head Heads.write_key_head Write.count_of_values Write.count_of_pairs Write.write_value Write.write_condition Write.write_rule
heard text room = first_refusal (from_json_refusals (record { bytes = text; room = room }))

-- so many arrays around a text
unfoldable wrapped : ℕ → List ℕ → List ℕ
wrapped zero text = text
wrapped (suc n) text = 0x5B ∷ (wrapped n text ++ (0x5D ∷ []))

-- a rule with that value
unfoldable holding : List ℕ → List ℕ
holding v = ascii "{\"assert\":{\"exists\":" ++ (v ++ ascii "}}")

-- the same key twice, once with an escape; more levels than a value may have; no room
repeated : heard (holding (wrapped 65 (ascii "{\"a\":1,\"\\u0061\":2}"))) 0 ≡ some 31
unfolding heard wrapped holding
repeated = refl

deep : heard (holding (wrapped 64 (ascii "{}"))) 0 ≡ some 32
unfolding heard wrapped holding
deep = refl

no_room : heard (holding (wrapped 63 (ascii "{}"))) 0 ≡ some 33
unfolding heard wrapped holding
no_room = refl

-- a buffer one byte shorter than the sheet, and one as long
short-by-one : heard (ascii "{\"assert\":true}") (length (sheet_from (record { bytes = ascii "{\"assert\":true}"; room = 0 })) - 1) ≡ some 33
unfolding heard
short-by-one = refl

as_long : heard (ascii "{\"assert\":true}") (length (sheet_from (record { bytes = ascii "{\"assert\":true}"; room = 0 }))) ≡ none
unfolding heard
as_long = refl
