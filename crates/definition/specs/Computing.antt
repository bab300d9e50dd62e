-- Opens every definition that the decoders rest on: under `unfolding computing` a worked example holds by computation.
use Rattle.definition.specs.Decode as Decode
use Rattle.sheet.specs.Computing as Sheet

unfoldable pub computing : Unit {0}
unfolding Decode.entered Decode.entry Decode.announce Decode.at_end Decode.whole Decode.element_of Decode.members_of Decode.to_count Decode.field_in Decode.holder_of Decode.arguments_of Decode.schema Decode.decode_schema Decode.values_of Decode.pairs_of Decode.keys_of Decode.object_of Decode.value_of Decode.value_in Decode.conditions_of Decode.condition_of Decode.condition_in Decode.rule_of Decode.any_rule Decode.decode_rule Sheet.computing
computing = tt
