-- Opens every definition under the entries of a sheet: under `unfolding computing` a worked example holds by computation.
use Rattle.std.proofs.Math.Option.{bind}
use Rattle.text.specs.Utf8 as Utf8
use Rattle.text.specs.Decimal as Decimal
use Rattle.text.specs.Ascii as Ascii
use Rattle.text.specs.Reader as Reader
use Rattle.text.specs.ByteReaders as ByteReaders
use Rattle.text.specs.Numeral as Numeral
use Rattle.text.specs.Order as Order
use Rattle.number.specs.Grammar as Grammar
use Rattle.sheet.specs.Operators as Operators
use Rattle.sheet.specs.Entries as Entries

unfoldable pub computing : Unit {0}
unfolding bind Utf8.between Utf8.is_tail Utf8.utf8-1 Utf8.is_utf8-2 Utf8.utf8-2 Utf8.is_second_of3 Utf8.is_utf8-3 Utf8.utf8-3 Utf8.is_second_of4 Utf8.is_utf8-4 Utf8.utf8-4 Utf8.or_else Utf8.decode_one Utf8.points_from Utf8.code_points_in Utf8.code_points Utf8.is_some Utf8.is_utf8 Decimal.is_digit Grammar.run Grammar.past Grammar.some_digits Grammar.digits Grammar.leads Grammar.int Grammar.frac Grammar.is_empty Grammar.last Grammar.power Grammar.exp Grammar.unsigned Grammar.number Grammar.is_some Grammar.is_number Ascii.ascii Reader.pure Reader.refuse Reader.and_then Reader.◌>>=◌ Reader.◌>>◌ Reader.ensure Reader.or_else Reader.either Numeral.digits Numeral.decimal Numeral.numeral Numeral.decimal_in Numeral.decimal_of Order.precedes Order.same_bytes Order.follows Order.is_among Order.none_twice ByteReaders.byte Entries.item Entries.mark Entries.text_length ByteReaders.bytes Entries.text Entries.optional_text Entries.holder_head Entries.arguments_head Entries.schema_head Entries.field_head Entries.rule_head Entries.behind_operator Entries.condition_head Entries.constant_rest Entries.number_rest Entries.string_rest Entries.array_rest Entries.object_rest Entries.behind_type Entries.value_head Entries.key_head Operators.shape_of
computing = tt
