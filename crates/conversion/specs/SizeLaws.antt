-- What the conversions tell is short: a sheet has at most 30,000 bytes, and JSON at most six times as many.
use Rattle.std.specs.Prelude.{ℕ, ◌≤◌, List, ◌≡◌, refl, length}
use Rattle.std.proofs.Common.{arith, ap}
use Rattle.std.proofs.Math.Option.{some}
use Rattle.json_text.specs.Json.{Json}
use Rattle.json_text.specs.Escaped.{plain, written}
use Rattle.definition.specs.Limits.{max_sheet_bytes}
use Rattle.definition.specs.Tree.{Rule, rule}
use Rattle.definition.specs.Decode.{decode_rule}
use Rattle.definition.proofs.RoundTrip.{rule-round-trip}
use Rattle.definition.specs.Write.{write_rule}
use Rattle.call.specs.Call.{Reply, reply_to, numbers_with, result_numbers}
use Rattle.call.proofs.CallLaws.{AllWithin}
use Rattle.json_rule.specs.AsJson.{rule_as_json}
use Rattle.json_rule.proofs.AsJsonLaws.{rule-most}
use Rattle.json_rule.specs.Conversion.{Conversion, from_json, json_in, to_json}
use Rattle.conversion.specs.Fares.{FromJson, no-rule, over-limit, short-of-sheet, sheet-made, ToJson, no-sheet, short-of-text, text-made}
use Rattle.conversion.specs.FareLaws.{from-fares, to-fares}
use Rattle.conversion.specs.RoundTrip.{json_of_rule, text_of}

abbrev pub max_json_bytes : ℕ
max_json_bytes = 180000

pub text-most : (sheet : List ℕ) (j : Json) → json_in sheet ≡ some j → length (written plain j) ≤ max_json_bytes
unfolding rule_as_json
text-most sheet j e =
    let (name, message, assert, decoded, same) = text_of sheet j e in
    let (writes, within) = (rule-round-trip sheet (rule name message assert)).0 decoded in
    let short = rule-most name message assert (json_of_rule name message assert) refl in
    let size : length (written plain j) ≡ length (written plain (json_of_rule name message assert)) = ap (λ (x : Json). length (written plain x)) same in
    omega (arith, within.bytes)

sheet-most : (r t : Rule) → decode_rule (write_rule r) ≡ some t → length (write_rule r) ≤ max_sheet_bytes
sheet-most r t e =
    let (writes, within) = (rule-round-trip (write_rule r) t).0 e in
    let size : length (write_rule r) ≡ length (write_rule t) = ap length writes in
    omega (arith, within.bytes)

-- so each number of a result has room in four bytes

from_low : (c : Conversion) {a : Reply (List ℕ)} → FromJson c a → AllWithin max_json_bytes (result_numbers from_json a)
unfolding numbers_with
from_low c (no-rule e) = (omega arith, (omega arith, tt))
from_low c (over-limit r e d) = (omega arith, (omega arith, tt))
from_low c (short-of-sheet r t e d h) = (omega arith, (omega arith, tt))
from_low c (sheet-made r t e d h) = (omega arith, (omega (arith, sheet-most r t d), tt))

to_low : (c : Conversion) {a : Reply (List ℕ)} → ToJson c a → AllWithin max_json_bytes (result_numbers to_json a)
unfolding numbers_with
to_low c (no-sheet e) = (omega arith, (omega arith, tt))
to_low c (short-of-text j e h) = (omega arith, (omega arith, tt))
to_low c (text-made j e h) = (omega arith, (text-most c.bytes j e, tt))

pub from-small : (c : Conversion) → AllWithin max_json_bytes (result_numbers from_json (reply_to from_json c))
from-small c = from_low c (from-fares c)

pub to-small : (c : Conversion) → AllWithin max_json_bytes (result_numbers to_json (reply_to to_json c))
to-small c = to_low c (to-fares c)
