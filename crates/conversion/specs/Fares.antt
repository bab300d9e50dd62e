-- How the two conversions fare: each reply with its reason.
use Rattle.std.specs.Prelude.{ℕ, ◌≤◌, ◌<◌, List, ◌≡◌, length}
use Rattle.std.proofs.Math.Option.{none, some}
use Rattle.json_text.specs.Json.{Json}
use Rattle.json_text.specs.Escaped.{plain, written}
use Rattle.definition.specs.Tree.{Rule}
use Rattle.definition.specs.Decode.{decode_rule}
use Rattle.definition.specs.Write.{write_rule}
use Rattle.call.specs.Call.{Reply, refused_by, told}
use Rattle.json_rule.specs.Conversion.{Conversion, rule_in, json_in}

pub data FromJson (c : Conversion) : Reply (List ℕ) → Type 0 where
  no-rule : rule_in c.bytes ≡ none → FromJson c (refused_by 31)
  over-limit : (r : Rule) → rule_in c.bytes ≡ some r → decode_rule (write_rule r) ≡ none → FromJson c (refused_by 32)
  short-of-sheet : (r t : Rule) → rule_in c.bytes ≡ some r → decode_rule (write_rule r) ≡ some t → c.room < length (write_rule r) → FromJson c (refused_by 33)
  sheet-made : (r t : Rule) → rule_in c.bytes ≡ some r → decode_rule (write_rule r) ≡ some t → length (write_rule r) ≤ c.room → FromJson c (told (write_rule r))

pub data ToJson (c : Conversion) : Reply (List ℕ) → Type 0 where
  no-sheet : json_in c.bytes ≡ none → ToJson c (refused_by 5)
  short-of-text : (j : Json) → json_in c.bytes ≡ some j → c.room < length (written plain j) → ToJson c (refused_by 33)
  text-made : (j : Json) → json_in c.bytes ≡ some j → length (written plain j) ≤ c.room → ToJson c (told (written plain j))
