-- What `rulecheck_from_json` and `rulecheck_to_json` answer, and what their two buffers hold after them (docs/FORMAT.md, "The C interface").
use Rattle.std.specs.Prelude.{ℕ, List, [], ◌∷◌, length}
use Rattle.buffer.specs.Bytes.{InFourBytes}
use Rattle.call.specs.Call.{Reply, Shape, reply_to, result_numbers}
use Rattle.json_rule.specs.Conversion.{Conversion}
use Rattle.entity_rules.specs.Entry.{numbers_after, Handed}

-- two numbers of four bytes
abbrev pub conversion_bytes : ℕ
conversion_bytes = 8

-- the reply to a call that is lent so many bytes
abbrev pub converted_reply : Shape Conversion (List ℕ) → (bytes lent : List ℕ) → Reply (List ℕ)
converted_reply s bytes lent = reply_to s (record { bytes = bytes; room = length lent })

-- what is returned, and the buffers; since the numbers are small, they can be read back (JsonEntryLaws, `field-of-conversion`)
abbrev pub Converted : Shape Conversion (List ℕ) → (bytes before now result_before result_now : List ℕ) (r : ℕ) → Type 0
Converted s bytes before now result_before result_now r =
    Handed (converted_reply s bytes before) (result_numbers s (converted_reply s bytes before)) numbers_after InFourBytes (s.leaves (converted_reply s bytes before))
    (record { before = before; after = now } ∷ []) result_before result_now r
