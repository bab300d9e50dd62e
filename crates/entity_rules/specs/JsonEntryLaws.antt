-- What a host may rely on where it converts: `rulecheck_field` gives both numbers of the answer; a refusal is one of 31, 32 and 33, or of 5 and 33, and leaves the buffer; what is told
-- is at the buffer's start, all other bytes keep their values; and a sheet turned to JSON and back is the same sheet.
use Rattle.std.specs.Prelude.{ℕ, ◌*◌, ◌≤◌, ◌<◌, true, List, [], ◌∷◌, ◌≡◌, refl, get_or}
use native.Mathlib.Omega.{arith}
use Rattle.std.proofs.Math.Path.{ap}
use Rattle.std.proofs.Common.{◌∙◌}
use Rattle.std.proofs.Math.ListN.{length}
use Rattle.std.proofs.lemmas.List.Edits.{sets}
use borrow.Author.Tests.{le-leb}
use Rattle.buffer.specs.Bytes.{field_at}
use Rattle.buffer.specs.BytesLaws.{field-written}
use Rattle.reference.specs.Setting.{one_of}
use Rattle.call.specs.Call.{Refusal, told, if_told, result_numbers, number_of}
use Rattle.call.proofs.CallLaws.{numbers-size}
use Rattle.json_rule.specs.Conversion.{Conversion, converting, from_json, to_json}
use Rattle.conversion.specs.FareLaws.{from-among, to-among}
use Rattle.entity_rules.specs.Entry.{numbers_after}
use Rattle.entity_rules.specs.HandedLaws.{returned-refused, returned-among}
use Rattle.entity_rules.specs.JsonEntry.{conversion_bytes, converted_reply, Converted}

module _ (refusals : Conversion → List Refusal) (makes : Conversion → List ℕ) (bytes : List ℕ) {before now result_before result_now : List ℕ} {r : ℕ}
    (a : Converted (converting refusals makes) bytes before now result_before result_now r) where
  -- a number of the result
  pub field-of-conversion : (i : ℕ) → i < 2 → conversion_bytes ≤ length result_before
      → field_at i result_now ≡ get_or (result_numbers (converting refusals makes) (converted_reply (converting refusals makes) bytes before)) i 0
  unfolding numbers_after
  field-of-conversion i less room =
      let numbers = result_numbers (converting refusals makes) (converted_reply (converting refusals makes) bytes before) in
      let two : length (result_numbers (converting refusals makes) (converted_reply (converting refusals makes) bytes before)) ≡ 2 = numbers-size 1 (converting refusals makes).figures (converted_reply (converting refusals makes) bytes before) (λ x e. refl) in
      let fits : 4 * length (result_numbers (converting refusals makes) (converted_reply (converting refusals makes) bytes before)) ≤ length result_before = omega arith in
      rw (a.result, le-leb (4 * length (result_numbers (converting refusals makes) (converted_reply (converting refusals makes) bytes before))) (length result_before) fits)
      (field-written (result_numbers (converting refusals makes) (converted_reply (converting refusals makes) bytes before)) result_before fits i (omega arith) a.small)

  -- after a refusal, which is what is returned where that is not 0
  pub kept-after-refusal : (r ≡ 0 → ⊥) → now ≡ before
  unfolding if_told
  kept-after-refusal other = rw (returned-refused a other) at a.buffers.0

  -- what is told
  pub told-stands : (made : List ℕ) → converted_reply (converting refusals makes) bytes before ≡ told made → (r ≡ 0) × (now ≡ sets before 0 made)
  unfolding if_told number_of
  told-stands made e = (a.number ∙ ap number_of e, rw e at a.buffers.0)

pub from-listed : (text : List ℕ) {before now result_before result_now : List ℕ} {r : ℕ} → Converted from_json text before now result_before result_now r
    → (r ≡ 0 → ⊥)
    → one_of r (31 ∷ 32 ∷ 33 ∷ []) ≡ true
from-listed text {before} a = returned-among a (31 ∷ 32 ∷ 33 ∷ []) (from-among (record { bytes = text; room = length before }))

pub to-listed : (sheet : List ℕ) {before now result_before result_now : List ℕ} {r : ℕ} → Converted to_json sheet before now result_before result_now r
    → (r ≡ 0 → ⊥)
    → one_of r (5 ∷ 33 ∷ []) ≡ true
to-listed sheet {before} a = returned-among a (5 ∷ 33 ∷ []) (to-among (record { bytes = sheet; room = length before }))
