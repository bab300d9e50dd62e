-- A conversion as a C function hands it over.
use Prim.Native.Nat.{ℕ}
use native.Mathlib.Omega.{arith}
use mathlib.Core.List.{List, [], ◌∷◌}
use mathlib.Core.Path.{◌≡◌, refl}
use lib.ListN.{get_or}
use Rattle.buffer.specs.Bytes.{InFourBytes, no_more, one_more}
use Rattle.call.specs.Call.{Shape, result_numbers, Meets}
use Rattle.call.proofs.CallLaws.{AllWithin}
use Rattle.json_rule.specs.Conversion.{Conversion, run_of}
use Rattle.conversion.specs.SizeLaws.{max_json_bytes}
use Rattle.entity_rules.specs.Entry.{numbers_after}
use Rattle.entity_rules.specs.JsonEntry.{converted_reply, Converted}
use Rattle.entity_rules.proofs.BookSteps.{handed}

in_four : (ns : List ℕ) → AllWithin max_json_bytes ns → InFourBytes ns
in_four [] h = no_more
in_four (n ∷ ns) h = one_more {n = n} (omega (arith, h.0)) (in_four ns h.1)

pub conversion-handed : (s : Shape Conversion (List ℕ)) (bytes before now numbers result : List ℕ) {result_now : List ℕ} {r : ℕ}
    → AllWithin max_json_bytes (result_numbers s (converted_reply s bytes before))
    → Meets s (run_of bytes before now numbers)
    → result_now ≡ numbers_after numbers result
    → r ≡ get_or numbers 0 0
    → Converted s bytes before now result result_now r
conversion-handed s bytes before now numbers result small m w n =
    handed s (run_of bytes before now numbers) m refl m.buffers (in_four (result_numbers s (converted_reply s bytes before)) small) w n
