-- Sheets of 30,000 bytes, the most that a sheet may have, and of one byte more, by computation.
use Prim.Native.Nat.{ℕ, zero, suc, ◌+◌}
use mathlib.Core.Bool.{Bool, true, false}
use mathlib.Core.List.{List, ◌∷◌, ◌++◌}
use mathlib.Core.Option.{Option, none, some}
use mathlib.Core.Path.{◌≡◌, refl}
use lib.ListN.{length, replicate}
use Rattle.text.specs.Ascii.{ascii}
use Rattle.definition.specs.Decode.{decode_schema, decode_rule}
use Rattle.definition.specs.Computing.{computing}

unfoldable is_some : {A : Type 0} → Option A → Bool
is_some none = false
is_some (some x) = true

-- so many strings of 500 bytes, then the rest
unfoldable strings : ℕ → List ℕ → List ℕ
strings zero rest = rest
strings (suc n) rest = ascii "V,5,500," ++ (replicate 500 0x6B ++ (ascii "\n" ++ strings n rest))

-- a template of 59 strings, the last of them given by its entry
unfoldable template_with : (head : List ℕ) (size : ℕ) → List ℕ
template_with head size = ascii "T\nV,6,59,\n" ++ strings 58 (head ++ (replicate size 0x6B ++ ascii "\n"))

-- so many fields whose names of 500 bytes rise, then the rest
unfoldable fields : (first count : ℕ) → List ℕ → List ℕ
fields first zero rest = rest
fields first (suc n) rest = ascii "F,1,0,0,0,500,-," ++ (first ∷ replicate 499 0x6B ++ (ascii "\n" ++ fields (first + 1) n rest))

-- a record of 58 fields, the last of them given by its entry
unfoldable schema_with : (head : List ℕ) (size : ℕ) → List ℕ
schema_with head size = ascii "H,0,58,-,0\n" ++ fields 0x21 57 (head ++ (replicate size 0x7A ++ ascii "\n"))

rule-length : length (template_with (ascii "V,5,459,") 459) ≡ 30000
unfolding computing ascii template_with strings
rule-length = refl

rule-30000 : is_some (decode_rule (template_with (ascii "V,5,459,") 459)) ≡ true
unfolding computing ascii is_some template_with strings
rule-30000 = refl

rule-30001 : is_some (decode_rule (template_with (ascii "V,5,460,") 460)) ≡ false
unfolding computing ascii is_some template_with strings
rule-30001 = refl

schema-length : length (schema_with (ascii "F,1,0,0,0,503,-,") 503) ≡ 30000
unfolding computing ascii schema_with fields
schema-length = refl

schema-30000 : is_some (decode_schema (schema_with (ascii "F,1,0,0,0,503,-,") 503)) ≡ true
unfolding computing ascii is_some schema_with fields
schema-30000 = refl

schema-30001 : is_some (decode_schema (schema_with (ascii "F,1,0,0,0,504,-,") 504)) ≡ false
unfolding computing ascii is_some schema_with fields
schema-30001 = refl
