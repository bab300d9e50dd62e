-- How many entries a schema sheet may have, by computation: a record of 1,023 fields is read, one of 1,024 is not.
use Prim.Native.Nat.{ℕ, zero, suc, ◌+◌, ◌/◌, ◌%◌}
use mathlib.Core.Bool.{Bool, true, false}
use mathlib.Core.List.{List, [], ◌∷◌, ◌++◌}
use mathlib.Core.Option.{Option, none, some}
use mathlib.Core.Path.{◌≡◌, refl}
use Rattle.text.specs.Ascii.{ascii}
use Rattle.text.specs.Numeral.{decimal_in, decimal_of}
use Rattle.definition.specs.Tree.{Schema}
use Rattle.definition.specs.Decode.{decode_schema}
use Rattle.definition.specs.Computing.{computing}

unfoldable is_read : Option Schema → Bool
is_read none = false
is_read (some t) = true

-- names of four digits, which rise
unfoldable name : ℕ → List ℕ
name i = (48 + i / 1000) ∷ (48 + i / 100 % 10) ∷ (48 + i / 10 % 10) ∷ (48 + i % 10) ∷ []

unfoldable fields_from : (count first : ℕ) → List ℕ
fields_from zero i = []
fields_from (suc n) i = ascii "F,2,0,0,0,4,-," ++ (name i ++ 10 ∷ fields_from n (i + 1))

-- a closed record of so many fields, and no arguments
unfoldable wide : ℕ → List ℕ
wide n = ascii "H,0," ++ (decimal_of n ++ (ascii ",-,0\n" ++ fields_from n 0))

entries-1024 : is_read (decode_schema (wide 1023)) ≡ true
unfolding computing is_read name fields_from wide decimal_in decimal_of
entries-1024 = refl

entries-1025 : is_read (decode_schema (wide 1024)) ≡ false
unfolding computing is_read name fields_from wide decimal_in decimal_of
entries-1025 = refl
