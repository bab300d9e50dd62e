-- Values and their JSON text, by computation.
use mathlib.Core.List.{[], ◌∷◌}
use mathlib.Core.Path.{◌≡◌, refl}
use Rattle.text.specs.Ascii.{ascii}
use Rattle.definition.specs.Tree.{constant, number, string, array, object, no_values, value, no_pairs, pair}
use Rattle.json_rule.specs.AsJson.{json_of}

constants : json_of (array 1 (value (constant 2 1) (value (constant 3 2) (value (constant 4 3) no_values)))) ≡ ascii "[null,false,true]"
unfolding json_of
constants = refl

-- numbers as written, members in their order
members : json_of (object 1 (pair (ascii "b") (number 3 (ascii "-0")) (pair (ascii "a") (number 5 (ascii "1E+5")) no_pairs))) ≡ ascii "{\"b\":-0,\"a\":1E+5}"
unfolding json_of
members = refl

empty : json_of (array 1 (value (array 2 no_values) (value (object 3 no_pairs) no_values))) ≡ ascii "[[],{}]"
unfolding json_of
empty = refl

-- the short escapes, \u00xx below 20 hexadecimal, and a backslash before " and \
escapes : json_of (string 1 (0x8 ∷ 0x9 ∷ 0xA ∷ 0xC ∷ 0xD ∷ 0xB ∷ 0x1F ∷ 0x22 ∷ 0x5C ∷ [])) ≡ ascii "\"\\b\\t\\n\\f\\r\\u000b\\u001f\\\"\\\\\""
unfolding json_of
escapes = refl

-- 20, a slash, 7F and é as they are
as-they-are : json_of (string 1 (0x20 ∷ 0x2F ∷ 0x7F ∷ 0xC3 ∷ 0xA9 ∷ [])) ≡ 0x22 ∷ 0x20 ∷ 0x2F ∷ 0x7F ∷ 0xC3 ∷ 0xA9 ∷ 0x22 ∷ []
unfolding json_of
as-they-are = refl
