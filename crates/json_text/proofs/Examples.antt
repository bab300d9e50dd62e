-- Texts that are JSON and neighbours that are not, and how strings are written, by computation (RFC 8259).
use Prim.Native.Nat.{ℕ}
use mathlib.Core.Bool.{true, false}
use mathlib.Core.List.{List, [], ◌∷◌, ◌++◌}
use mathlib.Core.Option.{Option, none, some, bind}
use mathlib.Core.Path.{◌≡◌, refl}
use Rattle.text.specs.Utf8.{between, is_tail, utf8-1, is_utf8-2, utf8-2, is_second_of3, is_utf8-3, utf8-3, is_second_of4, is_utf8-4, utf8-4, or_else, decode_one}
use Rattle.text.specs.Decimal.{is_digit}
use Rattle.text.specs.Ascii.{ascii}
use Rattle.text.specs.ByteReaders.{byte}
use Rattle.text.specs.Reader.{◌>>=◌, ◌>>◌, and_then, ensure, pure, refuse, either}
use Rattle.text.specs.Reader as Reader
use Rattle.number.specs.Grammar.{run, past, some_digits, digits, leads, int, frac, is_empty, last, power, exp, unsigned, is_some, is_number}
use Rattle.number.specs.Grammar as Number
use Rattle.json_text.specs.Json.{Json, null, truth, number, string, array, object, no_elements, element, no_members, member}
use Rattle.json_text.specs.Encode.{utf8_of}
use Rattle.json_text.specs.Strings as Strings
use Rattle.json_text.specs.Escaped.{Escapes, plain, short, short_letter, letter_of, hex_of, control_of, escaped_byte, escaped, quoted, written}
use Rattle.json_text.specs.Grammar.{is_space, unspaced, spaces, is_of_number, number_run, number_text, spelled, scalar, comma_or, elements_after, members_after, elements_in, members_in, elements, members, container, value, at_end, document}

-- opens every definition, so that an example computes
unfoldable read : List ℕ → Option Json
unfolding bind between is_tail utf8-1 is_utf8-2 utf8-2 is_second_of3 is_utf8-3 utf8-3 is_second_of4 is_utf8-4 utf8-4 or_else decode_one is_digit run past some_digits digits leads int frac is_empty last power exp unsigned is_some is_number Number.number ascii byte ◌>>=◌ ◌>>◌ and_then ensure pure refuse either Reader.or_else utf8_of Strings.hex_value Strings.hex_digit Strings.hex4 Strings.paired Strings.unicode Strings.short_escape Strings.escape Strings.is_unescaped Strings.unescaped Strings.char Strings.char_then Strings.chars_in Strings.string is_space unspaced spaces is_of_number number_run number_text spelled scalar comma_or elements_after members_after elements_in members_in elements members container value at_end document
read s = document s

nested : read (ascii " { \"a\" : [1, -0.5E+3,true ] ,\"\":{}}\n")
    ≡ some (object (member (ascii "a") (array (element (number (ascii "1")) (element (number (ascii "-0.5E+3")) (element (truth true) no_elements)))) (member [] (object no_members) no_members)))
unfolding read
nested = refl

-- é, a pair of surrogates (1F600), a line feed, a slash
escapes : read (ascii "\"\\u00e9\\uD83d\\uDE00\\n\\/\"") ≡ some (string (0xC3 ∷ 0xA9 ∷ 0xF0 ∷ 0x9F ∷ 0x98 ∷ 0x80 ∷ 0x0A ∷ 0x2F ∷ []))
unfolding read
escapes = refl

low-alone : read (ascii "\"\\uDE00\"") ≡ none
unfolding read
low-alone = refl

high-alone : read (ascii "\"\\uD83D\"") ≡ none
unfolding read
high-alone = refl

control : read (0x22 ∷ 0x1F ∷ 0x22 ∷ []) ≡ none
unfolding read
control = refl

not-utf8 : read (0x22 ∷ 0xC3 ∷ 0x22 ∷ []) ≡ none
unfolding read
not-utf8 = refl

comma-last : read (ascii "[1,]") ≡ none
unfolding read
comma-last = refl

leading-zero : read (ascii "01") ≡ none
unfolding read
leading-zero = refl

two-values : read (ascii "1 2") ≡ none
unfolding read
two-values = refl

nothing : read [] ≡ none
unfolding read
nothing = refl

unfoldable writing : Escapes → Json → List ℕ
unfolding ascii short_letter letter_of hex_of control_of escaped_byte escaped quoted written
writing how v = written how v

-- the bytes with a letter of their own, one between them, the last that is escaped and the first that is not
without-letters : writing plain (string (0x8 ∷ 0x9 ∷ 0xA ∷ 0xB ∷ 0xC ∷ 0xD ∷ 0x1F ∷ 0x20 ∷ [])) ≡ ascii "\"\\u0008\\u0009\\u000a\\u000b\\u000c\\u000d\\u001f \""
unfolding writing
without-letters = refl

with-letters : writing short (string (0x8 ∷ 0x9 ∷ 0xA ∷ 0xB ∷ 0xC ∷ 0xD ∷ 0x1F ∷ 0x20 ∷ [])) ≡ ascii "\"\\b\\t\\n\\u000b\\f\\r\\u001f \""
unfolding writing
with-letters = refl

-- a slash, 7F and é as they are
unescaped : writing short (string (0x22 ∷ 0x5C ∷ 0x2F ∷ 0x7F ∷ 0xC3 ∷ 0xA9 ∷ [])) ≡ 0x22 ∷ 0x5C ∷ 0x22 ∷ 0x5C ∷ 0x5C ∷ 0x2F ∷ 0x7F ∷ 0xC3 ∷ 0xA9 ∷ 0x22 ∷ []
unfolding writing
unescaped = refl

compact : writing plain (object (member (ascii "b") (array (element null (element (truth false) no_elements))) (member (ascii "a") (object no_members) no_members)))
    ≡ ascii "{\"b\":[null,false],\"a\":{}}"
unfolding writing
compact = refl
