-- UTF-8 as RFC 3629, section 4 has it: one function for each rule of its grammar, named after the rule.
-- A rule answers the code point that it reads and the bytes after it, or none where it does not hold.
use Rattle.std.specs.Prelude.{ℕ, zero, suc, ◌+◌, ◌*◌, ◌%◌, Bool, true, false, cond, ◌&&◌, ◌||◌, List, [], ◌∷◌, length, leb}
use Rattle.std.proofs.Math.Option.{Option, none, some, map}

unfoldable pub between : ℕ → ℕ → ℕ → Bool
between low high b = leb low b && leb b high

-- UTF8-tail
unfoldable pub is_tail : ℕ → Bool
is_tail b = between 0x80 0xBF b

unfoldable pub utf8-1 : List ℕ → Option (ℕ × List ℕ)
utf8-1 [] = none
utf8-1 (a ∷ s) = cond (leb a 0x7F) (some (a, s)) none

unfoldable pub is_utf8-2 : ℕ → ℕ → Bool
is_utf8-2 a b = between 0xC2 0xDF a && is_tail b

-- a code point's bits: five, four or three of the first byte, six of each tail byte
abbrev pub code_of2 : ℕ → ℕ → ℕ
code_of2 a b = a % 32 * 64 + b % 64

unfoldable pub utf8-2 : List ℕ → Option (ℕ × List ℕ)
utf8-2 [] = none
utf8-2 (a ∷ []) = none
utf8-2 (a ∷ b ∷ s) = cond (is_utf8-2 a b) (some (code_of2 a b, s)) none

-- E0 needs a second byte from A0 on (else the form is overlong), ED one below A0 (else a surrogate)
unfoldable pub is_second_of3 : ℕ → ℕ → Bool
is_second_of3 a b =
    between 0xE0 0xE0 a && between 0xA0 0xBF b
    || between 0xE1 0xEC a && is_tail b
    || between 0xED 0xED a && between 0x80 0x9F b
    || between 0xEE 0xEF a && is_tail b

unfoldable pub is_utf8-3 : ℕ → ℕ → ℕ → Bool
is_utf8-3 a b c = is_second_of3 a b && is_tail c

abbrev pub code_of3 : ℕ → ℕ → ℕ → ℕ
code_of3 a b c = a % 16 * 4096 + b % 64 * 64 + c % 64

unfoldable pub utf8-3 : List ℕ → Option (ℕ × List ℕ)
utf8-3 [] = none
utf8-3 (a ∷ []) = none
utf8-3 (a ∷ b ∷ []) = none
utf8-3 (a ∷ b ∷ c ∷ s) = cond (is_utf8-3 a b c) (some (code_of3 a b c, s)) none

-- F0 needs a second byte from 90 on (else the form is overlong), F4 one below 90 (else above 10FFFF)
unfoldable pub is_second_of4 : ℕ → ℕ → Bool
is_second_of4 a b =
    between 0xF0 0xF0 a && between 0x90 0xBF b
    || between 0xF1 0xF3 a && is_tail b
    || between 0xF4 0xF4 a && between 0x80 0x8F b

unfoldable pub is_utf8-4 : ℕ → ℕ → ℕ → ℕ → Bool
is_utf8-4 a b c d = is_second_of4 a b && (is_tail c && is_tail d)

abbrev pub code_of4 : ℕ → ℕ → ℕ → ℕ → ℕ
code_of4 a b c d = a % 8 * 262144 + b % 64 * 4096 + c % 64 * 64 + d % 64

unfoldable pub utf8-4 : List ℕ → Option (ℕ × List ℕ)
utf8-4 [] = none
utf8-4 (a ∷ []) = none
utf8-4 (a ∷ b ∷ []) = none
utf8-4 (a ∷ b ∷ c ∷ []) = none
utf8-4 (a ∷ b ∷ c ∷ d ∷ s) = cond (is_utf8-4 a b c d) (some (code_of4 a b c d, s)) none

-- the first reading that there is
unfoldable pub or_else : Option (ℕ × List ℕ) → Option (ℕ × List ℕ) → Option (ℕ × List ℕ)
or_else none o = o
or_else (some r) o = some r

-- UTF8-char: the first code point of a text, and the text after it
unfoldable pub decode_one : List ℕ → Option (ℕ × List ℕ)
decode_one s = or_else (utf8-1 s) (or_else (utf8-2 s) (or_else (utf8-3 s) (utf8-4 s)))

-- UTF8-octets: every code point of a text, or none where it is not UTF-8.
-- Each code point takes a byte at least, so as many turns as there are bytes are enough.
unfoldable pub points_from : (List ℕ → Option (List ℕ)) → Option (ℕ × List ℕ) → Option (List ℕ)
points_from rest none = none
points_from rest (some r) = map (λ (l : List ℕ). r.0 ∷ l) (rest r.1)

unfoldable pub code_points_in : ℕ → List ℕ → Option (List ℕ)
code_points_in zero [] = some []
code_points_in zero (a ∷ s) = none
code_points_in (suc turns) [] = some []
code_points_in (suc turns) (a ∷ s) = points_from (λ t. code_points_in turns t) (decode_one (a ∷ s))

unfoldable pub code_points : List ℕ → Option (List ℕ)
code_points s = code_points_in (length s) s

unfoldable pub is_some : Option (List ℕ) → Bool
is_some none = false
is_some (some l) = true

unfoldable pub is_utf8 : List ℕ → Bool
is_utf8 s = is_some (code_points s)
