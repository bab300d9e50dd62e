-- Worked examples of the definitions, each by computation.
use Prim.Native.Nat.{ℕ}
use mathlib.Core.Path.{◌≡◌, refl}
use mathlib.Core.Bool.{Bool, true, false}
use mathlib.Core.List.{List, [], ◌∷◌}
use mathlib.Core.Option.{Option, some}
use Rattle.text.specs.Utf8.{between, is_tail, utf8-1, is_utf8-2, utf8-2, is_second_of3, is_utf8-3, utf8-3, is_second_of4, is_utf8-4, utf8-4, or_else, decode_one, points_from, code_points_in, code_points, is_some, is_utf8}
use Rattle.text.specs.WhiteSpace.{is_white_space}
use Rattle.text.specs.Blank.{all_white_space, blank_points, is_blank, start_from, trim_start_in, trim_start, trim_end, trim}

-- the definitions, opened once for all that follows
unfoldable points : List ℕ → Option (List ℕ)
unfolding between is_tail utf8-1 is_utf8-2 utf8-2 is_second_of3 is_utf8-3 utf8-3 is_second_of4 is_utf8-4 utf8-4 or_else decode_one points_from code_points_in code_points
points s = code_points s

unfoldable valid : List ℕ → Bool
unfolding points is_some is_utf8
valid s = is_utf8 s

unfoldable blank : List ℕ → Bool
unfolding points is_white_space all_white_space blank_points is_blank
blank s = is_blank s

unfoldable trimmed : List ℕ → List ℕ
unfolding blank start_from trim_start_in trim_start trim_end trim
trimmed s = trim s

-- the four texts of RFC 3629, section 7
not-identical-to : points (0x41 ∷ 0xE2 ∷ 0x89 ∷ 0xA2 ∷ 0xCE ∷ 0x91 ∷ 0x2E ∷ []) ≡ some (0x41 ∷ 0x2262 ∷ 0x391 ∷ 0x2E ∷ [])
unfolding points
not-identical-to = refl

hangugeo : points (0xED ∷ 0x95 ∷ 0x9C ∷ 0xEA ∷ 0xB5 ∷ 0xAD ∷ 0xEC ∷ 0x96 ∷ 0xB4 ∷ []) ≡ some (0xD55C ∷ 0xAD6D ∷ 0xC5B4 ∷ [])
unfolding points
hangugeo = refl

nihongo : points (0xE6 ∷ 0x97 ∷ 0xA5 ∷ 0xE6 ∷ 0x9C ∷ 0xAC ∷ 0xE8 ∷ 0xAA ∷ 0x9E ∷ []) ≡ some (0x65E5 ∷ 0x672C ∷ 0x8A9E ∷ [])
unfolding points
nihongo = refl

stump-of-tree-after-mark : points (0xEF ∷ 0xBB ∷ 0xBF ∷ 0xF0 ∷ 0xA3 ∷ 0x8E ∷ 0xB4 ∷ []) ≡ some (0xFEFF ∷ 0x233B4 ∷ [])
unfolding points
stump-of-tree-after-mark = refl

-- what sections 3 and 10 of RFC 3629 forbid, and the first and last code point of each length
overlong-null : valid (0xC0 ∷ 0x80 ∷ []) ≡ false
unfolding valid
overlong-null = refl

overlong-slash : valid (0xE0 ∷ 0x80 ∷ 0xAF ∷ []) ≡ false
unfolding valid
overlong-slash = refl

overlong-four : valid (0xF0 ∷ 0x8F ∷ 0xBF ∷ 0xBF ∷ []) ≡ false
unfolding valid
overlong-four = refl

first-surrogate : valid (0xED ∷ 0xA0 ∷ 0x80 ∷ []) ≡ false
unfolding valid
first-surrogate = refl

surrogate-pair : valid (0xED ∷ 0xA1 ∷ 0x8C ∷ 0xED ∷ 0xBE ∷ 0xB4 ∷ []) ≡ false
unfolding valid
surrogate-pair = refl

above-10ffff : valid (0xF4 ∷ 0x90 ∷ 0x80 ∷ 0x80 ∷ []) ≡ false
unfolding valid
above-10ffff = refl

tail-first : valid (0x80 ∷ []) ≡ false
unfolding valid
tail-first = refl

cut_short : valid (0xE2 ∷ 0x82 ∷ []) ≡ false
unfolding valid
cut_short = refl

lengths-begin : points (0x0 ∷ 0xC2 ∷ 0x80 ∷ 0xE0 ∷ 0xA0 ∷ 0x80 ∷ 0xF0 ∷ 0x90 ∷ 0x80 ∷ 0x80 ∷ []) ≡ some (0x0 ∷ 0x80 ∷ 0x800 ∷ 0x10000 ∷ [])
unfolding points
lengths-begin = refl

lengths-end : points (0x7F ∷ 0xDF ∷ 0xBF ∷ 0xEF ∷ 0xBF ∷ 0xBF ∷ 0xF4 ∷ 0x8F ∷ 0xBF ∷ 0xBF ∷ []) ≡ some (0x7F ∷ 0x7FF ∷ 0xFFFF ∷ 0x10FFFF ∷ [])
unfolding points
lengths-end = refl

-- White_Space
nothing : blank [] ≡ true
unfolding blank
nothing = refl

-- tab, space, U+0085, U+00A0, U+1680, U+2028, U+3000
all-lengths : blank (0x9 ∷ 0x20 ∷ 0xC2 ∷ 0x85 ∷ 0xC2 ∷ 0xA0 ∷ 0xE1 ∷ 0x9A ∷ 0x80 ∷ 0xE2 ∷ 0x80 ∷ 0xA8 ∷ 0xE3 ∷ 0x80 ∷ 0x80 ∷ []) ≡ true
unfolding blank
all-lengths = refl

zero-width-space : blank (0xE2 ∷ 0x80 ∷ 0x8B ∷ []) ≡ false
unfolding blank
zero-width-space = refl

-- the byte A0 is White_Space in Latin 1 only
not-utf8 : blank (0x20 ∷ 0xA0 ∷ []) ≡ false
unfolding blank
not-utf8 = refl

-- U+00A0 a space b newline
both_ends : trimmed (0xC2 ∷ 0xA0 ∷ 0x61 ∷ 0x20 ∷ 0x62 ∷ 0xA ∷ []) ≡ 0x61 ∷ 0x20 ∷ 0x62 ∷ []
unfolding trimmed
both_ends = refl

nothing_left : trimmed (0x20 ∷ 0xE3 ∷ 0x80 ∷ 0x80 ∷ []) ≡ []
unfolding trimmed
nothing_left = refl

-- U+1680 without its first byte is no White_Space, and stays between the spaces
bad-bytes-stay : trimmed (0x20 ∷ 0x9A ∷ 0x80 ∷ 0x20 ∷ []) ≡ 0x9A ∷ 0x80 ∷ []
unfolding trimmed
bad-bytes-stay = refl
