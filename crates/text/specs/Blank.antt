-- Blank text, and text without White_Space at its ends. Both are total: a byte that begins no code point is not White_Space,
-- so it ends the white space before it, and text with such a byte is never blank.
use Rattle.std.specs.Prelude.{ℕ, zero, suc, Bool, true, false, cond, ◌&&◌, List, [], ◌∷◌, length}
use Rattle.std.proofs.Math.Option.{Option, none, some}
use Rattle.text.specs.Utf8.{decode_one, code_points}
use Rattle.text.specs.WhiteSpace.{is_white_space}

unfoldable pub all_white_space : List ℕ → Bool
all_white_space [] = true
all_white_space (c ∷ cs) = is_white_space c && all_white_space cs

unfoldable pub blank_points : Option (List ℕ) → Bool
blank_points none = false
blank_points (some cs) = all_white_space cs

-- empty, or every code point is White_Space
unfoldable pub is_blank : List ℕ → Bool
is_blank s = blank_points (code_points s)

-- as long as the text begins with White_Space, its first code point goes; as many turns as there are bytes are enough
unfoldable pub start_from : (List ℕ → List ℕ) → List ℕ → Option (ℕ × List ℕ) → List ℕ
start_from rest s none = s
start_from rest s (some r) = cond (is_white_space r.0) (rest r.1) s

unfoldable pub trim_start_in : ℕ → List ℕ → List ℕ
trim_start_in zero s = s
trim_start_in (suc turns) s = start_from (λ t. trim_start_in turns t) s (decode_one s)

unfoldable pub trim_start : List ℕ → List ℕ
trim_start s = trim_start_in (length s) s

-- the longest end that is blank goes
unfoldable pub trim_end : List ℕ → List ℕ
trim_end [] = []
trim_end (a ∷ s) = cond (is_blank (a ∷ s)) [] (a ∷ trim_end s)

unfoldable pub trim : List ℕ → List ℕ
trim s = trim_end (trim_start s)
