-- The line that the program `rulecheck` prints.
use Rattle.std.specs.Prelude.{ℕ, List, [], ◌∷◌, ◌++◌}
use Rattle.text.specs.Numeral.{decimal_of}
use Rattle.validation.specs.Result.{Numbers}

-- a number, and the comma after it
unfoldable pub field_of : ℕ → List ℕ
field_of n = decimal_of n ++ 44 ∷ []

-- numbers in front of the path, which ends the line
unfoldable pub written : List ℕ → List ℕ → List ℕ
written [] path = path ++ 10 ∷ []
written (n ∷ ns) path = field_of n ++ written ns path

unfoldable pub line_of : Numbers → (path : List ℕ) → List ℕ
line_of n path =
    written
    (n.number
    ∷ n.family
    ∷ n.detail
    ∷ n.place
    ∷ n.over_place
    ∷ n.passed
    ∷ [])
    path

abbrev pub numbers : (number family detail place over_place passed path_length : ℕ) → Numbers
numbers number family detail place over_place passed path_length =
    record {
      number = number;
      family = family;
      detail = detail;
      place = place;
      over_place = over_place;
      passed = passed;
      path_length = path_length;
    }
