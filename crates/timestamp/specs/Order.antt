-- Instants order by their fields, year first.
use Rattle.std.specs.Prelude.{ℕ, Bool, false, cond, List, [], ◌∷◌, ltb, eqb}
use Rattle.timestamp.specs.declared.Fields.{Fields}

unfoldable pub list_of : Fields → List ℕ
list_of f = f.year ∷ f.month ∷ f.day ∷ f.hour ∷ f.minute ∷ f.second ∷ f.nanoseconds ∷ []

-- the first number that differs decides
unfoldable pub is_below : List ℕ → List ℕ → Bool
is_below [] t = false
is_below (a ∷ s) [] = false
is_below (a ∷ s) (b ∷ t) = cond (eqb a b) (is_below s t) (ltb a b)

unfoldable pub is_earlier : Fields → Fields → Bool
is_earlier f g = is_below (list_of f) (list_of g)
