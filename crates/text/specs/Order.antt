-- The order of texts by their bytes, as numbers: the first byte that differs decides, and a text comes before its continuations.
use Rattle.std.specs.Prelude.{ℕ, Bool, true, false, not, ◌&&◌, ◌||◌, List, [], ◌∷◌, ltb, eqb}
use Rattle.std.proofs.Math.Option.{Option, none, some}

unfoldable pub precedes : List ℕ → List ℕ → Bool
precedes [] [] = false
precedes [] (b ∷ t) = true
precedes (a ∷ s) [] = false
precedes (a ∷ s) (b ∷ t) = ltb a b || eqb a b && precedes s t

unfoldable pub same_bytes : List ℕ → List ℕ → Bool
same_bytes [] [] = true
same_bytes [] (b ∷ t) = false
same_bytes (a ∷ s) [] = false
same_bytes (a ∷ s) (b ∷ t) = eqb a b && same_bytes s t

-- whether a name may come after the sibling before it, if there is one: sibling names rise, none twice
unfoldable pub follows : Option (List ℕ) → List ℕ → Bool
follows none name = true
follows (some before) name = precedes before name

-- whether a text is one of several
unfoldable pub is_among : List ℕ → List (List ℕ) → Bool
is_among t [] = false
is_among t (first ∷ others) = same_bytes t first || is_among t others

-- whether no text occurs twice, next to each other or apart
unfoldable pub none_twice : List (List ℕ) → Bool
none_twice [] = true
none_twice (first ∷ others) = not (is_among first others) && none_twice others
