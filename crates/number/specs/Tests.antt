-- What the code's test answers for digits that begin at a level.
use Rattle.std.specs.Prelude.{ℕ, ◌≡◌, List}
use Rattle.number.specs.Bound.{bound}
use Rattle.number.specs.Grammar.{Number}
use Rattle.number.specs.FirstDigit.{digits_in, level_in, is_less, decided, compared_at}
use Rattle.number.specs.declared.magnitude.Tested.{Tested}
use Rattle.std.specs.declared.cmp.Ordering.{Ordering}

abbrev pub Tests : Ordering → List ℕ → Tested → Type 0
Tests l ds r = (r.finite ≡ decided l (is_less ds bound)) × (r.compared ≡ compared_at l ds)

abbrev pub TestsNumber : Number → Tested → Type 0
TestsNumber n r = Tests (level_in n) (digits_in n) r
