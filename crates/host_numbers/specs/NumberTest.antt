-- What `rulecheck_finite` answers: one number for the test's two answers (docs/FORMAT.md, "The C interface").
use Rattle.std.specs.Prelude.{ℕ, ◌+◌, ◌*◌, Bool, true, false, List}
use Rattle.number.specs.Finite.{is_finite}
use Rattle.number.specs.FirstDigit.{compared}

unfoldable pub packed : (finite : Bool) (count : ℕ) → ℕ
packed false count = 2 * count
packed true count = 2 * count + 1

unfoldable pub finite_number : List ℕ → ℕ
finite_number text = packed (is_finite text) (compared text)
