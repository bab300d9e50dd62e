-- What is found among the keys of an object.
use Rattle.std.specs.Prelude.{ℕ, false, List, Option, Some, None}
use Rattle.json_keys.specs.Repeats.{NoneTwice, Onward}

abbrev pub BatchIs : List ℕ → ℕ → Option ℕ → Type 0
BatchIs s at None = NoneTwice s at false
BatchIs s at (Some next) = Onward s at next
