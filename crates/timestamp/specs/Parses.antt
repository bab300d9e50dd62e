-- What `parse` answers, by cases.
use Rattle.std.specs.Prelude.{ℕ, ◌≡◌, List, Option, Some, None}
use Rattle.std.proofs.Math.Option.{none, some}
use Rattle.timestamp.specs.Instant.{instant}
use Rattle.timestamp.specs.declared.Fields.{Fields}

abbrev pub Parses : List ℕ → Option Fields → Type 0
Parses s (Some fields) = instant s ≡ some fields
Parses s None = instant s ≡ none
