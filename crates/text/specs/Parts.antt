-- Texts as places in another.
use Rattle.std.specs.Prelude.{ℕ, List, take, drop, Option as Optional, Some, None}
use Rattle.std.proofs.Math.Option.{Option, none, some}
use Rattle.text.specs.declared.part.Part.{Part}

unfoldable pub part_of : List ℕ → Part → List ℕ
part_of s p = take p.len (drop p.start s)

unfoldable pub optional_of : List ℕ → Optional Part → Option (List ℕ)
optional_of s (Some p) = some (part_of s p)
optional_of s None = none
