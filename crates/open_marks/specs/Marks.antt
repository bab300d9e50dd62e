-- One open mark gone from 0 to 1 in a sheet (docs/FORMAT.md, "The fewest marks to open").
use Rattle.std.specs.Prelude.{ℕ, List, ◌≡◌, eqb, length}
use Rattle.std.proofs.Math.Option.{some}
use Rattle.definition.specs.Tree.{Schema}
use Rattle.definition.specs.Decode.{decode_schema}
use Rattle.widening.specs.Opening.{opened}

-- where the bytes hold a schema, they then hold that schema with the mark of `entry` open as well; nothing moves
pub record MarkOpened (before : List ℕ) (entry : ℕ) (after : List ℕ) : Type 0 where
  pub size : length after ≡ length before
  pub opens : (t : Schema) → decode_schema before ≡ some t → decode_schema after ≡ some (opened (eqb entry) t)
