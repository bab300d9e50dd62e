-- What the code reads of a table, by cases.
use Rattle.std.specs.Prelude.{ℕ, Bool, List, ◌≡◌, Option as Optional, Some, None}
use Rattle.std.proofs.Math.Option.{Option, none, some}
use Rattle.text.specs.ReadAt.{ReadsTo, Refuses}
use Rattle.reference.specs.Table as Table
use Rattle.reference.specs.Table.{row_marks, table_entry, decode_table, are_sound, table_in, row_of}
use Rattle.scope.specs.Names.{row_by}
use Rattle.scope.specs.declared.name.Row.{Row}

abbrev pub MarksAre : List ℕ → (at : ℕ) → Optional (Row × ℕ) → Type 0
MarksAre s at (Some (r, next)) = ReadsTo row_marks s at (row_by r) next
MarksAre s at None = Refuses row_marks s at

-- the entry of a kind
abbrev pub RowIs : List ℕ → (at kind : ℕ) → Optional (Row × ℕ) → Type 0
RowIs s at kind (Some (r, next)) = ReadsTo (table_entry kind) s at (row_by r) next
RowIs s at kind None = Refuses (table_entry kind) s at

-- there is a table, with that row for the kind, and both conditions hold of it or not
pub record HasRow (o : Option (List Table.Row)) (kind : ℕ) (r : Row) (sound : Bool) : Type 0 where
  pub table : List Table.Row
  pub reads : o ≡ some table
  pub row : row_by r ≡ row_of table kind
  pub is_sound : sound ≡ are_sound table

abbrev pub TableOr : Option (List Table.Row) → (kind : ℕ) → Optional (Row × Bool) → Type 0
TableOr o kind (Some (r, sound)) = HasRow o kind r sound
TableOr o kind None = o ≡ none

-- the whole of the bytes
abbrev pub TableIs : List ℕ → (kind : ℕ) → Optional (Row × Bool) → Type 0
TableIs s = TableOr (decode_table s)

-- what a call is lent
abbrev pub LentIs : List ℕ → (kind : ℕ) → Optional (Row × Bool) → Type 0
LentIs s = TableOr (table_in s)
