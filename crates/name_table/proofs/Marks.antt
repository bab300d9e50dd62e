-- The entry of a kind at a place of the bytes: each way through the code's readers, by the laws of one reader after another.
use Prim.Native.Nat.{ℕ, ◌+◌}
use mathlib.Core.List.{List}
use Rattle.text.specs.ByteReaders.{byte}
use Rattle.text.specs.ReadAt.{ReadsTo, Refuses}
use Rattle.text.specs.ReadAtLaws.{bind-refused, bind-refuses, bind-reads, then-refused, then-refuses, then-reads, then-pure}
use Rattle.sheet.specs.Entries.{item}
use Rattle.reference.specs.Table as Table
use Rattle.reference.specs.Table.{row_marks, table_entry}

-- `N`, the kind, the marks, the end of the line
module _ (kind : ℕ) where
  pub entry-no-letter : (s : List ℕ) (at : ℕ) → Refuses (byte 78) s at → Refuses (table_entry kind) s at
  unfolding table_entry
  entry-no-letter s at e = then-refused _ _ s at e

  module _ {s : List ℕ} {at : ℕ} {u : Unit {0}} (letter : ReadsTo (byte 78) s at u (at + 1)) where
    pub entry-no-kind : Refuses (item kind kind) s (at + 1) → Refuses (table_entry kind) s at
    unfolding table_entry
    entry-no-kind e = then-refuses _ _ letter (then-refused _ _ s (at + 1) e)

    module _ {n behind : ℕ} (number : ReadsTo (item kind kind) s (at + 1) n behind) where
      pub entry-no-marks : Refuses row_marks s behind → Refuses (table_entry kind) s at
      unfolding table_entry
      entry-no-marks e = then-refuses _ _ letter (then-refuses _ _ number (bind-refused _ _ s behind e))

      module _ {row : Table.Row} {end : ℕ} (marks : ReadsTo row_marks s behind row end) where
        pub entry-no-end : Refuses (byte 10) s end → Refuses (table_entry kind) s at
        unfolding table_entry
        entry-no-end e =
            then-refuses _ _ letter (then-refuses _ _ number (bind-refuses _ _ marks (then-refused _ _ s end e)))

        pub entry-reads : {v : Unit {0}} {next : ℕ} → ReadsTo (byte 10) s end v next → ReadsTo (table_entry kind) s at row next
        unfolding table_entry
        entry-reads e = then-reads _ _ letter (then-reads _ _ number (bind-reads _ _ marks (then-pure _ row e)))
