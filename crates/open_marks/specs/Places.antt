-- Where a mark is in a sheet: the byte that becomes a `1`.
use Rattle.std.specs.Prelude.{ℕ, ◌+◌, Bool, ◌||◌, List, [], ◌++◌, ◌≡◌, eqb, length, set}
use Rattle.std.proofs.Math.Option.{some}
use Rattle.sheet.specs.Entries.{FieldHead, field_head}
use Rattle.sheet.specs.Write.{write_field_head}
use Rattle.definition.specs.Tree.{Schema}
use Rattle.definition.specs.Decode.{decode_schema}
use Rattle.definition.specs.Write.{write_schema}
use Rattle.widening.specs.Opening.{opened}

-- with a `1` at that place the sheet is written as the schema with the mark of `entry` open
pub record MarkAt (s : List ℕ) (entry place : ℕ) : Type 0 where
  pub opens : (t : Schema) → decode_schema s ≡ some t → set s place 49 ≡ write_schema (opened (eqb entry) t)

-- a field's head, its mark open where it was or where `also` says so
unfoldable pub opened_head : (also : Bool) → FieldHead → FieldHead
opened_head also h =
    record {
      kind = h.kind;
      is_open = h.is_open || also;
      has_items = h.has_items;
      count = h.count;
      name = h.name;
      tag = h.tag;
    }

-- fields' entries up to the sheet's end, the first of which has that number: as they are, and with the mark of `entry` open
pub data Opens (entry : ℕ) : (number : ℕ) (before after : List ℕ) → Type 0 where
  ended : {number : ℕ} {before after : List ℕ} → before ≡ [] → after ≡ [] → Opens entry number before after
  entered : {number : ℕ} {before after : List ℕ} (h : FieldHead) (others others' : List ℕ) → field_head before ≡ some (h, others)
      → after ≡ write_field_head (opened_head (eqb entry number) h) ++ others'
      → Opens entry (number + 1) others others'
      → Opens entry number before after

-- with a `1` at that place the entries from `at` on are written as they are with the mark of `entry` open
pub record FieldMarkAt (s : List ℕ) (at number entry place : ℕ) : Type 0 where
  pub opens : (front rest after : List ℕ) → s ≡ front ++ rest → length front ≡ at → Opens entry number rest after
      → set s place 49 ≡ front ++ after
