-- A sheet as a whole: a mark opened in its writing is one opened in the schema that it holds.
use Prim.Native.Nat.{ℕ, ◌≤◌}
use mathlib.Core.Bool.{◌||◌}
use mathlib.Core.List.{List, [], ◌∷◌, ◌++◌}
use mathlib.Core.Option.{Option, none, some}
use mathlib.Core.Path.{◌≡◌, refl, ap, ◌∙◌}
use native.Mathlib.Omega.{arith}
use lib.Dec.{eqb}
use lib.ListN.{length, set}
use Rattle.sheet.specs.Entries.{max_count, HolderHead, SchemaHead}
use Rattle.sheet.specs.Write.{write_schema_head}
use Rattle.sheet.proofs.HeadLaws.{SchemaHeadFits}
use Rattle.sheet.proofs.HeadLaws as HeadLaws
use Rattle.buffer.specs.Wrote.{Wrote}
use Rattle.buffer.specs.WroteLaws.{wrote_kept}
use Rattle.definition.specs.Tree.{Holder, Schema}
use Rattle.definition.specs.Limits.{max_sheet_bytes}
use Rattle.definition.specs.Write.{head_of, head_of_arguments, write_schema}
use Rattle.definition.specs.Within.{arguments_entries, schema_entries, SchemaWithin}
use Rattle.definition.proofs.FieldLaws.{members-take}
use Rattle.definition.proofs.RoundTrip.{schema-round-trip}
use Rattle.widening.specs.Opening.{opened_holder, opened_arguments, opened}
use Rattle.open_marks.specs.Marks.{MarkOpened}
use Rattle.open_marks.specs.Places.{Opens, MarkAt}
use Rattle.open_marks.proofs.Kept.{members_kept, schema-kept}
use Rattle.open_marks.proofs.Entered.{schema-opens}

-- the sheet's head with that mark open, if it is one of the head's two
unfoldable pub opened_arguments_head : (entry : ℕ) → Option HolderHead → Option HolderHead
opened_arguments_head entry none = none
opened_arguments_head entry (some g) = some (record { is_open = g.is_open || eqb entry 0; count = g.count })

unfoldable pub opened_schema_head : (entry : ℕ) → SchemaHead → SchemaHead
opened_schema_head entry h =
    record {
      fields = record { is_open = h.fields.is_open || eqb entry 1; count = h.fields.count };
      arguments = opened_arguments_head entry h.arguments;
    }

-- with a `1` at that place the sheet's head and the fields' entries are written as they are with that mark open
abbrev pub SheetMarkAt : (s : List ℕ) (entry place : ℕ) → Type 0
SheetMarkAt s entry place = (h : SchemaHead) (rest after : List ℕ) → SchemaHeadFits h → s ≡ write_schema_head h ++ rest → Opens entry 2 rest after
    → set s place 49 ≡ write_schema_head (opened_schema_head entry h) ++ after

-- The head of a schema

abbrev head_of_schema : Schema → SchemaHead
head_of_schema t = record { fields = head_of t.fields; arguments = head_of_arguments t.arguments }

arguments-fit : (a : Option Holder) → arguments_entries a ≤ max_count → HeadLaws.ArgumentsFit (head_of_arguments a)
unfolding head_of_arguments head_of arguments_entries
arguments-fit none l = tt
arguments-fit (some h) l = omega (arith, members-take h.members)

head-fits : (t : Schema) → SchemaWithin t → SchemaHeadFits (head_of_schema t)
unfolding head_of schema_entries
head-fits t w =
    let few = w.entries in
    (omega (arith, members-take t.fields.members), arguments-fit t.arguments (omega arith))

arguments-opened : (entry : ℕ) (a : Option Holder) → opened_arguments_head entry (head_of_arguments a) ≡ head_of_arguments (opened_arguments (eqb entry) a)
unfolding opened_arguments_head opened_arguments opened_holder head_of_arguments head_of
arguments-opened entry none = refl
arguments-opened entry (some h) = rw (members_kept (eqb entry) h.members).count

head_opened : (entry : ℕ) (t : Schema) → opened_schema_head entry (head_of_schema t) ≡ head_of_schema (opened (eqb entry) t)
unfolding opened_schema_head opened opened_holder head_of
head_opened entry t = rw (arguments-opened entry t.arguments, (members_kept (eqb entry) t.fields.members).count)

pub mark-at : {s : List ℕ} {entry place : ℕ} → SheetMarkAt s entry place → MarkAt s entry place
unfolding write_schema opened opened_holder
mark-at {s} {entry} {place} m =
    record {
      opens = λ t e.
          let r = (schema-round-trip s t).0 e in
          rw (head_opened entry t) at (m (head_of_schema t) _ _ (head-fits t r.1) r.0 (schema-opens entry t r.1));
    }

-- What is written is read back

pub mark-opened : {before after : List ℕ} {entry place byte next : ℕ} → MarkAt before entry place → byte ≡ 49 → Wrote before after place (byte ∷ []) next
    → MarkOpened before entry after
mark-opened {before} {after} {entry} {place} m is w =
    let size : length after ≡ length before = wrote_kept w in
    record {
      size = size;
      opens = λ t e.
          let r = (schema-round-trip before t).0 e in
          let written : after ≡ write_schema (opened (eqb entry) t) = w.stands ∙ ap (set before place) is ∙ m.opens t e in
          let bytes : length (write_schema (opened (eqb entry) t)) ≤ max_sheet_bytes =
          omega (arith, r.1.bytes, ap length written, ap length r.0) in
          (schema-round-trip after (opened (eqb entry) t)).1 (written, schema-kept (eqb entry) t bytes r.1);
    }
