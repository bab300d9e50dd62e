-- A schema with a field of its record added or removed (document 02, T-14).
use Rattle.std.specs.Prelude.{ℕ, ◌+◌, Bool, false, not, cond, ◌&&◌, ◌||◌, leb, length}
use Rattle.std.proofs.Math.Option.{Option, none, some}
use Rattle.text.specs.Order.{precedes, same_bytes}
use Rattle.definition.specs.Tree.{Text, Field, field, Items, absent, element, Members, no_members, member, Holder, Schema}
use Rattle.definition.specs.Limits.{max_sheet_bytes, max_schema_entries}
use Rattle.definition.specs.Write.{write_schema}
use Rattle.definition.specs.Within.{field_entries, items_entries, members_entries, schema_entries}

-- The same tree with the numbers of its entries, the first of which is `n`.
unfoldable mutual
  pub numbered_field : (n : ℕ) → Field → Field
  numbered_field n (field e kind is_open tag items ms) =
      field n kind is_open tag (numbered_items (n + 1) items) (numbered_members (n + 1 + items_entries items) ms)

  pub numbered_items : (n : ℕ) → Items → Items
  numbered_items n absent = absent
  numbered_items n (element f) = element (numbered_field n f)

  pub numbered_members : (n : ℕ) → Members → Members
  numbered_members n no_members = no_members
  numbered_members n (member name f others) = member name (numbered_field n f) (numbered_members (n + field_entries f) others)

unfoldable pub numbered_holder : (n : ℕ) → Holder → Holder
numbered_holder n h = record { is_open = h.is_open; members = numbered_members n h.members }

unfoldable pub numbered_arguments : (n : ℕ) → Option Holder → Option Holder
numbered_arguments n none = none
numbered_arguments n (some h) = some (numbered_holder n h)

-- the sheet's head is entry 1
unfoldable pub numbered : Schema → Schema
numbered t =
    record {
      fields = numbered_holder 2 t.fields;
      arguments = numbered_arguments (2 + members_entries t.fields.members) t.arguments;
    }

-- 40 where a field is to come, 41 where it is not so and one is to go
unfoldable pub is_there : Text → Members → Bool
is_there name no_members = false
is_there name (member n g others) = same_bytes n name || is_there name others

-- among members whose names rise, in its place
unfoldable pub inserted : Text → Field → Members → Members
inserted name f no_members = member name f no_members
inserted name f (member n g others) =
    let later = member n g (inserted name f others) in
    cond (precedes name n) (member name f (member n g others)) later

-- without the member of that name
unfoldable pub without : Text → Members → Members
without name no_members = no_members
without name (member n g others) = let later = member n g (without name others) in cond (same_bytes n name) others later

unfoldable pub with_fields : Schema → Members → Schema
with_fields t m = record { fields = record { is_open = t.fields.is_open; members = m }; arguments = t.arguments }

unfoldable pub added : Text → Field → Schema → Schema
added name f t = numbered (with_fields t (inserted name f t.fields.members))

unfoldable pub removed : Text → Schema → Schema
removed name t = numbered (with_fields t (without name t.fields.members))

-- 42: more entries or bytes than a schema sheet may have
unfoldable pub is_too_large : Schema → Bool
is_too_large t = not (leb (schema_entries t) max_schema_entries && leb (length (write_schema t)) max_sheet_bytes)
