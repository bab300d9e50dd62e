-- Places in a sheet, and what is read there.
use Rattle.std.specs.Prelude.{ℕ, zero, suc, ◌+◌, ◌≤◌, List, ◌≡◌, length, drop, Option, Some, None}
use Rattle.std.proofs.Math.Option.{none, some}
use Rattle.text.specs.Reader.{Reader, ◌>>=◌, pure, refuse}
use Rattle.sheet.specs.Entries.{FieldHead}
use Rattle.sheet.specs.Places.{field_of, KnownTo, Unread}
use Rattle.definition.specs.Tree.{Field, field}
use Rattle.definition.specs.Limits.{max_sheet_bytes}
use Rattle.definition.specs.Decode.{Ahead, element_of, members_of, field_in}
use Rattle.schema_change.specs.declared.place.Place.{Place}
use Rattle.schema_change.specs.declared.place.FieldEntry.{FieldEntry}

-- a place in a sheet that is not too long: each entry in front of it has a byte at least
pub record Within (s : List ℕ) (p : Place) : Type 0 where
  pub sheet : length s ≤ max_sheet_bytes
  pub at : p.at ≤ length s
  pub entry : p.entry ≤ p.at + 1

-- the definition's reader has come to that place
pub record Arrived (s : List ℕ) (p : Place) (a : Ahead) : Type 0 where
  pub next : p.entry ≡ a.next
  pub rest : drop p.at s ≡ a.rest

-- what is read at a place
pub record Enters (s : List ℕ) (p : Place) (x : FieldEntry) : Type 0 where
  pub number : x.number ≡ p.entry
  pub known : KnownTo s p.at x.head x.next.at
  pub next : x.next.entry ≡ p.entry + 1
  pub within : Within s x.next

abbrev pub EnteredIs : List ℕ → Place → Option FieldEntry → Type 0
EnteredIs s p (Some x) = Enters s p x
EnteredIs s p None = Unread s p.at

-- a field as `field_in` reads it, once its head is read
unfoldable pub behind_head : ℕ → (entry : ℕ) → FieldHead → Reader Ahead Field
behind_head zero entry h = refuse
behind_head (suc depth) entry h = do
  items ← element_of h.has_items (field_in depth)
  members ← members_of h.count none (field_in depth)
  pure (field entry h.kind h.is_open h.tag items members)

-- the field whose entry was read, and what lies ahead after all that is below it
pub record Reads (s : List ℕ) (x : FieldEntry) (depth : ℕ) (f : Field) (b : Ahead) : Type 0 where
  pub a : Ahead
  pub arrived : Arrived s x.next a
  pub reads : behind_head depth x.number (field_of s x.head) a ≡ some (f, b)

pub record SkipsTo (s : List ℕ) (x : FieldEntry) (r : Place) : Type 0 where
  pub skips : (depth : ℕ) (f : Field) (b : Ahead) → Reads s x depth f b → Arrived s r b
