-- What the readers of fields answer, and what they leave in the scratch.
use Rattle.std.specs.Prelude.{ℕ, zero, suc, ◌+◌, ◌-◌, ◌*◌, ◌≤◌, ◌<◌, Bool, List, ◌≡◌, length, drop, Option as Optional, Some, None}
use Rattle.std.proofs.Math.Option.{Option, none, some}
use Rattle.text.specs.Parts.{part_of}
use Rattle.text.specs.declared.part.Part.{Part}
use Rattle.definition.specs.Tree.{Text, Field, Items, Members}
use Rattle.definition.specs.Decode.{Ahead, to_count, field_in, element_of, members_of}
use Rattle.definition.specs.Limits.{max_sheet_bytes, word_entries}
use Rattle.definition.specs.Write.{has_items, count_of_members}
use Rattle.schema.specs.Index.{index_end, max_slots, place_word, child_slot, slot_name, below, below_items, below_members, FieldAt, ItemsAt, MembersAt}
use Rattle.schema.specs.Kept.{Kept, OthersKept}
use Rattle.sheet.specs.Places.{NamePlaced, max_prefix}
use Rattle.schema.specs.declared.field.Cursor.{Cursor}

-- One slot written

pub record SlotFits (words : List ℕ) (k start entry child : ℕ) (name : Part) : Type 0 where
  pub slot : k < max_slots
  pub scratch : index_end ≤ length words
  pub place : start ≤ max_sheet_bytes
  pub number : entry < word_entries
  pub child_at : child ≤ max_slots
  pub named : NamePlaced start max_prefix name

pub record SlotPut (before after : List ℕ) (k start entry child : ℕ) (name : Part) : Type 0 where
  pub kept : Kept before after
  pub place : place_word after k ≡ start * word_entries + entry
  pub child_at : child_slot after k ≡ child
  pub named : slot_name after k ≡ name
  pub others : OthersKept before after k 1 0 0

abbrev pub cursor_of : (next used at : ℕ) → Cursor
cursor_of next used at = record { next = next; used = used; at = at }

-- what lies ahead of a cursor
abbrev pub ahead : List ℕ → Cursor → Ahead
ahead s c = record { next = c.next; left = max_slots - c.used; rest = drop c.at s }

-- a cursor in front of `n` entries, which were announced; their slots, from `first` on, are among those in use
pub record Ready (s words : List ℕ) (from : Cursor) (first n : ℕ) : Type 0 where
  pub sheet : length s ≤ max_sheet_bytes
  pub scratch : index_end ≤ length words
  pub at : from.at ≤ length s
  pub used : from.used ≤ max_slots
  pub slots : first + n ≤ from.used
  pub entries : from.next + n ≤ from.used + 2

-- from one cursor to another, over `n` entries and what lies below them
pub record Moved (s : List ℕ) (from to : Cursor) (n below : ℕ) : Type 0 where
  pub at : to.at ≤ length s
  pub used : to.used ≡ from.used + below
  pub room : to.used ≤ max_slots
  pub entries : to.next ≡ from.next + n + below

-- A field in its slot

pub record FieldGood (s before after : List ℕ) (depth slot : ℕ) (from : Cursor) (name : Text) (to : Cursor) : Type 0 where
  pub f : Field
  pub reads : field_in depth (ahead s from) ≡ some ((name, f), ahead s to)
  pub indexed : FieldAt s after slot from.used name f
  pub others : OthersKept before after slot 1 from.used to.used
  pub moved : Moved s from to 1 (below f)

abbrev pub FieldIs : (s before after : List ℕ) (depth slot : ℕ) (from : Cursor) → Optional (Part × Cursor) → Type 0
FieldIs s before after depth slot from None = field_in depth (ahead s from) ≡ none
FieldIs s before after depth slot from (Some (name, to)) = FieldGood s before after depth slot from (part_of s name) to

pub record FieldAnswer (s before after : List ℕ) (depth slot : ℕ) (from : Cursor) (r : Optional (Part × Cursor)) : Type 0 where
  pub kept : Kept before after
  pub answer : FieldIs s before after depth slot from r

-- Its element

pub record ItemsGood (s before after : List ℕ) (depth : ℕ) (has : Bool) (slot : ℕ) (from to : Cursor) : Type 0 where
  pub items : Items
  pub reads : element_of has (field_in depth) (ahead s from) ≡ some (items, ahead s to)
  pub marked : has_items items ≡ has
  pub indexed : ItemsAt s after slot from.used items
  pub others : OthersKept before after slot (to_count has) from.used to.used
  pub moved : Moved s from to (to_count has) (below_items items)

abbrev pub ItemsIs : (s before after : List ℕ) (depth : ℕ) (has : Bool) (slot : ℕ) (from : Cursor) → Optional Cursor → Type 0
ItemsIs s before after depth has slot from None = element_of has (field_in depth) (ahead s from) ≡ none
ItemsIs s before after depth has slot from (Some to) = ItemsGood s before after depth has slot from to

pub record ItemsAnswer (s before after : List ℕ) (depth : ℕ) (has : Bool) (slot : ℕ) (from : Cursor) (r : Optional Cursor) : Type 0 where
  pub kept : Kept before after
  pub answer : ItemsIs s before after depth has slot from r

-- Siblings in the slots from `first` on

-- the name of the sibling before the `i`-th one, from 0
unfoldable pub name_before : List ℕ → ℕ → Part → Option Text
name_before s zero p = none
name_before s (suc i) p = some (part_of s p)

pub record MembersGood (s before after : List ℕ) (depth first count : ℕ) (from to : Cursor) : Type 0 where
  pub members : Members
  pub reads : members_of count none (field_in depth) (ahead s from) ≡ some (members, ahead s to)
  pub counted : count_of_members members ≡ count
  pub indexed : MembersAt s after first from.used members
  pub others : OthersKept before after first count from.used to.used
  pub moved : Moved s from to count (below_members members)

abbrev pub MembersIs : (s before after : List ℕ) (depth first count : ℕ) (from : Cursor) → Optional Cursor → Type 0
MembersIs s before after depth first count from None = members_of count none (field_in depth) (ahead s from) ≡ none
MembersIs s before after depth first count from (Some to) = MembersGood s before after depth first count from to

pub record MembersAnswer (s before after : List ℕ) (depth first count : ℕ) (from : Cursor) (r : Optional Cursor) : Type 0 where
  pub kept : Kept before after
  pub answer : MembersIs s before after depth first count from r
