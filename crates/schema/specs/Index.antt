-- The index of a schema in the scratch: a slot of two words for each field. The children of a field are in neighbouring slots, its
-- element first, then its properties in the order of their names; they are followed by the slots of what lies below them, child by child.
use Rattle.std.specs.Prelude.{ℕ, ◌+◌, ◌-◌, ◌*◌, ◌/◌, ◌%◌, List, [], ◌≡◌, get_or, drop}
use Rattle.std.proofs.Math.Option.{some}
use Rattle.text.specs.Parts.{part_of}
use Rattle.text.specs.declared.part.Part.{Part}
use Rattle.sheet.specs.Entries.{FieldHead, field_head}
use Rattle.definition.specs.Tree.{Text, Field, field, Items, absent, element, Members, no_members, member}
use Rattle.definition.specs.Limits.{max_schema_entries, max_rule_entries, word_entries}
use Rattle.definition.specs.Write.{has_items, count_of_members}

-- the words before this one are a rule's
abbrev pub first_word : ℕ
first_word = max_rule_entries

-- every entry but the sheet's head is a field's
abbrev pub max_slots : ℕ
max_slots = max_schema_entries - 1

-- the words from this one on are not words of the index
abbrev pub index_end : ℕ
index_end = first_word + 2 * max_slots

-- the first word of slot `k`: where the field's entry starts, times 4,096, and its number
abbrev pub place_word : List ℕ → ℕ → ℕ
place_word words k = get_or words (first_word + 2 * k) 0

-- its second word: the slot of its first child, how far after the start of its entry its name begins, times 4,096, and the name's length,
-- times 131,072
abbrev pub name_word : List ℕ → ℕ → ℕ
name_word words k = get_or words (first_word + 2 * k + 1) 0

abbrev pub child_slot : List ℕ → ℕ → ℕ
child_slot words k = name_word words k % word_entries

-- where its name is: less than 32 bytes after the start of its entry
abbrev pub slot_name : List ℕ → ℕ → Part
slot_name words k = record { start = place_word words k / word_entries + name_word words k / word_entries % 32; len = name_word words k / 131072 }

unfoldable pub elements : Items → ℕ
elements absent = 0
elements (element f) = 1

-- how many fields lie below
unfoldable mutual
  pub below : Field → ℕ
  below (field e kind o tag items ms) = elements items + count_of_members ms + (below_items items + below_members ms)

  pub below_items : Items → ℕ
  below_items absent = 0
  below_items (element f) = below f

  pub below_members : Members → ℕ
  below_members no_members = 0
  below_members (member name f others) = below f + below_members others

-- the entry at byte `start` has that head
pub record HeadAt (sheet : List ℕ) (start : ℕ) (h : FieldHead) : Type 0 where
  pub rest : List ℕ
  pub reads : field_head (drop start sheet) ≡ some (h, rest)

-- slot `k` is that of a field with that name; the slots of what lies below it begin at `low`
abbrev mutual
  pub FieldAt : (sheet words : List ℕ) (k low : ℕ) → Text → Field → Type 0
  FieldAt sheet words k low name (field e kind o tag items ms) =
      (place_word words k % word_entries ≡ e)
      × HeadAt sheet (place_word words k / word_entries)
      (record { kind = kind; is_open = o; has_items = has_items items; count = count_of_members ms; name = name; tag = tag })
      × (part_of sheet (slot_name words k) ≡ name)
      × (child_slot words k ≡ low)
      × ItemsAt sheet words low (low + (elements items + count_of_members ms)) items
      × MembersAt sheet words (low + elements items) (low + (elements items + count_of_members ms) + below_items items) ms

  pub ItemsAt : (sheet words : List ℕ) (k low : ℕ) → Items → Type 0
  ItemsAt sheet words k low absent = Unit {0}
  ItemsAt sheet words k low (element f) = FieldAt sheet words k low [] f

  -- the slots from `k` on are those of the members, and what lies below them follows from `low` on
  pub MembersAt : (sheet words : List ℕ) (k low : ℕ) → Members → Type 0
  MembersAt sheet words k low no_members = Unit {0}
  MembersAt sheet words k low (member name f others) =
      FieldAt sheet words k low name f × MembersAt sheet words (k + 1) (low + below f) others
