-- What a slot of the index holds, in terms of the tree.
use Rattle.std.specs.Prelude.{ℕ, ◌+◌, ◌<◌, ◌≤◌, Bool, true, false, List, ◌≡◌, Option as Optional, Some, None}
use Rattle.std.proofs.Math.Option.{Option, none}
use Rattle.text.specs.Parts.{optional_of}
use Rattle.definition.specs.Tree as Tree
use Rattle.definition.specs.Tree.{Text, Field, field, Items, absent, element}
use Rattle.definition.specs.Within.{FieldRises, MembersRise}
use Rattle.definition.specs.Write.{count_of_members}
use Rattle.schema.specs.Index.{max_slots, below, below_members, FieldAt, MembersAt}
use Rattle.schema.specs.declared.index.Holder.{Holder}
use Rattle.schema.specs.declared.index.IndexedField.{IndexedField}

-- slot `k` holds a field, in which sibling names rise; all slots of what lies below it are slots of the index
pub record SlotHolds (sheet words : List ℕ) (k : ℕ) (f : Field) : Type 0 where
  pub name : Text
  pub low : ℕ
  pub indexed : FieldAt sheet words k low name f
  pub rises : FieldRises f
  pub slot : k < max_slots
  pub room : low + below f ≤ max_slots

-- the slots from the first one on hold the members
pub record HolderAt (sheet words : List ℕ) (h : Holder) (t : Tree.Holder) : Type 0 where
  pub marked : h.opened ≡ t.is_open
  pub counted : count_of_members t.members ≡ h.count
  pub low : ℕ
  pub indexed : MembersAt sheet words h.first low t.members
  pub rises : MembersRise none t.members
  pub slots : h.first + h.count ≤ max_slots
  pub room : low + below_members t.members ≤ max_slots

abbrev pub ElementAt : (sheet words : List ℕ) → Optional ℕ → Items → Type 0
ElementAt sheet words None absent = Unit {0}
ElementAt sheet words None (element f) = ⊥
ElementAt sheet words (Some k) absent = ⊥
ElementAt sheet words (Some k) (element f) = SlotHolds sheet words k f

-- where an element is, if there is one
unfoldable pub element_from : Bool → ℕ → Optional ℕ
element_from true k = Some k
element_from false k = None

pub record FieldParts (sheet words : List ℕ) (e kind : ℕ) (tag : Option Text) (items : Items) (holder : Tree.Holder) (r : IndexedField) : Type 0 where
  pub numbered : r.entry ≡ e
  pub kinded : r.kind ≡ kind
  pub tagged : optional_of sheet r.tag ≡ tag
  pub elements : ElementAt sheet words r.element items
  pub members : HolderAt sheet words r.members holder

abbrev pub PartsOf : (sheet words : List ℕ) → Field → IndexedField → Type 0
PartsOf sheet words (field e kind o tag items ms) r = FieldParts sheet words e kind tag items (record { is_open = o; members = ms }) r

-- the parts of the field that slot `k` holds, whichever it is
abbrev pub IndexedIs : (sheet words : List ℕ) (k : ℕ) → IndexedField → Type 0
IndexedIs sheet words k r = (f : Field) → SlotHolds sheet words k f → PartsOf sheet words f r
