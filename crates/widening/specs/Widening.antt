-- A widening of a schema (docs/FORMAT.md, "Widening"): every field of the first schema is in the second, under the same holder, as an
-- element exactly if it is one in the first, with the same name, kind, items mark and tag. Record, arguments, fields and elements are holders.
use Rattle.std.specs.Prelude.{ℕ, Bool, true, false, ◌≡◌}
use Rattle.std.proofs.Math.Option.{Option, none, some}
use Rattle.definition.specs.Tree.{Text, Field, field, Items, absent, element, Members, no_members, member, Holder, Schema}

-- what may differ: the open marks of some entries and no more, or anything that a widening allows
pub data Level : Type 0 where
  only : (may : ℕ → Bool) → Level
  anything : Level

-- open marks, whatever their entry
abbrev pub marks : Level
marks = only (λ e. true)

-- the open mark of the entry may go from 0 to 1
pub data MayOpen : Level → ℕ → Type 0 where
  listed : {may : ℕ → Bool} {e : ℕ} → may e ≡ true → MayOpen (only may) e
  any_mark : {e : ℕ} → MayOpen anything e

-- the entry's open mark in the first schema, and in the second
pub data Opened : Level → ℕ → Bool → Bool → Type 0 where
  kept : {l : Level} {e : ℕ} {mark : Bool} → Opened l e mark mark
  opened : {l : Level} {e : ℕ} → MayOpen l e → Opened l e false true

-- a holder that is closed in the first schema may hold more in the second
pub data MayGrow : Level → Bool → Type 0 where
  closed : MayGrow anything false

mutual
  pub data WiderField : Level → Field → Field → Type 0 where
    wider : {l : Level} {e e' kind : ℕ} {o o' : Bool} {tag : Option Text} {i i' : Items} {m m' : Members}
        → Opened l e o o'
        → WiderItems l i i'
        → WiderMembers l o m m'
        → WiderField l (field e kind o tag i m) (field e' kind o' tag i' m')

  pub data WiderItems : Level → Items → Items → Type 0 where
    neither : {l : Level} → WiderItems l absent absent
    both : {l : Level} {f f' : Field} → WiderField l f f' → WiderItems l (element f) (element f')

  -- the members of a holder with that open mark in the first schema
  pub data WiderMembers : Level → Bool → Members → Members → Type 0 where
    end : {l : Level} {o : Bool} → WiderMembers l o no_members no_members
    keep : {l : Level} {o : Bool} {name : Text} {f f' : Field} {m m' : Members}
        → WiderField l f f'
        → WiderMembers l o m m'
        → WiderMembers l o (member name f m) (member name f' m')
    more : {l : Level} {o : Bool} {name : Text} {f' : Field} {m m' : Members}
        → MayGrow l o
        → WiderMembers l o m m'
        → WiderMembers l o m (member name f' m')

-- 1 is the record's entry, and 0 stands for the arguments
pub record WiderHolder (l : Level) (at : ℕ) (h h' : Holder) : Type 0 where
  pub mark : Opened l at h.is_open h'.is_open
  pub members : WiderMembers l h.is_open h.members h'.members

-- absent arguments may appear, and arguments that are there stay
pub data WiderArguments : Level → Option Holder → Option Holder → Type 0 where
  without : {l : Level} → WiderArguments l none none
  appear : {h' : Holder} → WiderArguments anything none (some h')
  stay : {l : Level} {h h' : Holder} → WiderHolder l 0 h h' → WiderArguments l (some h) (some h')

pub record WiderSchema (l : Level) (s s' : Schema) : Type 0 where
  pub fields : WiderHolder l 1 s.fields s'.fields
  pub arguments : WiderArguments l s.arguments s'.arguments
