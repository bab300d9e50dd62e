-- Every schema widens to itself, and a widening of a widening is a widening, at each level.
use Prim.Native.Nat.{ℕ}
use mathlib.Core.Bool.{Bool}
use mathlib.Core.Option.{Option, none, some}
use Rattle.definition.specs.Tree.{Field, field, Items, absent, element, Members, no_members, member, Holder, Schema}
use Rattle.widening.specs.Widening.{Level, Opened, kept, opened, MayGrow, closed, WiderField, wider, WiderItems, neither, both, WiderMembers, end, keep, more, WiderHolder, WiderArguments, without, appear, stay, WiderSchema}
use Rattle.widening.proofs.DecisionLaws.{EveryMark}

mutual
  field-reflexive : (l : Level) (f : Field) → WiderField l f f
  field-reflexive l (field e kind o tag i m) = wider kept (items-reflexive l i) (members-reflexive l o m)

  items-reflexive : (l : Level) (i : Items) → WiderItems l i i
  items-reflexive l absent = neither
  items-reflexive l (element f) = both (field-reflexive l f)

  members-reflexive : (l : Level) (o : Bool) (m : Members) → WiderMembers l o m m
  members-reflexive l o no_members = end
  members-reflexive l o (member name f m) = keep (field-reflexive l f) (members-reflexive l o m)

holder-reflexive : (l : Level) (at : ℕ) (h : Holder) → WiderHolder l at h h
holder-reflexive l at h = record { mark = kept; members = members-reflexive l h.is_open h.members }

arguments-reflexive : (l : Level) (x : Option Holder) → WiderArguments l x x
arguments-reflexive l none = without
arguments-reflexive l (some h) = stay (holder-reflexive l 0 h)

pub schema-reflexive : (l : Level) (s : Schema) → WiderSchema l s s
schema-reflexive l s = record { fields = holder-reflexive l 1 s.fields; arguments = arguments-reflexive l s.arguments }

opened-transitive : {l : Level} {e e' : ℕ} {o o' o'' : Bool} → EveryMark l → Opened l e o o' → Opened l e' o' o'' → Opened l e o o''
opened-transitive every kept kept = kept
opened-transitive {e = e} every kept (opened m) = opened (every e)
opened-transitive every (opened m) kept = opened m

-- a holder that is closed in the second schema is closed in the first
may-grow-before : {l : Level} {e : ℕ} {o o' : Bool} → Opened l e o o' → MayGrow l o' → MayGrow l o
may-grow-before kept g = g
may-grow-before {l = l} {e = e} (opened _) g = elim g [ ]

mutual
  field-transitive : {l : Level} {f f' f'' : Field} → EveryMark l → WiderField l f' f'' → WiderField l f f' → WiderField l f f''
  field-transitive every (wider q i₂ m₂) (wider p i₁ m₁) = wider (opened-transitive every p q) (items-transitive every i₂ i₁) (members-transitive every m₂ p m₁)

  items-transitive : {l : Level} {i i' i'' : Items} → EveryMark l → WiderItems l i' i'' → WiderItems l i i' → WiderItems l i i''
  items-transitive every neither v = v
  items-transitive every (both w) (both v) = both (field-transitive every w v)

  members-transitive : {l : Level} {e : ℕ} {o o' : Bool} {m m' m'' : Members}
      → EveryMark l
      → WiderMembers l o' m' m''
      → Opened l e o o'
      → WiderMembers l o m m'
      → WiderMembers l o m m''
  members-transitive every end p end = end
  members-transitive every (keep w ws) p (keep v vs) = keep (field-transitive every w v) (members-transitive every ws p vs)
  members-transitive every (keep w ws) p (more g vs) = more g (members-transitive every ws p vs)
  members-transitive every (more g ws) p vs = more (may-grow-before p g) (members-transitive every ws p vs)

holder-transitive : {l : Level} {at : ℕ} {h h' h'' : Holder} → EveryMark l → WiderHolder l at h h' → WiderHolder l at h' h'' → WiderHolder l at h h''
holder-transitive every v w =
    record { mark = opened-transitive every v.mark w.mark; members = members-transitive every w.members v.mark v.members }

arguments-transitive : {l : Level} {x x' x'' : Option Holder} → EveryMark l → WiderArguments l x x' → WiderArguments l x' x'' → WiderArguments l x x''
arguments-transitive every without w = w
arguments-transitive every appear (stay w) = appear
arguments-transitive every (stay v) (stay w) = stay (holder-transitive every v w)

pub schema-transitive : {l : Level} {s s' s'' : Schema} → EveryMark l → WiderSchema l s s' → WiderSchema l s' s'' → WiderSchema l s s''
schema-transitive every v w =
    record { fields = holder-transitive every v.fields w.fields; arguments = arguments-transitive every v.arguments w.arguments }
