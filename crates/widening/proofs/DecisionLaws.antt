-- The decision and the relation are the same, at each level, and the reason is the first breach of all.
use Rattle.std.specs.Prelude.{Bool, true, false, cond, List, [], ◌∷◌, ◌++◌, ◌↔◌, ◌⊎◌, ◌≡◌, refl, ℕ, eqb}
use Rattle.std.proofs.Common.{inl, inr, ap, subst, eqb-true, eq-eqb}
use Rattle.std.proofs.Math.Option.{Option, none, some}
use Rattle.std.proofs.lemmas.Bool.{not-false}
use Rattle.text.specs.Order.{precedes, same_bytes}
use Rattle.text.specs.OrderLaws.{same_bytes-equal, same_bytes-refl, precedes-irreflexive}
use Rattle.text.specs.CaseLaws.{zero-not-one}
use Rattle.definition.specs.Tree.{Text, Field, field, Items, absent, element, Members, no_members, member, Holder, Schema}
use Rattle.definition.specs.Within.{FieldRises, ItemsRise, MembersRise, ArgumentsRise, SchemaRises}
use Rattle.definition.proofs.RisingLaws.{AllBehind, rising-behind}
use Rattle.widening.specs.Widening.{Level, only, anything, marks, MayOpen, listed, any_mark, Opened, kept, opened, MayGrow, closed, WiderField, wider, WiderItems, neither, both, WiderMembers, end, keep, more, WiderHolder, WiderArguments, without, appear, stay, WiderSchema}
use Rattle.widening.specs.Decision.{Reason, Difference, growth, breach, breach_if, same_tag, same_items_mark, closes, own_differences, added, all_added, missing, sought, field_differences, items_differences, members_differences, arguments_marks, arguments_differences, differences, Decision, widening, refuted, with_growth, decided, widens}
use Rattle.widening.specs.Differences.{Allowed, AllAllowed, FirstBreach, nothing, also}

-- Which differences a level allows.

first-allowed : {d : Difference} {ds : List Difference} {l : Level} → AllAllowed (d ∷ ds) l → Allowed d l
first-allowed (also a others) = a

others-allowed : {d : Difference} {ds : List Difference} {l : Level} → AllAllowed (d ∷ ds) l → AllAllowed ds l
others-allowed (also a others) = others

allowed-parts : (xs ys : List Difference) {l : Level} → AllAllowed (xs ++ ys) l → AllAllowed xs l × AllAllowed ys l
allowed-parts [] ys a = (nothing, a)
allowed-parts (x ∷ xs) ys (also a others) = let p = allowed-parts xs ys others in (also a p.0, p.1)

allowed-both : {xs ys : List Difference} {l : Level} → AllAllowed xs l → AllAllowed ys l → AllAllowed (xs ++ ys) l
allowed-both nothing b = b
allowed-both (also a others) b = also a (allowed-both others b)

breach-not : (b : Bool) (why : Reason) (e e' : ℕ) {l : Level} → AllAllowed (breach_if b why e e') l → b ≡ false
unfolding breach_if
breach-not true why e e' a = absurd (first-allowed a)
breach-not false why e e' a = refl

no-breach : (b : Bool) (why : Reason) (e e' : ℕ) {l : Level} → b ≡ false → AllAllowed (breach_if b why e e') l
unfolding breach_if
no-breach b why e e' h = rw h nothing

-- Marks, tags, added fields.

-- no decision is about some open marks and not about others
abbrev pub EveryMark : Level → Type 0
EveryMark l = (e : ℕ) → MayOpen l e

opened-if : {l : Level} (e : ℕ) (o o' : Bool) → EveryMark l → closes o o' ≡ false → Opened l e o o'
unfolding closes
opened-if e true true every h = kept
opened-if e true false every h = zero-not-one cc
opened-if e false true every h = opened (every e)
opened-if e false false every h = kept

closes-not : {l : Level} {e : ℕ} {o o' : Bool} → Opened l e o o' → closes o o' ≡ false
unfolding closes
closes-not (kept {mark = true}) = refl
closes-not (kept {mark = false}) = refl
closes-not (opened m) = refl

tag-equal : (t t' : Option Text) → same_tag t t' ≡ true → t ≡ t'
unfolding same_tag
tag-equal none none h = refl
tag-equal none (some t') h = zero-not-one cc
tag-equal (some t) none h = zero-not-one cc
tag-equal (some t) (some t') h = rw (same_bytes-equal t t' h)

tag-refl : (t : Option Text) → same_tag t t ≡ true
unfolding same_tag
tag-refl none = refl
tag-refl (some t) = same_bytes-refl t

may-grow-if : (o : Bool) (f' : Field) (l : Level) → Allowed (added o f') l → MayGrow l o
unfolding added
may-grow-if true f' l a = absurd a
may-grow-if false f' (only may) a = absurd a
may-grow-if false f' anything a = closed

added-allowed : {l : Level} {o : Bool} (f' : Field) → MayGrow l o → Allowed (added o f') l
unfolding added
added-allowed f' closed = tt

-- Where all differences are allowed, the relation holds.

all-added-sound : (o : Bool) (m' : Members) (l : Level) → AllAllowed (all_added o m') l → WiderMembers l o no_members m'
unfolding all_added
all-added-sound o no_members l a = end
all-added-sound o (member name f' m') l a = more (may-grow-if o f' l (first-allowed a)) (all-added-sound o m' l (others-allowed a))

-- one step of the search, by what its two tests say
sought-one : (o before same : Bool) (name name' : Text) (f f' : Field) (m m' : Members) (here further behind : List Difference) (l : Level)
    → (same ≡ true → name ≡ name')
    → (AllAllowed here l → WiderField l f f' × WiderMembers l o m m')
    → (AllAllowed further l → WiderMembers l o (member name f m) m')
    → AllAllowed (cond before (added o f' ∷ further) (cond same here (missing f ∷ behind))) l
    → WiderMembers l o (member name f m) (member name' f' m')
unfolding missing
sought-one o true same name name' f f' m m' here further behind l e h k a = more (may-grow-if o f' l (first-allowed a)) (k (others-allowed a))
sought-one o false true name name' f f' m m' here further behind l e h k a = let w = h a in rw (e refl) (keep w.0 w.1)
sought-one o false false name name' f f' m m' here further behind l e h k a = absurd (first-allowed a)

sought-sound : (o : Bool) (name : Text) (f : Field) (m : Members) (found : Field → Members → List Difference) (lost : Members → List Difference) (l : Level)
    → ((f' : Field) (m' : Members) → AllAllowed (found f' m') l → WiderField l f f' × WiderMembers l o m m')
    → (m' : Members)
    → AllAllowed (sought o name f found lost m') l
    → WiderMembers l o (member name f m) m'
unfolding sought missing
sought-sound o name f m found lost l h no_members a = absurd (first-allowed a)
sought-sound o name f m found lost l h (member name' f' m') a =
    sought-one o (precedes name' name) (same_bytes name name') name name' f f' m m' _ _ _ l
    (same_bytes-equal name name')
    (h f' m')
    (sought-sound o name f m found lost l h m')
    a

mutual
  unfolding field_differences items_differences members_differences own_differences same_items_mark

  field-sound : (f f' : Field) (l : Level) → EveryMark l → AllAllowed (field_differences f f') l → WiderField l f f'
  field-sound (field e kind o tag i m) (field e' kind' o' tag' i' m') l every a =
      let p = allowed-parts _ _ a in
      let kinds = allowed-parts _ _ p.0 in
      let opens = allowed-parts _ _ kinds.1 in
      let items = allowed-parts _ _ opens.1 in
      let below = allowed-parts _ _ p.1 in
      let same_kind = eqb-true kind kind' (not-false (eqb kind kind') (breach-not _ _ e e' kinds.0)) in
      let same_tags = tag-equal tag tag' (not-false (same_tag tag tag') (breach-not _ _ e e' items.1)) in
      rw (same_kind, same_tags) (wider
      (opened-if e o o' every (breach-not _ _ e e' opens.0))
      (items-sound i i' l every (not-false (same_items_mark i i') (breach-not _ _ e e' items.0)) below.0)
      (members-sound o m m' l every below.1))

  items-sound : (i i' : Items) (l : Level) → EveryMark l → same_items_mark i i' ≡ true → AllAllowed (items_differences i i') l → WiderItems l i i'
  items-sound absent absent l every h a = neither
  items-sound absent (element f') l every h a = zero-not-one cc
  items-sound (element f) absent l every h a = zero-not-one cc
  items-sound (element f) (element f') l every h a = both (field-sound f f' l every a)

  members-sound : (o : Bool) (m m' : Members) (l : Level) → EveryMark l → AllAllowed (members_differences o m m') l → WiderMembers l o m m'
  members-sound o no_members m' l every a = all-added-sound o m' l a
  members-sound o (member name f m) m' l every a =
      sought-sound o name f m _ _ l
      (λ f' others' b. let p = allowed-parts _ _ b in (field-sound f f' l every p.0, members-sound o m others' l every p.1))
      m'
      a

-- And where it holds, they are: this needs the names of the second schema to rise.

-- the names of the first are among those of the second
behind-too : {l : Level} {o : Bool} {m m' : Members} (name : Text) → WiderMembers l o m m' → AllBehind name m' → AllBehind name m
behind-too name end b = tt
behind-too name (keep w ws) b = (b.0, behind-too name ws b.1)
behind-too name (more g ws) b = behind-too name ws b.1

-- one more in the second, before all of the first
more-complete : {l : Level} {o : Bool} (name' : Text) (f' : Field) (m m' : Members)
    → MayGrow l o
    → AllBehind name' m
    → AllAllowed (members_differences o m m') l
    → AllAllowed (members_differences o m (member name' f' m')) l
unfolding members_differences sought all_added
more-complete name' f' no_members m' g b a = also (added-allowed f' g) a
more-complete name' f' (member name f m) m' g b a = rw b.0 (also (added-allowed f' g) a)

items-agree : {l : Level} {i i' : Items} → WiderItems l i i' → same_items_mark i i' ≡ true
unfolding same_items_mark
items-agree neither = refl
items-agree (both w) = refl

mutual
  unfolding field_differences items_differences members_differences own_differences sought all_added

  field-complete : {l : Level} {f f' : Field} → WiderField l f f' → FieldRises f' → AllAllowed (field_differences f f') l
  field-complete {l} (wider {e = e} {e' = e'} {kind = kind} {o = o} {o' = o'} {tag = tag} {i = i} {i' = i'} p wi wm) r =
      allowed-both (allowed-both (no-breach _ _ e e' (rw (eq-eqb kind kind refl)))
      (allowed-both (no-breach _ _ e e' (closes-not p))
      (allowed-both (no-breach _ _ e e' (rw (items-agree wi))) (no-breach _ _ e e' (rw (tag-refl tag))))))
      (allowed-both (items-complete wi r.0) (members-complete none wm r.1))

  items-complete : {l : Level} {i i' : Items} → WiderItems l i i' → ItemsRise i' → AllAllowed (items_differences i i') l
  items-complete neither r = nothing
  items-complete (both w) r = field-complete w r

  members-complete : {l : Level} {o : Bool} {m m' : Members} (before : Option Text)
      → WiderMembers l o m m'
      → MembersRise before m'
      → AllAllowed (members_differences o m m') l
  members-complete before end r = nothing
  members-complete {l} before (keep {name = name} w ws) r =
      rw (precedes-irreflexive name, same_bytes-refl name)
      (allowed-both (field-complete w r.1) (members-complete (some name) ws r.2))
  members-complete before (more {name = name'} {f' = f'} {m = m} {m' = m'} g ws) r =
      more-complete name' f' m m' g (behind-too name' ws (rising-behind name' m' r.2)) (members-complete (some name') ws r.2)

-- Schemas.

holder-sound : (at : ℕ) (h h' : Holder) (l : Level)
    → EveryMark l
    → closes h.is_open h'.is_open ≡ false
    → AllAllowed (members_differences h.is_open h.members h'.members) l
    → WiderHolder l at h h'
holder-sound at h h' l every e a =
    record { mark = opened-if at h.is_open h'.is_open every e; members = members-sound h.is_open h.members h'.members l every a }

arguments_sound : (x x' : Option Holder) (l : Level) → EveryMark l → AllAllowed (arguments_marks x x') l → AllAllowed (arguments_differences x x') l → WiderArguments l x x'
unfolding arguments_marks arguments_differences
arguments_sound none none l every a b = without
arguments_sound none (some h') (only may) every a b = absurd (first-allowed a)
arguments_sound none (some h') anything every a b = appear
arguments_sound (some h) none l every a b = absurd (first-allowed a)
arguments_sound (some h) (some h') l every a b = stay (holder-sound 0 h h' l every (breach-not _ _ 1 1 a) b)

schema-sound : (s s' : Schema) (l : Level) → EveryMark l → AllAllowed (differences s s') l → WiderSchema l s s'
unfolding differences
schema-sound s s' l every a =
    let p = allowed-parts _ _ a in
    let q = allowed-parts _ _ p.1 in
    let r = allowed-parts _ _ q.1 in
    record {
      fields = holder-sound 1 s.fields s'.fields l every (breach-not _ _ 1 1 p.0) r.0;
      arguments = arguments_sound s.arguments s'.arguments l every q.0 r.1;
    }

arguments-marks-complete : {l : Level} {x x' : Option Holder} → WiderArguments l x x' → AllAllowed (arguments_marks x x') l
unfolding arguments_marks
arguments-marks-complete without = nothing
arguments-marks-complete appear = also tt nothing
arguments-marks-complete {l} (stay w) = no-breach _ _ 1 1 (closes-not w.mark)

arguments-complete : {l : Level} {x x' : Option Holder} → WiderArguments l x x' → ArgumentsRise x' → AllAllowed (arguments_differences x x') l
unfolding arguments_differences
arguments-complete without r = nothing
arguments-complete appear r = nothing
arguments-complete (stay w) r = members-complete none w.members r

schema-complete : {l : Level} {s s' : Schema} → WiderSchema l s s' → SchemaRises s' → AllAllowed (differences s s') l
unfolding differences
schema-complete {l} w r =
    allowed-both (no-breach _ _ 1 1 (closes-not w.fields.mark))
    (allowed-both (arguments-marks-complete w.arguments)
    (allowed-both (members-complete none w.fields.members r.0) (arguments-complete w.arguments r.1)))

-- The decision.

growth-either : (d : Decision) (l : Level) → with_growth d ≡ widening l → (k : Level) × (d ≡ widening k) × (l ≡ anything)
unfolding with_growth
growth-either (widening k) l e = (k, refl, cc)
growth-either (refuted why a b) l e = zero-not-one cc

marks-allow : {may : ℕ → Bool} (ds : List Difference) → AllAllowed ds (only may) → AllAllowed ds anything
marks-allow [] a = nothing
marks-allow (growth ∷ ds) a = absurd (first-allowed a)
marks-allow (breach why e e' ∷ ds) a = absurd (first-allowed a)

more-allow : (ds : List Difference) (l : Level) → AllAllowed ds l → AllAllowed ds anything
more-allow ds (only may) a = marks-allow ds a
more-allow ds anything a = a

decided-sound : (ds : List Difference) (l : Level) → decided ds ≡ widening l → AllAllowed ds l
unfolding decided
decided-sound [] l e = nothing
decided-sound (growth ∷ ds) l e =
    let g = growth-either (decided ds) l e in
    rw g.2 (also tt (more-allow ds g.0 (decided-sound ds g.0 g.1)))
decided-sound (breach why a b ∷ ds) l e = zero-not-one cc

marks-every : EveryMark marks
marks-every e = listed refl

anything-every : EveryMark anything
anything-every e = any_mark

decided-every : (ds : List Difference) (l : Level) → decided ds ≡ widening l → EveryMark l
unfolding decided
decided-every [] l e = let same : marks ≡ l = cc in subst (λ (k : Level). EveryMark k) same marks-every
decided-every (growth ∷ ds) l e = rw (growth-either (decided ds) l e).2 anything-every
decided-every (breach why a b ∷ ds) l e = zero-not-one cc

-- of the levels it names these two
decided-level : (ds : List Difference) (l : Level) → decided ds ≡ widening l → (l ≡ marks) ⊎ (l ≡ anything)
unfolding decided
decided-level [] l e = inl cc
decided-level (growth ∷ ds) l e = inr (growth-either (decided ds) l e).2
decided-level (breach why a b ∷ ds) l e = zero-not-one cc

decided-marks : (ds : List Difference) → AllAllowed ds marks → decided ds ≡ widening marks
unfolding decided
decided-marks [] a = refl
decided-marks (growth ∷ ds) a = absurd (first-allowed a)
decided-marks (breach why e e' ∷ ds) a = absurd (first-allowed a)

decided-anything : (ds : List Difference) → AllAllowed ds anything → (l : Level) × (decided ds ≡ widening l)
unfolding decided with_growth
decided-anything [] a = (marks, refl)
decided-anything (growth ∷ ds) a = (anything, rw (decided-anything ds (others-allowed a)).1)
decided-anything (breach why e e' ∷ ds) a = absurd (first-allowed a)

-- whatever it answers, of any two schemas, is so
pub widens-sound : (s s' : Schema) (l : Level) → widens s s' ≡ widening l → WiderSchema l s s'
unfolding widens
widens-sound s s' l e = schema-sound s s' l (decided-every (differences s s') l e) (decided-sound (differences s s') l e)

pub widens-level : (s s' : Schema) (l : Level) → widens s s' ≡ widening l → (l ≡ marks) ⊎ (l ≡ anything)
unfolding widens
widens-level s s' l e = decided-level (differences s s') l e

-- `marks` exactly if the relation holds at that level
pub widens-marks : (s s' : Schema) → SchemaRises s' → (widens s s' ≡ widening marks) ↔ WiderSchema marks s s'
unfolding widens
widens-marks s s' r = (λ e. widens-sound s s' marks e, λ w. decided-marks (differences s s') (schema-complete w r))

-- `marks` or `anything` exactly if it holds at all
pub widens-anything : (s s' : Schema) → SchemaRises s' → ((l : Level) × (widens s s' ≡ widening l)) ↔ WiderSchema anything s s'
unfolding widens
widens-anything s s' r = (
  λ e. schema-sound s s' anything anything-every (more-allow (differences s s') e.0 (decided-sound (differences s s') e.0 e.1)),
  λ w. decided-anything (differences s s') (schema-complete w r),
)

refuted-growth : (d : Decision) (why : Reason) (e e' : ℕ) → with_growth d ≡ refuted why e e' → d ≡ refuted why e e'
unfolding with_growth
refuted-growth (widening l) why e e' h = zero-not-one cc
refuted-growth (refuted x a b) why e e' h = h

decided-first : (ds : List Difference) (why : Reason) (e e' : ℕ) → decided ds ≡ refuted why e e' → FirstBreach ds why e e'
unfolding decided
decided-first [] why e e' h = zero-not-one cc
decided-first (growth ∷ ds) why e e' h =
    let p = decided-first ds why e e' (refuted-growth (decided ds) why e e' h) in
    record { before = growth ∷ p.before; after = p.after; listed = ap (λ (x : List Difference). growth ∷ x) p.listed; none_before = also tt p.none_before }
decided-first (breach x a b ∷ ds) why e e' h = record { before = []; after = ds; listed = cc; none_before = nothing }

first-decided : (before after : List Difference) (why : Reason) (e e' : ℕ) → AllAllowed before anything → decided (before ++ (breach why e e' ∷ after)) ≡ refuted why e e'
unfolding decided with_growth
first-decided [] after why e e' a = refl
first-decided (growth ∷ before) after why e e' a = rw (first-decided before after why e e' (others-allowed a))
first-decided (breach x i j ∷ before) after why e e' a = absurd (first-allowed a)

-- a reason is given exactly if it is that of the first breach
pub widens-refuted : (s s' : Schema) (why : Reason) (e e' : ℕ) → (widens s s' ≡ refuted why e e') ↔ FirstBreach (differences s s') why e e'
unfolding widens
widens-refuted s s' why e e' = (
  decided-first (differences s s') why e e',
  λ p. rw p.listed (first-decided p.before p.after why e e' p.none_before),
)
