-- How a walk fares when the schema under it is widened: what it reached it reaches still, and a refusal may go.
use Rattle.std.specs.Prelude.{ℕ, Bool, true, false, cond, ◌&&◌, ◌||◌, List, [], ◌∷◌, ◌≡◌, refl, eqb}
use Rattle.std.proofs.Math.Option.{Option, none, some}
use Rattle.text.specs.Order.{same_bytes}
use Rattle.text.specs.OrderLaws.{same_bytes-equal}
use Rattle.definition.specs.Tree.{Text, Field, Items, Members}
use Rattle.reference.specs.Setting.{Reader, kernel, projection}
use Rattle.reference.specs.Path.{is_ordinal, is_count}
use Rattle.reference.specs.Walk.{Step, refuse, leaf, free, into, lookup, member_step, item_step, Reached, refused, unknown, known, last_or, arrive, entry_of, travel, is_empty, array_step, map_step, is_tag, content_key, union_step, text_count, FieldForm, json_field, object_field, array_field, map_field, string_field, union_field, other_field, form_of_kind, walk_into, walk_step, field_step, element_or, element_of_field, element_of}
use Rattle.widening.specs.Widening.{Level, anything, MayOpen, any_mark, Opened, kept, opened, MayGrow, closed, WiderField, wider, WiderItems, neither, both, WiderMembers, end, keep, more}
use Rattle.widening.specs.Distinct.{DistinctField, DistinctItems, DistinctMembers}

-- a field and its widening, with no sibling name twice in the latter
pub record Grown (l : Level) (f f' : Field) : Type 0 where
  pub is_wider : WiderField l f f'
  pub is_distinct : DistinctField f'

-- the details of two refusals: the same, unless anything may differ
pub data Details : Level → ℕ → ℕ → Type 0 where
  equal : {l : Level} {d : ℕ} → Details l d d
  differ : {d d' : ℕ} → Details anything d d'

pub data Fares : Level → Reached → Reached → Type 0 where
  still_refused : {l : Level} {d d' at at' : ℕ} {p p' : List Text} → Details l d d' → Fares l (refused d at p) (refused d' at' p')
  now_unknown : {l : Level} {d at : ℕ} {p : List Text} → MayOpen l at → Fares l (refused d at p) unknown
  now_known : {d at : ℕ} {p : List Text} {f' : Field} → Fares anything (refused d at p) (known f')
  still_unknown : {l : Level} → Fares l unknown unknown
  still_known : {l : Level} {f f' : Field} → Grown l f f' → Fares l (known f) (known f')

-- a step from the holder with that entry
pub data StepFares : Level → ℕ → Step → Step → Type 0 where
  same_refusal : {l : Level} {at d : ℕ} → StepFares l at (refuse d) (refuse d)
  now_free : {l : Level} {at d : ℕ} → MayOpen l at → StepFares l at (refuse d) free
  changed : {at d : ℕ} {s' : Step} → StepFares anything at (refuse d) s'
  same_leaf : {l : Level} {at d : ℕ} → StepFares l at (leaf d) (leaf d)
  still_free : {l : Level} {at : ℕ} → StepFares l at free free
  still_into : {l : Level} {at : ℕ} {f f' : Field} → Grown l f f' → StepFares l at (into f) (into f')

pub data Finds : Level → Bool → Option Field → Option Field → Type 0 where
  found : {l : Level} {o : Bool} {f f' : Field} → Grown l f f' → Finds l o (some f) (some f')
  nothing : {l : Level} {o : Bool} → Finds l o none none
  added : {l : Level} {o : Bool} {f' : Field} → MayGrow l o → Finds l o none (some f')

-- a name that the second schema's holder lacks is lacking in the first's
lacks-if : (b : Bool) (f f' : Field) (x x' : Option Field)
    → cond b (some f') x' ≡ none
    → (x' ≡ none → x ≡ none)
    → cond b (some f) x ≡ none
lacks-if true f f' x x' e h = cc
lacks-if false f f' x x' e h = h e

lacks-of-if : (b : Bool) (f' : Field) (x' : Option Field) → cond b (some f') x' ≡ none → x' ≡ none
lacks-of-if true f' x' e = cc
lacks-of-if false f' x' e = e

lookup-lacks : {l : Level} {o : Bool} {m m' : Members} (s : Text) → WiderMembers l o m m' → lookup s m' ≡ none → lookup s m ≡ none
unfolding lookup
lookup-lacks s end e = e
lookup-lacks s (keep {name = n} {f = f} {f' = f'} {m = m} {m' = m'} w ws) e =
    lacks-if (same_bytes n s) f f' (lookup s m) (lookup s m') e (λ h. lookup-lacks s ws h)
lookup-lacks s (more {name = n} {f' = f'} {m' = m'} g ws) e = lookup-lacks s ws (lacks-of-if (same_bytes n s) f' (lookup s m') e)

finds-kept : {l : Level} {o : Bool} {f f' : Field} {x x' : Option Field} (b : Bool)
    → Grown l f f'
    → Finds l o x x'
    → Finds l o (cond b (some f) x) (cond b (some f') x')
finds-kept true g r = found g
finds-kept false g r = r

finds-added : {l : Level} {o : Bool} {x x' : Option Field} (f' : Field) (b : Bool)
    → MayGrow l o
    → (b ≡ true → x ≡ none)
    → Finds l o x x'
    → Finds l o x (cond b (some f') x')
finds-added {l} {o} f' true g new r = rw (new refl) (added g)
finds-added f' false g new r = r

pub lookup-finds : {l : Level} {o : Bool} {m m' : Members} (s : Text)
    → WiderMembers l o m m'
    → DistinctMembers m'
    → Finds l o (lookup s m) (lookup s m')
unfolding lookup
lookup-finds s end d = nothing
lookup-finds s (keep {name = n} w ws) d =
    finds-kept (same_bytes n s) (record { is_wider = w; is_distinct = d.1 }) (lookup-finds s ws d.2)
lookup-finds s (more {name = n} {f' = f'} {m = m} g ws) d =
    finds-added f' (same_bytes n s) g
    (λ e. lookup-lacks s ws (rw (same_bytes-equal n s e) at d.0))
    (lookup-finds s ws d.2)

pub member-fares : {l : Level} {at : ℕ} {o o' : Bool} {x x' : Option Field} (d : ℕ)
    → Opened l at o o'
    → Finds l o x x'
    → StepFares l at (member_step x o d) (member_step x' o' d)
unfolding member_step
member-fares d p (found g) = still_into g
member-fares d (kept {mark = true}) nothing = still_free
member-fares d (kept {mark = false}) nothing = same_refusal
member-fares d (opened m) nothing = now_free m
member-fares d p (added closed) = changed

item-fares : {l : Level} {at : ℕ} {i i' : Items} → WiderItems l i i' → DistinctItems i' → StepFares l at (item_step i) (item_step i')
unfolding item_step
item-fares neither d = still_free
item-fares (both w) d = still_into (record { is_wider = w; is_distinct = d })

-- a test that does not see the schema
either-fares : {l : Level} {at : ℕ} {s s' t t' : Step} (b : Bool) → StepFares l at s s' → StepFares l at t t' → StepFares l at (cond b s t) (cond b s' t')
either-fares true p q = p
either-fares false p q = q

array-fares : {l : Level} {at : ℕ} {i i' : Items} (s : Text) → WiderItems l i i' → DistinctItems i' → StepFares l at (array_step i s) (array_step i' s)
unfolding array_step
array-fares s w d = either-fares (is_count s) same_leaf (either-fares (is_ordinal s) (item-fares w d) same_refusal)

map-fares : {l : Level} {at : ℕ} (s : Text) → StepFares l at (map_step s) (map_step s)
unfolding map_step
map-fares s = either-fares (is_count s) same_leaf same_refusal

union-fares : {l : Level} {at : ℕ} (tag : Option Text) (s : Text) → StepFares l at (union_step tag s) (union_step tag s)
unfolding union_step
union-fares tag s = either-fares (is_tag tag s) same_leaf (either-fares (same_bytes (content_key tag) s) still_free same_refusal)

text-fares : {l : Level} {at : ℕ} (reader : Reader) → StepFares l at (text_count reader) (text_count reader)
unfolding text_count
text-fares kernel = same_leaf
text-fares projection = same_refusal

into-fares : {l : Level} {at : ℕ} {o o' : Bool} {i i' : Items} {m m' : Members} (reader : Reader) (is_service : Bool) (tag : Option Text) (s : Text) (form : FieldForm)
    → Opened l at o o'
    → WiderMembers l o m m'
    → DistinctMembers m'
    → WiderItems l i i'
    → DistinctItems i'
    → StepFares l at (walk_into reader is_service o tag i m s form) (walk_into reader is_service o' tag i' m' s form)
unfolding walk_into
into-fares reader b tag s json_field p ms ds w d = still_free
into-fares reader b tag s object_field p ms ds w d = member-fares 3 p (lookup-finds s ms ds)
into-fares reader b tag s array_field p ms ds w d = either-fares b (array-fares s w d) same_refusal
into-fares reader b tag s map_field p ms ds w d = either-fares b (map-fares s) same_refusal
into-fares reader b tag s string_field p ms ds w d = either-fares (b && is_count s) (text-fares reader) same_refusal
into-fares reader b tag s union_field p ms ds w d = either-fares b (union-fares tag s) same_refusal
into-fares reader b tag s other_field p ms ds w d = either-fares (b && is_count s) same_refusal same_refusal

pub walk-step-fares : {l : Level} {f f' : Field} (reader : Reader) (is_service : Bool) (s : Text)
    → WiderField l f f'
    → DistinctField f'
    → StepFares l (entry_of f) (walk_step reader is_service f s) (walk_step reader is_service f' s)
unfolding walk_step entry_of
walk-step-fares reader b s (wider {kind = k} {tag = tag} p wi wm) d =
    either-fares (is_empty s) same_refusal (into-fares reader b tag s (form_of_kind k) p wm d.1 wi d.0)

pub field-step-fares : {l : Level} {f f' : Field} (s : Text)
    → WiderField l f f'
    → DistinctField f'
    → StepFares l (entry_of f) (field_step f s) (field_step f' s)
unfolding field_step entry_of
field-step-fares s (wider {kind = k} p wi wm) d =
    either-fares (eqb k 8 || eqb k 11) still_free
    (either-fares (eqb k 7) (member-fares 2 p (lookup-finds s wm d.1))
    (either-fares (eqb k 6 && is_ordinal s) (item-fares wi d.0) same_refusal))

-- where anything may differ, a refusal says nothing of the second answer
pub refused-fares : {d at : ℕ} {p : List Text} (r : Reached) → Fares anything (refused d at p) r
refused-fares (refused d at p) = still_refused differ
refused-fares unknown = now_unknown any_mark
refused-fares (known f) = now_known

last-fares : {l : Level} {r r' : Reached} (path : List Text) → Fares l r r' → Fares l (last_or path r) (last_or path r')
unfolding last_or
last-fares [] h = still_unknown
last-fares (s ∷ path) h = h

pub arrive-fares : {l : Level} {onward onward' : Field → Reached} {t t' : Step} (at at' : ℕ) (s : Text) (path : List Text)
    → ((f f' : Field) → Grown l f f' → Fares l (onward f) (onward' f'))
    → StepFares l at t t'
    → Fares l (arrive at s path onward t) (arrive at' s path onward' t')
unfolding arrive
arrive-fares at at' s path h same_refusal = still_refused equal
arrive-fares at at' s path h (now_free m) = now_unknown m
arrive-fares at at' s path h changed = refused-fares _
arrive-fares at at' s path h same_leaf = last-fares path (still_refused equal)
arrive-fares at at' s path h still_free = still_unknown
arrive-fares at at' s path h (still_into g) = h _ _ g

pub travel-fares : {l : Level} {step : Field → Text → Step} {f f' : Field} (path : List Text)
    → ((f f' : Field) (s : Text) → Grown l f f' → StepFares l (entry_of f) (step f s) (step f' s))
    → Grown l f f'
    → Fares l (travel step path f) (travel step path f')
unfolding travel
travel-fares [] h g = still_known g
travel-fares {f = f} {f' = f'} (s ∷ path) h g =
    arrive-fares (entry_of f) (entry_of f') s path (λ f₁ f₂ g'. travel-fares path h g') (h f f' s g)

pub walk-fares : {l : Level} {f f' : Field} (reader : Reader) (is_service : Bool) (path : List Text)
    → Grown l f f'
    → Fares l (travel (walk_step reader is_service) path f) (travel (walk_step reader is_service) path f')
walk-fares reader b path g = travel-fares path (λ f₁ f₂ s g'. walk-step-fares reader b s g'.is_wider g'.is_distinct) g

pub field-fares : {l : Level} {f f' : Field} (path : List Text)
    → Grown l f f'
    → Fares l (travel field_step path f) (travel field_step path f')
field-fares path g = travel-fares path (λ f₁ f₂ s g'. field-step-fares s g'.is_wider g'.is_distinct) g

items-fare : {l : Level} {i i' : Items} → WiderItems l i i' → DistinctItems i' → Fares l (element_or i) (element_or i')
unfolding element_or
items-fare neither d = still_unknown
items-fare (both w) d = still_known (record { is_wider = w; is_distinct = d })

pub if-fares : {l : Level} {r r' q q' : Reached} (b : Bool) → Fares l r r' → Fares l q q' → Fares l (cond b r q) (cond b r' q')
if-fares true h k = h
if-fares false h k = k

element-field-fares : {l : Level} {f f' : Field} → WiderField l f f' → DistinctField f' → Fares l (element_of_field f) (element_of_field f')
unfolding element_of_field
element-field-fares (wider {kind = k} p wi wm) d = if-fares (eqb k 6 || eqb k 10) (items-fare wi d.0) (still_refused equal)

pub element-fares : {l : Level} {r r' : Reached} → Fares l r r' → Fares l (element_of r) (element_of r')
unfolding element_of
element-fares (still_refused d) = still_refused d
element-fares (now_unknown m) = now_unknown m
element-fares now_known = refused-fares _
element-fares still_unknown = still_unknown
element-fares (still_known g) = element-field-fares g.is_wider g.is_distinct
