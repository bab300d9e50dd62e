-- What opening marks does to a schema: the more marks, the wider; names stay distinct; only marks that are closed count, and these are those of
-- entries.
use Rattle.std.specs.Prelude.{ℕ, ◌+◌, ◌≤◌, ◌<◌, Bool, true, false, cond, ◌&&◌, ◌||◌, List, [], ◌∷◌, ◌≡◌}
use Rattle.std.proofs.Common.{arith, eqb-true, eq-eqb}
use Rattle.std.proofs.Math.Bool.{not, or-false, or_comm}
use Rattle.std.proofs.lemmas.Bool.{false≢true}
use Rattle.std.proofs.Math.Option.{Option, none, some}
use Rattle.std.proofs.Math.Path.{refl}
use Rattle.std.proofs.Math.Dec.{eqb}
use Rattle.text.specs.Order.{same_bytes}
use Rattle.definition.specs.Tree.{Text, Field, field, Items, absent, element, Members, no_members, member, Holder, Schema}
use Rattle.definition.specs.Limits.{max_schema_entries}
use Rattle.definition.specs.Within.{field_entries, items_entries, members_entries, arguments_entries, schema_entries, FieldFrom, ItemsFrom, MembersFrom, ArgumentsFrom}
use Rattle.definition.specs.Decode.{decode_schema}
use Rattle.definition.proofs.RoundTrip.{schema-round-trip}
use Rattle.reference.specs.Walk.{lookup}
use Rattle.widening.specs.Widening.{only, listed, Opened, kept, opened as opened_now, WiderField, wider, WiderItems, neither, both, WiderMembers, end, keep, WiderHolder, WiderArguments, without, stay, WiderSchema}
use Rattle.widening.specs.Distinct.{DistinctField, DistinctItems, DistinctMembers, DistinctArguments, DistinctSchema}
use Rattle.widening.specs.Opening.{is_in, opened_field, opened_items, opened_members, opened_holder, opened_arguments, opened, closed_in_field, closed_in_items, closed_in_members, closed_in_holder, closed_in_arguments, is_closed}

-- every mark of the first set is one of the second
abbrev pub Among : (less may : ℕ → Bool) → Type 0
Among less may = (e : ℕ) → less e ≡ true → may e ≡ true

-- those of the second set that are not in the first
unfoldable pub beyond : (less may : ℕ → Bool) → ℕ → Bool
beyond less may e = may e && not (less e)

mark-opens : (l : ℕ → Bool) (e : ℕ) (o less more : Bool)
    → (less ≡ true → more ≡ true)
    → l e ≡ (more && not less)
    → Opened (only l) e (o || less) (o || more)
mark-opens l e true less more h m = kept
mark-opens l e false true more h m = rw (h refl) kept
mark-opens l e false false true h m = opened_now (listed m)
mark-opens l e false false false h m = kept

module _ (less may : ℕ → Bool) (w : Among less may) where
  mark-wider : (e : ℕ) (o : Bool) → Opened (only (beyond less may)) e (o || less e) (o || may e)
  unfolding beyond
  mark-wider e o = mark-opens (beyond less may) e o (less e) (may e) (w e) refl

  mutual
    unfolding opened_field

    field-wider : (f : Field) → WiderField (only (beyond less may)) (opened_field less f) (opened_field may f)
    field-wider (field e kind o tag items members) =
        wider (mark-wider e o) (items-wider items) (members-wider (o || less e) members)

    items-wider : (i : Items) → WiderItems (only (beyond less may)) (opened_items less i) (opened_items may i)
    items-wider absent = neither
    items-wider (element f) = both (field-wider f)

    members-wider : (o : Bool) (m : Members) → WiderMembers (only (beyond less may)) o (opened_members less m) (opened_members may m)
    members-wider o no_members = end
    members-wider o (member name f others) = keep (field-wider f) (members-wider o others)

  holder-wider : (at : ℕ) (h : Holder) → WiderHolder (only (beyond less may)) at (opened_holder less at h) (opened_holder may at h)
  unfolding opened_holder
  holder-wider at h =
      record { mark = mark-wider at h.is_open; members = members-wider (h.is_open || less at) h.members }

  arguments-wider : (x : Option Holder) → WiderArguments (only (beyond less may)) (opened_arguments less x) (opened_arguments may x)
  unfolding opened_arguments
  arguments-wider none = without
  arguments-wider (some h) = stay (holder-wider 0 h)

  -- with more marks open a schema is wider, by those marks and no more
  pub opened-widens : (t : Schema) → WiderSchema (only (beyond less may)) (opened less t) (opened may t)
  unfolding opened
  opened-widens t = record { fields = holder-wider 1 t.fields; arguments = arguments-wider t.arguments }

lacks-still : (b : Bool) (f f' : Field) (x x' : Option Field)
    → cond b (some f) x ≡ none
    → (x ≡ none → x' ≡ none)
    → cond b (some f') x' ≡ none
lacks-still true f f' x x' e h = cc
lacks-still false f f' x x' e h = h e

module _ (may : ℕ → Bool) where
  lookup-still : (s : Text) (m : Members) → lookup s m ≡ none → lookup s (opened_members may m) ≡ none
  unfolding lookup opened_members
  lookup-still s no_members e = e
  lookup-still s (member name f others) e =
      lacks-still (same_bytes name s) f (opened_field may f) (lookup s others) (lookup s (opened_members may others)) e
      (λ h. lookup-still s others h)

  mutual
    unfolding opened_field

    field-distinct : (f : Field) → DistinctField f → DistinctField (opened_field may f)
    field-distinct (field e kind o tag items members) d = (items-distinct items d.0, members-distinct members d.1)

    items-distinct : (i : Items) → DistinctItems i → DistinctItems (opened_items may i)
    items-distinct absent d = tt
    items-distinct (element f) d = field-distinct f d

    members-distinct : (m : Members) → DistinctMembers m → DistinctMembers (opened_members may m)
    members-distinct no_members d = tt
    members-distinct (member name f others) d =
        (lookup-still name others d.0, field-distinct f d.1, members-distinct others d.2)

  arguments-distinct : (x : Option Holder) → DistinctArguments x → DistinctArguments (opened_arguments may x)
  unfolding opened_arguments opened_holder
  arguments-distinct none d = tt
  arguments-distinct (some h) d = members-distinct h.members d

  -- names are as they were
  pub opened-distinct : (t : Schema) → DistinctSchema t → DistinctSchema (opened may t)
  unfolding opened opened_holder
  opened-distinct t d =
      record {
        fields = members-distinct t.fields.members d.fields;
        arguments = arguments-distinct t.arguments d.arguments;
      }

-- No mark more.

mutual
  unfolding opened_field is_in

  field-none : (f : Field) → opened_field (is_in []) f ≡ f
  field-none (field e kind o tag items members) = λ i. field e kind (or-false o i) tag (items-none items i) (members-none members i)

  items-none : (x : Items) → opened_items (is_in []) x ≡ x
  items-none absent = refl
  items-none (element f) = λ i. element (field-none f i)

  members-none : (m : Members) → opened_members (is_in []) m ≡ m
  members-none no_members = refl
  members-none (member name f others) = λ i. member name (field-none f i) (members-none others i)

holder-none : (at : ℕ) (h : Holder) → opened_holder (is_in []) at h ≡ h
unfolding opened_holder is_in
holder-none at h = λ i. record { is_open = or-false h.is_open i; members = members-none h.members i }

arguments-none : (x : Option Holder) → opened_arguments (is_in []) x ≡ x
unfolding opened_arguments
arguments-none none = refl
arguments-none (some h) = λ i. some (holder-none 0 h i)

pub opened-none : (t : Schema) → opened (is_in []) t ≡ t
unfolding opened
opened-none t = λ i. record { fields = holder-none 1 t.fields i; arguments = arguments-none t.arguments i }

-- One set of marks, then another.

or-again : (o less more : Bool) → ((o || less) || more) ≡ (o || (more || less))
or-again true less more = refl
or-again false less more = or_comm less more

module _ (less more : ℕ → Bool) where
  abbrev either : ℕ → Bool
  either e = more e || less e

  mutual
    unfolding opened_field

    field-again : (f : Field) → opened_field more (opened_field less f) ≡ opened_field either f
    field-again (field e kind o tag items members) =
        λ i. field e kind (or-again o (less e) (more e) i) tag (items-again items i) (members-again members i)

    items-again : (x : Items) → opened_items more (opened_items less x) ≡ opened_items either x
    items-again absent = refl
    items-again (element f) = λ i. element (field-again f i)

    members-again : (m : Members) → opened_members more (opened_members less m) ≡ opened_members either m
    members-again no_members = refl
    members-again (member name f others) = λ i. member name (field-again f i) (members-again others i)

  holder-again : (at : ℕ) (h : Holder) → opened_holder more at (opened_holder less at h) ≡ opened_holder either at h
  unfolding opened_holder
  holder-again at h =
      λ i. record { is_open = or-again h.is_open (less at) (more at) i; members = members-again h.members i }

  arguments-again : (x : Option Holder) → opened_arguments more (opened_arguments less x) ≡ opened_arguments either x
  unfolding opened_arguments
  arguments-again none = refl
  arguments-again (some h) = λ i. some (holder-again 0 h i)

  opened-again : (t : Schema) → opened more (opened less t) ≡ opened either t
  unfolding opened
  opened-again t = λ i. record { fields = holder-again 1 t.fields i; arguments = arguments-again t.arguments i }

-- one mark after others, or all at once
pub opened-once : (e : ℕ) (marks : List ℕ) (t : Schema) → opened (eqb e) (opened (is_in marks) t) ≡ opened (is_in (e ∷ marks)) t
unfolding is_in
opened-once e marks t = opened-again (is_in marks) (eqb e) t

-- Marks that are open already, and entries that are not there, do not count.

or-agrees : (o x y : Bool) → (not o ≡ true → x ≡ y) → (o || x) ≡ (o || y)
or-agrees true x y h = refl
or-agrees false x y h = h refl

and_same : (b : Bool) (e : ℕ) → b ≡ true → (b && eqb e e) ≡ true
and_same b e h = rw h (eq-eqb e e refl)

or-first : (x y : Bool) → x ≡ true → (x || y) ≡ true
or-first x y h = rw h refl

or-second : (x y : Bool) → y ≡ true → (x || y) ≡ true
or-second true y h = refl
or-second false y h = h

module _ (p q : ℕ → Bool) where
  -- the two sets have the same of these marks
  abbrev AgreeOn : (ℕ → Bool) → Type 0
  AgreeOn c = (e : ℕ) → c e ≡ true → p e ≡ q e

  agree-first : (x y : ℕ → Bool) → AgreeOn (λ e. x e || y e) → AgreeOn x
  agree-first x y h e c = h e (or-first (x e) (y e) c)

  agree-second : (x y : ℕ → Bool) → AgreeOn (λ e. x e || y e) → AgreeOn y
  agree-second x y h e c = h e (or-second (x e) (y e) c)

  mutual
    unfolding opened_field closed_in_field

    field-agree : (f : Field) → AgreeOn (closed_in_field f) → opened_field p f ≡ opened_field q f
    field-agree (field n kind o tag items members) h =
        let below : AgreeOn (λ e. closed_in_items items e || closed_in_members members e) = agree-second (λ e. not o && eqb n e) _ h in λ i.
        field n kind
        (or-agrees o (p n) (q n) (λ c. h n (or-first (not o && eqb n n) _ (and_same (not o) n c))) i)
        tag
        (items-agree items (agree-first (closed_in_items items) (closed_in_members members) below) i)
        (members-agree members (agree-second (closed_in_items items) (closed_in_members members) below) i)

    items-agree : (x : Items) → AgreeOn (closed_in_items x) → opened_items p x ≡ opened_items q x
    items-agree absent h = refl
    items-agree (element f) h = λ i. element (field-agree f h i)

    members-agree : (m : Members) → AgreeOn (closed_in_members m) → opened_members p m ≡ opened_members q m
    members-agree no_members h = refl
    members-agree (member name f others) h =
        λ i. member name
        (field-agree f (agree-first (closed_in_field f) (closed_in_members others) h) i)
        (members-agree others (agree-second (closed_in_field f) (closed_in_members others) h) i)

  holder-agree : (at : ℕ) (h : Holder) → AgreeOn (closed_in_holder at h) → opened_holder p at h ≡ opened_holder q at h
  unfolding opened_holder closed_in_holder
  holder-agree at x h = λ i.
      record {
        is_open = or-agrees x.is_open (p at) (q at) (λ c. h at (or-first (not x.is_open && eqb at at) _ (and_same (not x.is_open) at c))) i;
        members = members-agree x.members (agree-second (λ e. not x.is_open && eqb at e) (closed_in_members x.members) h) i;
      }

  arguments-agree : (x : Option Holder) → AgreeOn (closed_in_arguments x) → opened_arguments p x ≡ opened_arguments q x
  unfolding opened_arguments closed_in_arguments
  arguments-agree none h = refl
  arguments-agree (some x) h = λ i. some (holder-agree 0 x h i)

  pub opened-agree : (t : Schema) → ((e : ℕ) → is_closed t e ≡ true → p e ≡ q e) → opened p t ≡ opened q t
  unfolding opened is_closed
  opened-agree t h = λ i.
      record {
        fields = holder-agree 1 t.fields (agree-first (closed_in_holder 1 t.fields) (closed_in_arguments t.arguments) h) i;
        arguments = arguments-agree t.arguments (agree-second (closed_in_holder 1 t.fields) (closed_in_arguments t.arguments) h) i;
      }

-- The closed marks of a schema sheet are those of its entries.

or_cases : {A : Type 0} (x y : Bool) → (x || y) ≡ true → (x ≡ true → A) → (y ≡ true → A) → A
or_cases true y e f g = f refl
or_cases false y e f g = g e

and-equal : (b : Bool) (n e : ℕ) → (b && eqb n e) ≡ true → n ≡ e
and-equal true n e h = eqb-true n e h
and-equal false n e h = absurd (false≢true h)

mutual
  unfolding closed_in_field field_entries

  field_below : (n : ℕ) (f : Field) (e : ℕ) → FieldFrom n f → closed_in_field f e ≡ true → e < n + field_entries f
  field_below n (field m kind o tag items members) e from c =
      or_cases (not o && eqb m e) _ c (λ c. let h = and-equal (not o) m e c in omega (arith, from.0))
      (λ c. or_cases (closed_in_items items e) _ c (λ c. let h = items-below (n + 1) items e from.1 c in omega arith)
      (λ c. let h = members-below (n + 1 + items_entries items) members e from.2 c in omega arith))

  items-below : (n : ℕ) (x : Items) (e : ℕ) → ItemsFrom n x → closed_in_items x e ≡ true → e < n + items_entries x
  items-below n absent e from c = absurd (false≢true c)
  items-below n (element f) e from c = field_below n f e from c

  members-below : (n : ℕ) (m : Members) (e : ℕ) → MembersFrom n m → closed_in_members m e ≡ true → e < n + members_entries m
  members-below n no_members e from c = absurd (false≢true c)
  members-below n (member name f others) e from c =
      or_cases (closed_in_field f e) _ c (λ c. let h = field_below n f e from.0 c in omega arith)
      (λ c. let h = members-below (n + field_entries f) others e from.1 c in omega arith)

holder-below : (n at : ℕ) (x : Holder) (e : ℕ)
    → at < n
    → MembersFrom n x.members
    → closed_in_holder at x e ≡ true
    → e < n + members_entries x.members
unfolding closed_in_holder
holder-below n at x e less from c =
    or_cases (not x.is_open && eqb at e) _ c (λ c. let h = and-equal (not x.is_open) at e c in omega arith)
    (λ c. members-below n x.members e from c)

arguments-below : (n : ℕ) (x : Option Holder) (e : ℕ)
    → 0 < n
    → ArgumentsFrom n x
    → closed_in_arguments x e ≡ true
    → e < n + arguments_entries x
unfolding closed_in_arguments arguments_entries
arguments-below n none e less from c = absurd (false≢true c)
arguments-below n (some x) e less from c = holder-below n 0 x e less from c

pub closed-entry : (sheet : List ℕ) (t : Schema) (e : ℕ) → decode_schema sheet ≡ some t → is_closed t e ≡ true → e ≤ max_schema_entries
unfolding is_closed schema_entries
closed-entry sheet t e decodes c =
    let w = ((schema-round-trip sheet t).0 decodes).1 in
    or_cases (closed_in_holder 1 t.fields e) _ c
    (λ c. let h = holder-below 2 1 t.fields e (omega arith) w.numbers.0 c in omega (arith, w.entries))
    (λ c. let h = arguments-below (2 + members_entries t.fields.members) t.arguments e (omega arith) w.numbers.1 c in omega (arith, w.entries))
