-- A tree with other entry numbers: it is written as before, is within the same limits, and has the numbers of its entries.
use Rattle.std.specs.Prelude.{ℕ, ◌+◌, ◌≤◌, Bool, [], ◌≡◌, refl, length}
use Rattle.std.proofs.Math.Option.{Option, none, some}
use Rattle.definition.specs.Tree.{Text, Field, field, Items, absent, element, Members, no_members, member, Holder, Schema}
use Rattle.definition.specs.Write.{has_items, count_of_members, write_field, write_items, write_members, head_of, head_of_arguments, write_arguments, write_schema}
use Rattle.definition.specs.Within.{field_entries, items_entries, members_entries, arguments_entries, schema_entries, field_nesting, items_nesting, members_nesting, arguments_nesting, schema_nesting, FieldRises, ItemsRise, MembersRise, ArgumentsRise, SchemaRises, FieldFits, ItemsFit, MembersFit, ArgumentsFit, FieldFrom, ItemsFrom, MembersFrom, ArgumentsFrom, SchemaWithin}
use Rattle.definition.specs.Limits.{max_sheet_bytes, max_schema_entries, max_field_nesting}
use Rattle.widening.specs.Widening.{Level, kept, WiderField, wider, WiderItems, neither, both, WiderMembers, end, keep, WiderHolder, WiderArguments, without, stay, WiderSchema}
use Rattle.field_changes.specs.Change.{numbered_field, numbered_items, numbered_members, numbered_holder, numbered_arguments, numbered}

-- How many entries, and how deep.
mutual
  unfolding numbered_field field_entries

  pub entries-of-field : (n : ℕ) (f : Field) → field_entries (numbered_field n f) ≡ field_entries f
  entries-of-field n (field e kind o tag i m) = rw (entries-of-items (n + 1) i, entries-of-members (n + 1 + items_entries i) m)

  pub entries-of-items : (n : ℕ) (i : Items) → items_entries (numbered_items n i) ≡ items_entries i
  entries-of-items n absent = refl
  entries-of-items n (element f) = entries-of-field n f

  pub entries-of-members : (n : ℕ) (m : Members) → members_entries (numbered_members n m) ≡ members_entries m
  entries-of-members n no_members = refl
  entries-of-members n (member name f m) = rw (entries-of-field n f, entries-of-members (n + field_entries f) m)

mutual
  unfolding numbered_field field_nesting

  pub nesting-of-field : (n : ℕ) (f : Field) → field_nesting (numbered_field n f) ≡ field_nesting f
  nesting-of-field n (field e kind o tag i m) = rw (nesting-of-items (n + 1) i, nesting-of-members (n + 1 + items_entries i) m)

  nesting-of-items : (n : ℕ) (i : Items) → items_nesting (numbered_items n i) ≡ items_nesting i
  nesting-of-items n absent = refl
  nesting-of-items n (element f) = nesting-of-field n f

  nesting-of-members : (n : ℕ) (m : Members) → members_nesting (numbered_members n m) ≡ members_nesting m
  nesting-of-members n no_members = refl
  nesting-of-members n (member name f m) = rw (nesting-of-field n f, nesting-of-members (n + field_entries f) m)

-- How it is written.
items_kept : (n : ℕ) (i : Items) → has_items (numbered_items n i) ≡ has_items i
unfolding has_items numbered_items
items_kept n absent = refl
items_kept n (element f) = refl

count_kept : (n : ℕ) (m : Members) → count_of_members (numbered_members n m) ≡ count_of_members m
unfolding count_of_members numbered_members
count_kept n no_members = refl
count_kept n (member name f m) = rw (count_kept (n + field_entries f) m)

mutual
  unfolding numbered_field write_field

  pub field-written : (n : ℕ) (name : Text) (f : Field) → write_field name (numbered_field n f) ≡ write_field name f
  field-written n name (field e kind o tag i m) =
      rw (items_kept (n + 1) i, count_kept (n + 1 + items_entries i) m, items-written (n + 1) i, members-written (n + 1 + items_entries i) m)

  items-written : (n : ℕ) (i : Items) → write_items (numbered_items n i) ≡ write_items i
  items-written n absent = refl
  items-written n (element f) = field-written n [] f

  members-written : (n : ℕ) (m : Members) → write_members (numbered_members n m) ≡ write_members m
  members-written n no_members = refl
  members-written n (member name f m) = rw (field-written n name f, members-written (n + field_entries f) m)

head-kept : (n : ℕ) (h : Holder) → head_of (numbered_holder n h) ≡ head_of h
unfolding head_of numbered_holder
head-kept n h = rw (count_kept n h.members)

arguments-head : (n : ℕ) (o : Option Holder) → head_of_arguments (numbered_arguments n o) ≡ head_of_arguments o
unfolding head_of_arguments numbered_arguments
arguments-head n none = refl
arguments-head n (some h) = rw (head-kept n h)

arguments-written : (n : ℕ) (o : Option Holder) → write_arguments (numbered_arguments n o) ≡ write_arguments o
unfolding write_arguments numbered_arguments numbered_holder
arguments-written n none = refl
arguments-written n (some h) = members-written n h.members

pub numbered-written : (t : Schema) → write_schema (numbered t) ≡ write_schema t
unfolding write_schema numbered numbered_holder
numbered-written t =
    let n = 2 + members_entries t.fields.members in
    rw (head-kept 2 t.fields, arguments-head n t.arguments, members-written 2 t.fields.members, arguments-written n t.arguments)

-- What its entries may hold, and the order of its names.
mutual
  unfolding numbered_field

  pub rises-of-field : (n : ℕ) (f : Field) → FieldRises f → FieldRises (numbered_field n f)
  rises-of-field n (field e kind o tag i m) r = (rises-of-items (n + 1) i r.0, rises-of-members none (n + 1 + items_entries i) m r.1)

  rises-of-items : (n : ℕ) (i : Items) → ItemsRise i → ItemsRise (numbered_items n i)
  rises-of-items n absent r = tt
  rises-of-items n (element f) r = rises-of-field n f r

  rises-of-members : (before : Option Text) (n : ℕ) (m : Members) → MembersRise before m → MembersRise before (numbered_members n m)
  rises-of-members before n no_members r = tt
  rises-of-members before n (member name f m) r =
      (r.0, rises-of-field n f r.1, rises-of-members (some name) (n + field_entries f) m r.2)

mutual
  unfolding numbered_field

  pub fits-of-field : (n : ℕ) (f : Field) → FieldFits f → FieldFits (numbered_field n f)
  fits-of-field n (field e kind o tag i m) r =
      (r.0, r.1, fits-of-items (n + 1) i r.2, fits-of-members (n + 1 + items_entries i) m r.3)

  fits-of-items : (n : ℕ) (i : Items) → ItemsFit i → ItemsFit (numbered_items n i)
  fits-of-items n absent r = tt
  fits-of-items n (element f) r = fits-of-field n f r

  fits-of-members : (n : ℕ) (m : Members) → MembersFit m → MembersFit (numbered_members n m)
  fits-of-members n no_members r = tt
  fits-of-members n (member name f m) r = (r.0, fits-of-field n f r.1, fits-of-members (n + field_entries f) m r.2)

-- Its numbers.
mutual
  unfolding numbered_field

  pub from_field : (n : ℕ) (f : Field) → FieldFrom n (numbered_field n f)
  from_field n (field e kind o tag i m) =
      (refl, from-items (n + 1) i, rw (entries-of-items (n + 1) i) (from-members (n + 1 + items_entries i) m))

  from-items : (n : ℕ) (i : Items) → ItemsFrom n (numbered_items n i)
  from-items n absent = tt
  from-items n (element f) = from_field n f

  from-members : (n : ℕ) (m : Members) → MembersFrom n (numbered_members n m)
  from-members n no_members = tt
  from-members n (member name f m) = (from_field n f, rw (entries-of-field n f) (from-members (n + field_entries f) m))

-- It differs in numbers alone.
mutual
  unfolding numbered_field

  wider-field : {l : Level} (n : ℕ) (f : Field) → WiderField l f (numbered_field n f)
  wider-field n (field e kind o tag i m) = wider kept (wider-items (n + 1) i) (wider-members (n + 1 + items_entries i) m)

  wider-items : {l : Level} (n : ℕ) (i : Items) → WiderItems l i (numbered_items n i)
  wider-items n absent = neither
  wider-items n (element f) = both (wider-field n f)

  wider-members : {l : Level} {o : Bool} (n : ℕ) (m : Members) → WiderMembers l o m (numbered_members n m)
  wider-members n no_members = end
  wider-members n (member name f m) = keep (wider-field n f) (wider-members (n + field_entries f) m)

wider-holder : {l : Level} (at n : ℕ) (h : Holder) → WiderHolder l at h (numbered_holder n h)
unfolding numbered_holder
wider-holder at n h = record { mark = kept; members = wider-members n h.members }

wider-arguments : {l : Level} (n : ℕ) (o : Option Holder) → WiderArguments l o (numbered_arguments n o)
unfolding numbered_arguments
wider-arguments n none = without
wider-arguments n (some h) = stay (wider-holder 0 n h)

pub numbered-wider : {l : Level} (t : Schema) → WiderSchema l t (numbered t)
unfolding numbered
numbered-wider t =
    record { fields = wider-holder 1 2 t.fields; arguments = wider-arguments (2 + members_entries t.fields.members) t.arguments }

-- The whole schema.
entries-of-arguments : (n : ℕ) (o : Option Holder) → arguments_entries (numbered_arguments n o) ≡ arguments_entries o
unfolding arguments_entries numbered_arguments numbered_holder
entries-of-arguments n none = refl
entries-of-arguments n (some h) = entries-of-members n h.members

nesting-of-arguments : (n : ℕ) (o : Option Holder) → arguments_nesting (numbered_arguments n o) ≡ arguments_nesting o
unfolding arguments_nesting numbered_arguments numbered_holder
nesting-of-arguments n none = refl
nesting-of-arguments n (some h) = nesting-of-members n h.members

rises-of-arguments : (n : ℕ) (o : Option Holder) → ArgumentsRise o → ArgumentsRise (numbered_arguments n o)
unfolding numbered_arguments numbered_holder
rises-of-arguments n none r = tt
rises-of-arguments n (some h) r = rises-of-members none n h.members r

fits-of-arguments : (n : ℕ) (o : Option Holder) → ArgumentsFit o → ArgumentsFit (numbered_arguments n o)
unfolding numbered_arguments numbered_holder
fits-of-arguments n none r = tt
fits-of-arguments n (some h) r = fits-of-members n h.members r

from-arguments : (n : ℕ) (o : Option Holder) → ArgumentsFrom n (numbered_arguments n o)
unfolding numbered_arguments numbered_holder
from-arguments n none = tt
from-arguments n (some h) = from-members n h.members

pub numbered-entries : (t : Schema) → schema_entries (numbered t) ≡ schema_entries t
unfolding schema_entries numbered numbered_holder
numbered-entries t = rw (entries-of-members 2 t.fields.members, entries-of-arguments (2 + members_entries t.fields.members) t.arguments)

-- within the limits but for the numbers, it is so with them
pub numbered_within : (t : Schema)
    → schema_entries t ≤ max_schema_entries
    → length (write_schema t) ≤ max_sheet_bytes
    → schema_nesting t ≤ max_field_nesting
    → SchemaRises t
    → MembersFit t.fields.members × ArgumentsFit t.arguments
    → SchemaWithin (numbered t)
unfolding numbered numbered_holder schema_nesting
numbered_within t entries bytes nesting rises fits =
    let n = 2 + members_entries t.fields.members in
    record {
      entries = rw (numbered-entries t) entries;
      bytes = rw (numbered-written t) bytes;
      nesting = rw (nesting-of-members 2 t.fields.members, nesting-of-arguments n t.arguments) nesting;
      rises = (rises-of-members none 2 t.fields.members rises.0, rises-of-arguments n t.arguments rises.1);
      fits = (fits-of-members 2 t.fields.members fits.0, fits-of-arguments n t.arguments fits.1);
      numbers = (from-members 2 t.fields.members, rw (entries-of-members 2 t.fields.members) (from-arguments n t.arguments));
    }
