-- Opening marks changes no count, no name and no number: what is within the limits stays so.
use Prim.Native.Nat.{ℕ, ◌+◌, ◌≤◌}
use mathlib.Core.Bool.{Bool}
use mathlib.Core.Option.{Option, none, some}
use mathlib.Core.Path.{◌≡◌, refl, ap}
use lib.ListN.{length}
use Rattle.definition.specs.Tree.{Text, Field, field, Items, absent, element, Members, no_members, member, Holder, Schema}
use Rattle.definition.specs.Limits.{max_sheet_bytes}
use Rattle.definition.specs.Write.{has_items, count_of_members, write_schema}
use Rattle.definition.specs.Within.{field_entries, items_entries, members_entries, arguments_entries, schema_entries, field_nesting, items_nesting, members_nesting, arguments_nesting, schema_nesting, FieldRises, ItemsRise, MembersRise, ArgumentsRise, FieldFits, ItemsFit, MembersFit, ArgumentsFit, FieldFrom, ItemsFrom, MembersFrom, ArgumentsFrom, SchemaWithin}
use Rattle.widening.specs.Opening.{opened_field, opened_items, opened_members, opened_holder, opened_arguments, opened}

pub record FieldKept (f g : Field) : Type 0 where
  pub entries : field_entries g ≡ field_entries f
  pub nesting : field_nesting g ≡ field_nesting f
  pub rises : FieldRises f → FieldRises g
  pub fits : FieldFits f → FieldFits g
  pub numbers : (n : ℕ) → FieldFrom n f → FieldFrom n g

pub record ItemsKept (i j : Items) : Type 0 where
  pub mark : has_items j ≡ has_items i
  pub entries : items_entries j ≡ items_entries i
  pub nesting : items_nesting j ≡ items_nesting i
  pub rises : ItemsRise i → ItemsRise j
  pub fits : ItemsFit i → ItemsFit j
  pub numbers : (n : ℕ) → ItemsFrom n i → ItemsFrom n j

pub record MembersKept (m o : Members) : Type 0 where
  pub count : count_of_members o ≡ count_of_members m
  pub entries : members_entries o ≡ members_entries m
  pub nesting : members_nesting o ≡ members_nesting m
  pub rises : (before : Option Text) → MembersRise before m → MembersRise before o
  pub fits : MembersFit m → MembersFit o
  pub numbers : (n : ℕ) → MembersFrom n m → MembersFrom n o

record ArgumentsKept (a b : Option Holder) : Type 0 where
  entries : arguments_entries b ≡ arguments_entries a
  nesting : arguments_nesting b ≡ arguments_nesting a
  rises : ArgumentsRise a → ArgumentsRise b
  fits : ArgumentsFit a → ArgumentsFit b
  numbers : (n : ℕ) → ArgumentsFrom n a → ArgumentsFrom n b

module _ (may : ℕ → Bool) where
  mutual
    unfolding opened_field opened_items opened_members has_items count_of_members field_entries items_entries members_entries field_nesting items_nesting members_nesting

    pub field-kept : (f : Field) → FieldKept f (opened_field may f)
    field-kept (field e kind is_open tag items members) =
        let i = items_kept items in
        let m = members_kept members in
        record {
          entries = rw (i.entries, m.entries);
          nesting = rw (i.nesting, m.nesting);
          rises = λ r. (i.rises r.0, m.rises none r.1);
          fits = λ r. (r.0, r.1, i.fits r.2, m.fits r.3);
          numbers = λ n r. (r.0, i.numbers (n + 1) r.1, rw i.entries (m.numbers (n + 1 + items_entries items) r.2));
        }

    pub items_kept : (i : Items) → ItemsKept i (opened_items may i)
    items_kept absent =
        record { mark = refl; entries = refl; nesting = refl; rises = λ r. tt; fits = λ r. tt; numbers = λ n r. tt }
    items_kept (element f) =
        let k = field-kept f in
        record { mark = refl; entries = k.entries; nesting = k.nesting; rises = k.rises; fits = k.fits; numbers = k.numbers }

    pub members_kept : (m : Members) → MembersKept m (opened_members may m)
    members_kept no_members =
        record { count = refl; entries = refl; nesting = refl; rises = λ before r. tt; fits = λ r. tt; numbers = λ n r. tt }
    members_kept (member name f others) =
        let k = field-kept f in
        let m = members_kept others in
        record {
          count = ap (λ (n : ℕ). n + 1) m.count;
          entries = rw (k.entries, m.entries);
          nesting = rw (k.nesting, m.nesting);
          rises = λ before r. (r.0, k.rises r.1, m.rises (some name) r.2);
          fits = λ r. (r.0, k.fits r.1, m.fits r.2);
          numbers = λ n r. (k.numbers n r.0, rw k.entries (m.numbers (n + field_entries f) r.1));
        }

  arguments-kept : (a : Option Holder) → ArgumentsKept a (opened_arguments may a)
  unfolding opened_arguments opened_holder arguments_entries arguments_nesting
  arguments-kept none = record { entries = refl; nesting = refl; rises = λ r. tt; fits = λ r. tt; numbers = λ n r. tt }
  arguments-kept (some h) =
      let m = members_kept h.members in
      record { entries = m.entries; nesting = m.nesting; rises = m.rises none; fits = m.fits; numbers = m.numbers }

  pub schema-kept : (t : Schema) → length (write_schema (opened may t)) ≤ max_sheet_bytes → SchemaWithin t → SchemaWithin (opened may t)
  unfolding opened opened_holder schema_entries schema_nesting
  schema-kept t bytes w =
      let m = members_kept t.fields.members in
      let a = arguments-kept t.arguments in
      record {
        entries = rw (m.entries, a.entries) w.entries;
        bytes = bytes;
        nesting = rw (m.nesting, a.nesting) w.nesting;
        rises = (m.rises none w.rises.0, a.rises w.rises.1);
        fits = (m.fits w.fits.0, a.fits w.fits.1);
        numbers = (m.numbers 2 w.numbers.0, rw m.entries (a.numbers (2 + members_entries t.fields.members) w.numbers.1));
      }
