-- A field is well formed exactly if a schema is that has this field alone.
use Rattle.std.specs.Prelude.{ℕ, ◌+◌, ◌≤◌, Bool, true, false, cond, ◌≡◌, leb}
use native.Mathlib.Omega.{arith}
use mathlib.Core.List.{List, [], ◌++◌, append-nil}
use Rattle.std.proofs.Math.Option.{Option, none, some, some-injective, none-ne-some, some-ne-none}
use Rattle.std.proofs.Math.Path.{refl, sym, ap}
use Rattle.std.proofs.Common.{ap₂, ◌∙◌, length-append}
use Rattle.std.proofs.Math.ListN.{length}
use borrow.Author.Tests.{le-leb, leb-true}
use Rattle.sheet.specs.Entries.{HolderHead, SchemaHead, schema_head, max_count}
use Rattle.text.specs.Ascii.{ascii}
use Rattle.text.specs.Numeral.{decimal_of, decimal_in}
use Rattle.sheet.specs.Write.{write_schema_head, write_holder_head, write_mark, write_item, mark_of, write_arguments_head, write_end}
use Rattle.sheet.proofs.ItemLaws.{anything}
use Rattle.sheet.proofs.HeadLaws.{schema_head-exact}
use Rattle.sheet.proofs.HeadLaws as HeadLaws
use Rattle.definition.specs.Tree.{Text, Field, Members, no_members, member, Holder, Schema}
use Rattle.definition.specs.Decode.{decode_schema}
use Rattle.definition.specs.Write.{count_of_members, write_field, write_members, head_of, head_of_arguments, write_arguments, write_schema}
use Rattle.definition.specs.Limits.{max_sheet_bytes, max_schema_entries, max_field_nesting}
use Rattle.definition.specs.Within.{field_entries, members_entries, arguments_entries, schema_entries, field_nesting, members_nesting, arguments_nesting, schema_nesting, MembersFit, MembersRise, SchemaWithin}
use Rattle.definition.proofs.RisingLaws.{NoneNamed}
use Rattle.definition.proofs.FieldLaws.{members-take, field-law}
use Rattle.definition.proofs.SheetLaws.{whole-sound, whole-complete}
use Rattle.definition.proofs.RoundTrip.{schema-round-trip}
use Rattle.field_changes.specs.FieldText.{decode_field, FieldWithin}
use Rattle.field_changes.proofs.NumberedLaws.{numbered-written, numbered-entries, entries-of-field, nesting-of-field, field-written, rises-of-field, fits-of-field, from_field}
use Rattle.field_changes.proofs.FieldTextLaws.{field-within}
use Rattle.field_changes.specs.Change.{numbered_field, inserted, with_fields, added, is_too_large}
use Rattle.field_changes.proofs.ChangeLaws.{added-decodes}
use Rattle.drafts.specs.Lent.{max_field_bytes, field_lent}

-- the head of a closed record with one field, and of no arguments
unfoldable pub alone_head : SchemaHead
alone_head = record { fields = record { is_open = false; count = 1 }; arguments = none }

unfoldable pub alone_sheet : (text : List ℕ) → List ℕ
alone_sheet text = write_schema_head alone_head ++ text

head-size : (text : List ℕ) → length (alone_sheet text) ≡ 10 + length text
unfolding alone_sheet alone_head write_schema_head ascii write_holder_head write_mark write_item decimal_of decimal_in mark_of write_arguments_head write_end
head-size text = length-append (write_schema_head alone_head) text

arguments-fit : (x : Option Holder) → arguments_entries x ≤ max_count → HeadLaws.ArgumentsFit (head_of_arguments x)
unfolding head_of_arguments head_of arguments_entries
arguments-fit none l = tt
arguments-fit (some x) l = omega (arith, members-take x.members)

no_arguments : (x : Option Holder) → none ≡ head_of_arguments x → write_arguments x ≡ []
unfolding head_of_arguments write_arguments
no_arguments none e = refl
no_arguments (some x) e = absurd (none-ne-some (head_of x) e)

-- one member
pub record Only (m : Members) : Type 0 where
  pub name : Text
  pub f : Field
  pub is : m ≡ member name f no_members

only : (m : Members) → 1 ≡ count_of_members m → Only m
unfolding count_of_members
only no_members c = absurd (omega arith)
only (member n g no_members) c = record { name = n; f = g; is = refl }
only (member n g (member k h others)) c = absurd (omega arith)

module _ (text : List ℕ) (name : Text) (f : Field) where
  field-decodes : text ≡ write_field name f
      → MembersFit (member name f no_members)
      → MembersRise none (member name f no_members)
      → field_nesting f ≤ max_field_nesting
      → field_entries f ≤ 1023
      → length text ≤ max_field_bytes
      → field_lent text ≡ some (name, numbered_field 1 f)
  unfolding field_lent decode_field
  field-decodes same fits rises nesting few short =
      rw (le-leb (length text) max_field_bytes short)
      (whole-complete 1023 (field-law max_field_nesting) (omega arith) text (name, numbered_field 1 f) (
        same ∙ sym (field-written 1 name f),
        rw (entries-of-field 1 f) few,
        omega arith,
        record {
          name = fits.0;
          nesting = rw (nesting-of-field 1 f) nesting;
          rises = rises-of-field 1 f rises.1;
          fits = fits-of-field 1 f fits.1;
          numbers = from_field 1 f;
        },
      ))

-- from the one member of a schema without arguments
lone : (text : List ℕ) (m : Members) (arguments : List ℕ)
    → Only m
    → arguments ≡ []
    → text ≡ write_members m ++ arguments
    → MembersFit m
    → MembersRise none m
    → members_nesting m ≤ max_field_nesting
    → members_entries m ≤ 1023
    → length text ≤ max_field_bytes
    → (x : Text × Field) × (field_lent text ≡ some x)
unfolding write_members members_nesting members_entries
lone text m arguments o nothing behind fits rises nesting few short =
    let same : text ≡ write_members (member o.name o.f no_members) ++ [] = behind ∙ ap₂ (λ (m : Members) (l : List ℕ). write_members m ++ l) o.is nothing in
    let deep = rw o.is at nesting in
    let entries = rw o.is at few in (
      (o.name, numbered_field 1 o.f),
      field-decodes text o.name o.f (same ∙ one_written o.name o.f) (rw o.is at fits) (rw o.is at rises) (one-nesting o.name o.f deep)
          (one-entries o.name o.f entries) short,
    )
  where
    one_written : (name : Text) (f : Field) → write_members (member name f no_members) ++ [] ≡ write_field name f
    one_written name f = append-nil _ ∙ append-nil _

    one-nesting : (name : Text) (f : Field) → members_nesting (member name f no_members) ≤ max_field_nesting → field_nesting f ≤ max_field_nesting
    one-nesting name f h = omega arith

    one-entries : (name : Text) (f : Field) → members_entries (member name f no_members) ≤ 1023 → field_entries f ≤ 1023
    one-entries name f h = omega arith

module _ (text : List ℕ) (t : Schema) (written : alone_sheet text ≡ write_schema t) (w : SchemaWithin t) where
  -- the head is read back from both writings
  heads : ◌≡◌ {A = Option (SchemaHead × List ℕ)} (some (alone_head, text))
      (some (record { fields = head_of t.fields; arguments = head_of_arguments t.arguments }, write_members t.fields.members ++ write_arguments t.arguments))
  unfolding alone_sheet alone_head write_schema head_of anything schema_entries
  heads =
      let k = members-take t.fields.members in
      let few = w.entries in
      sym (schema_head-exact.complete alone_head text (omega arith, tt) refl)
      ∙ ap schema_head written
      ∙ schema_head-exact.complete (record { fields = head_of t.fields; arguments = head_of_arguments t.arguments })
      (write_members t.fields.members ++ write_arguments t.arguments) (omega arith, arguments-fit t.arguments (omega arith)) refl

  same-heads : ◌≡◌ {A = SchemaHead × List ℕ} (alone_head, text)
      (record { fields = head_of t.fields; arguments = head_of_arguments t.arguments }, write_members t.fields.members ++ write_arguments t.arguments)
  same-heads = some-injective _ _ heads

  alone-good : (x : Text × Field) × (field_lent text ≡ some x)
  unfolding alone_head head_of schema_nesting schema_entries
  alone-good =
      let one : 1 ≡ count_of_members t.fields.members = ap (λ (x : SchemaHead × List ℕ). x.0.fields.count) same-heads in
      let nothing = no_arguments t.arguments (ap (λ (x : SchemaHead × List ℕ). x.0.arguments) same-heads) in
      let behind : text ≡ write_members t.fields.members ++ write_arguments t.arguments = ap (λ (x : SchemaHead × List ℕ). x.1) same-heads in
      lone text t.fields.members (write_arguments t.arguments) (only t.fields.members one) nothing behind w.fits.0 w.rises.0 (omega (arith, w.nesting)) (omega (arith, w.entries))
      (omega (arith, head-size text, ap length written, w.bytes))

pub field-good : (text : List ℕ) (t : Schema) → decode_schema (alone_sheet text) ≡ some t → (x : Text × Field) × (field_lent text ≡ some x)
field-good text t d = let (written, w) = (schema-round-trip (alone_sheet text) t).0 d in alone-good text t written w

-- the schema that has no field
unfoldable bare : Schema
bare = record { fields = record { is_open = false; members = no_members }; arguments = none }

bare-within : SchemaWithin bare
unfolding bare schema_entries members_entries arguments_entries schema_nesting members_nesting arguments_nesting write_schema head_of head_of_arguments count_of_members write_members write_arguments write_schema_head ascii write_holder_head write_mark write_item decimal_of decimal_in mark_of write_arguments_head write_end
bare-within = record { entries = omega arith; bytes = omega arith; nesting = omega arith; rises = (tt, tt); fits = (tt, tt); numbers = (tt, tt) }

module _ (text : List ℕ) (name : Text) (f : Field) (same : text ≡ write_field name f) where
  alone-written : write_schema (added name f bare) ≡ alone_sheet text
  unfolding added bare with_fields inserted write_schema alone_sheet alone_head head_of head_of_arguments count_of_members write_members write_arguments
  alone-written = numbered-written _ ∙ rw (sym same, append-nil, append-nil) refl

  alone-decodes : FieldWithin name f → field_entries f ≤ 1023 → length text ≤ max_field_bytes → decode_schema (alone_sheet text) ≡ some (added name f bare)
  unfolding is_too_large added bare with_fields inserted schema_entries members_entries arguments_entries
  alone-decodes w few short =
      let size : length (write_schema (added name f bare)) ≤ max_sheet_bytes = omega (arith, ap length alone-written, head-size text) in
      let entries : schema_entries (added name f bare) ≤ max_schema_entries = alone-entries in
      ap decode_schema (sym alone-written) ∙ added-decodes name f bare bare-within w bare-none (rw (le-leb _ _ entries, le-leb _ _ size))
    where
      alone-entries : schema_entries (added name f bare) ≤ max_schema_entries
      alone-entries = rw (numbered-entries (with_fields bare (inserted name f no_members))) (omega arith)

      bare-none : NoneNamed name bare.fields.members
      bare-none = tt

field-few : (text : List ℕ) (name : Text) (f : Field) → decode_field text ≡ some (name, f) → field_entries f ≤ 1023
unfolding decode_field
field-few text name f e = (whole-sound 1023 (field-law max_field_nesting) text (name, f) e).1

pub field-bad : (text : List ℕ) → decode_schema (alone_sheet text) ≡ none → field_lent text ≡ none
unfolding field_lent
field-bad text d = go (decode_field text) refl (leb (length text) max_field_bytes) refl
  where
    go : (o : Option (Text × Field)) → decode_field text ≡ o → (b : Bool) → leb (length text) max_field_bytes ≡ b → cond b o none ≡ none
    go o e false short = refl
    go none e true short = refl
    go (some (name, f)) e true short =
        let (same, w) = field-within text name f e in
        absurd (none-ne-some _ (sym d ∙ alone-decodes text name f same w (field-few text name f e) (leb-true _ _ short)))
