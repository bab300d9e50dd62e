-- A schema with marks opened is that of a sheet again, as long as the sheet that it was before.
use Rattle.std.specs.Prelude.{ℕ, Bool, ◌||◌, List, ◌≡◌, length}
use Rattle.std.proofs.Common.{arith}
use Rattle.std.proofs.Math.Option.{Option, none, some}
use Rattle.std.proofs.Math.Path.{refl}
use Rattle.std.proofs.Math.ListN.{length-append}
use Rattle.sheet.specs.Write.{write_mark, write_holder_head, write_arguments_head, write_schema_head, write_field_head}
use Rattle.definition.specs.Tree.{Text, Field, field, Items, absent, element, Members, no_members, member, Holder, Schema}
use Rattle.definition.specs.Decode.{decode_schema}
use Rattle.definition.specs.Write.{has_items, count_of_members, write_field, write_items, write_members, head_of, head_of_arguments, write_arguments, write_schema}
use Rattle.definition.proofs.RoundTrip.{schema-round-trip}
use Rattle.open_marks.proofs.Bytes.{mark-written}
use Rattle.open_marks.proofs.Kept.{items_kept, members_kept, schema-kept}
use Rattle.widening.specs.Opening.{opened_field, opened_items, opened_members, opened_holder, opened_arguments, opened}

mark-length : (b c : Bool) → length (write_mark b) ≡ length (write_mark c)
mark-length b c = rw (mark-written b, mark-written c) refl

field-head-length : (kind : ℕ) (is_open now items : Bool) (count : ℕ) (name : Text) (tag : Option Text)
    → length (write_field_head (record { kind = kind; is_open = now; has_items = items; count = count; name = name; tag = tag }))
    ≡ length (write_field_head (record { kind = kind; is_open = is_open; has_items = items; count = count; name = name; tag = tag }))
unfolding write_field_head
field-head-length kind is_open now items count name tag = simp length-append (omega (arith, mark-length now is_open))

module _ (may : ℕ → Bool) where
  mutual
    unfolding opened_field write_field

    field-length : (name : Text) (f : Field) → length (write_field name (opened_field may f)) ≡ length (write_field name f)
    field-length name (field e kind is_open tag items members) =
        rw ((items_kept may items).mark, (members_kept may members).count)
        (simp length-append
        (omega (arith, field-head-length kind is_open (is_open || may e) (has_items items) (count_of_members members) name tag, items-length items, members-length members)))

    items-length : (i : Items) → length (write_items (opened_items may i)) ≡ length (write_items i)
    items-length absent = refl
    items-length (element f) = field-length _ f

    members-length : (m : Members) → length (write_members (opened_members may m)) ≡ length (write_members m)
    members-length no_members = refl
    members-length (member name f others) = simp length-append (omega (arith, field-length name f, members-length others))

  arguments-length : (a : Option Holder) → length (write_arguments (opened_arguments may a)) ≡ length (write_arguments a)
  unfolding write_arguments opened_arguments opened_holder
  arguments-length none = refl
  arguments-length (some h) = members-length h.members

  holder-head-length : (at : ℕ) (h : Holder) → length (write_holder_head (head_of (opened_holder may at h))) ≡ length (write_holder_head (head_of h))
  unfolding write_holder_head head_of opened_holder
  holder-head-length at h =
      rw (members_kept may h.members).count
      (simp length-append (omega (arith, mark-length (h.is_open || may at) h.is_open)))

  arguments-head-length : (a : Option Holder)
      → length (write_arguments_head (head_of_arguments (opened_arguments may a))) ≡ length (write_arguments_head (head_of_arguments a))
  unfolding write_arguments_head head_of_arguments opened_arguments
  arguments-head-length none = refl
  arguments-head-length (some h) = holder-head-length 0 h

  schema-length : (t : Schema) → length (write_schema (opened may t)) ≡ length (write_schema t)
  unfolding write_schema opened opened_holder write_schema_head
  schema-length t =
      simp length-append
      (omega (arith, holder-head-length 1 t.fields, arguments-head-length t.arguments, members-length t.fields.members, arguments-length t.arguments))

  -- so what is written decodes
  pub opened-decodes : (sheet : List ℕ) (t : Schema) → decode_schema sheet ≡ some t → decode_schema (write_schema (opened may t)) ≡ some (opened may t)
  opened-decodes sheet t decodes =
      let r = (schema-round-trip sheet t).0 decodes in
      (schema-round-trip (write_schema (opened may t)) (opened may t)).1 (refl, schema-kept may t (omega (arith, schema-length t, r.1.bytes)) r.1)
