-- Fields that come and go, from raw sheets, by computation.
use Prim.Native.Nat.{ℕ, zero, suc}
use mathlib.Core.Bool.{Bool, true, false}
use mathlib.Core.List.{List, [], replicate}
use mathlib.Core.Option.{Option, none, some, map}
use mathlib.Core.Path.{◌≡◌, refl}
use Rattle.text.specs.Ascii.{ascii}
use Rattle.sheet.specs.Write as SheetWrite
use Rattle.definition.specs.Tree.{Text, Field, field, absent, Members, no_members, member, Schema}
use Rattle.definition.specs.Write as Write
use Rattle.definition.specs.Within as Within
use Rattle.definition.specs.Decode.{decode_schema, decode_rule}
use Rattle.validation.specs.Computing.{computing}
use Rattle.field_changes.specs.Mention as Mention
use Rattle.field_changes.specs.Change as Change
use Rattle.field_changes.specs.FieldText as FieldText

unfoldable added_to : Option (Text × Field) → Option Schema → Option (List ℕ)
added_to none t = none
added_to (some f) none = none
added_to (some f) (some t) = some (Write.write_schema (Change.added f.0 f.1 t))

unfoldable removed_from : Text → Option Schema → Option (List ℕ)
removed_from name none = none
removed_from name (some t) = some (Write.write_schema (Change.removed name t))

unfoldable pub adds : (text schema : List ℕ) → Option (List ℕ)
unfolding computing added_to removed_from SheetWrite.write_holder_head SheetWrite.write_mark SheetWrite.write_item SheetWrite.mark_of SheetWrite.write_arguments_head SheetWrite.write_end SheetWrite.write_length SheetWrite.write_text SheetWrite.write_schema_head SheetWrite.write_field_head Write.has_items Write.count_of_members Write.write_field Write.write_items Write.write_members Write.head_of Write.head_of_arguments Write.write_arguments Write.write_schema Within.field_entries Within.items_entries Within.members_entries Within.arguments_entries Within.schema_entries Change.numbered_field Change.numbered_items Change.numbered_members Change.numbered_holder Change.numbered_arguments Change.numbered Change.inserted Change.without Change.with_fields Change.added Change.removed FieldText.decode_field
adds text schema = added_to (FieldText.decode_field text) (decode_schema schema)

unfoldable pub removes : (name : Text) (schema : List ℕ) → Option (List ℕ)
unfolding adds
removes name schema = removed_from name (decode_schema schema)

unfoldable pub has : (name : Text) (schema : List ℕ) → Option Bool
unfolding adds Change.is_there
has name schema = map (λ (t : Schema). Change.is_there name t.fields.members) (decode_schema schema)

-- the field comes, and that of the name goes from what this gives
unfoldable pub then_removes : (name : Text) → Option (List ℕ) → Option (List ℕ)
unfolding adds removes
then_removes name none = none
then_removes name (some schema) = removes name schema

-- Sizes: a schema of that many fields, and one with a field whose name has so many bytes

unfoldable pub leaf : Field
leaf = field 0 1 false none absent no_members

unfoldable pub leaves : ℕ → Members
unfolding leaf
leaves zero = no_members
leaves (suc n) = member [] leaf (leaves n)

unfoldable pub too_large : Members → Bool
unfolding adds leaves Change.is_too_large
too_large m = Change.is_too_large (record { fields = record { is_open = false; members = m }; arguments = none })

unfoldable pub mentioned : (name : Text) (rule : List ℕ) → Option Bool
unfolding computing Mention.is_next Mention.past_first Mention.is_named Mention.in_reference Mention.in_value Mention.in_over Mention.in_condition Mention.mentions
mentioned name rule = map (Mention.mentions name) (decode_rule rule)

pub record Edges : Type 0 where
  -- first, between, last; arguments follow
  pub first : adds (ascii "F,1,0,0,0,1,-,a\n") (ascii "H,0,1,-,0\nF,2,0,0,0,1,-,b\n") ≡ some (ascii "H,0,2,-,0\nF,1,0,0,0,1,-,a\nF,2,0,0,0,1,-,b\n")
  pub between : adds (ascii "F,6,0,1,0,1,-,b\nF,2,0,0,0,0,-,\n") (ascii "H,1,2,0,1\nF,2,0,0,0,1,-,a\nF,2,0,0,0,1,-,c\nF,4,0,0,0,1,-,x\n") ≡ some (ascii "H,1,3,0,1\nF,2,0,0,0,1,-,a\nF,6,0,1,0,1,-,b\nF,2,0,0,0,0,-,\nF,2,0,0,0,1,-,c\nF,4,0,0,0,1,-,x\n")
  pub last : adds (ascii "F,1,0,0,0,2,-,ab\n") (ascii "H,0,1,-,0\nF,2,0,0,0,1,-,a\n") ≡ some (ascii "H,0,2,-,0\nF,2,0,0,0,1,-,a\nF,1,0,0,0,2,-,ab\n")
  -- it goes with all that is below it, and the arguments' field of that name stays
  pub gone : removes (ascii "b") (ascii "H,1,2,0,1\nF,2,0,0,0,1,-,a\nF,6,0,1,0,1,-,b\nF,2,0,0,0,0,-,\nF,4,0,0,0,1,-,b\n") ≡ some (ascii "H,1,1,0,1\nF,2,0,0,0,1,-,a\nF,4,0,0,0,1,-,b\n")
  -- the head's count gets a digit more, and one less
  pub tenth : adds (ascii "F,2,0,0,0,1,-,j\n") (ascii "H,0,9,-,0\nF,1,0,0,0,1,-,a\nF,1,0,0,0,1,-,b\nF,1,0,0,0,1,-,c\nF,1,0,0,0,1,-,d\nF,1,0,0,0,1,-,e\nF,1,0,0,0,1,-,f\nF,1,0,0,0,1,-,g\nF,1,0,0,0,1,-,h\nF,1,0,0,0,1,-,i\n") ≡ some (ascii "H,0,10,-,0\nF,1,0,0,0,1,-,a\nF,1,0,0,0,1,-,b\nF,1,0,0,0,1,-,c\nF,1,0,0,0,1,-,d\nF,1,0,0,0,1,-,e\nF,1,0,0,0,1,-,f\nF,1,0,0,0,1,-,g\nF,1,0,0,0,1,-,h\nF,1,0,0,0,1,-,i\nF,2,0,0,0,1,-,j\n")
  pub ninth : removes (ascii "j") (ascii "H,0,10,-,0\nF,1,0,0,0,1,-,a\nF,1,0,0,0,1,-,b\nF,1,0,0,0,1,-,c\nF,1,0,0,0,1,-,d\nF,1,0,0,0,1,-,e\nF,1,0,0,0,1,-,f\nF,1,0,0,0,1,-,g\nF,1,0,0,0,1,-,h\nF,1,0,0,0,1,-,i\nF,2,0,0,0,1,-,j\n") ≡ some (ascii "H,0,9,-,0\nF,1,0,0,0,1,-,a\nF,1,0,0,0,1,-,b\nF,1,0,0,0,1,-,c\nF,1,0,0,0,1,-,d\nF,1,0,0,0,1,-,e\nF,1,0,0,0,1,-,f\nF,1,0,0,0,1,-,g\nF,1,0,0,0,1,-,h\nF,1,0,0,0,1,-,i\n")
  -- what came and went leaves the sheet as it was
  pub back : then_removes (ascii "b") (adds (ascii "F,6,0,1,0,1,-,b\nF,2,0,0,0,0,-,\n") (ascii "H,1,2,0,1\nF,2,0,0,0,1,-,a\nF,2,0,0,0,1,-,c\nF,4,0,0,0,1,-,b\n")) ≡ some (ascii "H,1,2,0,1\nF,2,0,0,0,1,-,a\nF,2,0,0,0,1,-,c\nF,4,0,0,0,1,-,b\n")
  -- 1,024 entries with the head, and one more; 30,000 bytes, and one more
  pub most-entries : too_large (leaves 1023) ≡ false
  pub more-entries : too_large (leaves 1024) ≡ true
  pub most_bytes : too_large (member (replicate 29971 97) leaf no_members) ≡ false
  pub more_bytes : too_large (member (replicate 29972 97) leaf no_members) ≡ true
  -- a name is there wherever it is in the record; that of an argument is not
  pub second : has (ascii "b") (ascii "H,0,2,-,0\nF,1,0,0,0,1,-,a\nF,1,0,0,0,1,-,b\n") ≡ some true
  pub no_field : has (ascii "b") (ascii "H,0,1,0,1\nF,1,0,0,0,1,-,a\nF,1,0,0,0,1,-,b\n") ≡ some false
  -- two entries side by side are no field
  pub two_fields : adds (ascii "F,1,0,0,0,1,-,a\nF,1,0,0,0,1,-,b\n") (ascii "H,0,0,-,0\n") ≡ none
  -- mentions: the segment after the first dot, and no other part of a text
  pub reference : mentioned (ascii "a") (ascii "R,-,-,\nC,5,0,\nV,5,11,$fields.a.b\n") ≡ some true
  pub later : mentioned (ascii "b") (ascii "R,-,-,\nC,5,0,\nV,5,11,$fields.a.b\n") ≡ some false
  pub longer : mentioned (ascii "a") (ascii "R,-,-,\nC,5,0,\nV,5,10,$fields.ab\n") ≡ some false
  pub escaped : mentioned (ascii "a") (ascii "R,-,-,\nC,5,0,\nV,5,10,$$fields.a\n") ≡ some false
  pub argument : mentioned (ascii "a") (ascii "R,-,-,\nC,5,0,\nV,5,7,$args.a\n") ≡ some true
  -- an `in` counts, whether it is a reference or not; the operator `in` does not
  pub over : mentioned (ascii "a") (ascii "R,-,-,\nC,20,1,b\nV,5,4,xb.a\nC,1,1,\n") ≡ some true
  pub over-first-dot : mentioned (ascii "a") (ascii "R,-,-,\nC,20,1,b\nV,5,4,.b.a\nC,1,1,\n") ≡ some true
  pub operator-in : mentioned (ascii "a") (ascii "R,-,-,\nC,14,0,\nV,5,4,xb.a\nV,5,4,xb.a\n") ≡ some false
  pub template : mentioned (ascii "a") (ascii "T\nV,7,1,\nK,1,k\nV,5,9,$fields.a\n") ≡ some true

pub edges : Edges
unfolding adds removes has then_removes too_large mentioned
edges =
    record {
      first = refl;
      between = refl;
      last = refl;
      gone = refl;
      tenth = refl;
      ninth = refl;
      back = refl;
      most-entries = refl;
      more-entries = refl;
      most_bytes = refl;
      more_bytes = refl;
      second = refl;
      no_field = refl;
      two_fields = refl;
      reference = refl;
      later = refl;
      longer = refl;
      escaped = refl;
      argument = refl;
      over = refl;
      over-first-dot = refl;
      operator-in = refl;
      template = refl;
    }
