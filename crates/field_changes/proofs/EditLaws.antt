-- The bytes of a schema sheet in which a field comes or goes: those before its place and those after it stay, and the head's count is another.
use Rattle.std.specs.Prelude.{ℕ, ◌+◌, List, ◌++◌, ◌≡◌}
use Rattle.std.proofs.Common.{append_assoc, ◌∙◌}
use Rattle.std.proofs.Math.Path.{refl, ap}
use Rattle.text.specs.OrderLaws.{same_bytes-refl}
use Rattle.sheet.specs.Write.{write_schema_head}
use Rattle.definition.specs.Tree.{Text, Field, Members, no_members, member, Schema}
use Rattle.definition.specs.Write.{count_of_members, write_field, write_members, head_of, head_of_arguments, write_arguments, write_schema}
use Rattle.definition.proofs.RisingLaws.{NoneNamed}
use Rattle.field_changes.specs.Change.{inserted, without, with_fields, added, removed}
use Rattle.field_changes.specs.Place.{joined, Before, Starts}
use Rattle.field_changes.proofs.NumberedLaws.{numbered-written}

pub inserted-at : (name : Text) (f : Field) (a b : Members) → Before name a → Starts name b → inserted name f (joined a b) ≡ joined a (member name f b)
unfolding inserted joined
inserted-at name f no_members no_members h s = refl
inserted-at name f no_members (member n g b) h s = rw s
inserted-at name f (member n g a) b h s = rw (h.0, inserted-at name f a b h.1 s)

pub without_at : (name : Text) (g : Field) (a b : Members) → NoneNamed name a → without name (joined a (member name g b)) ≡ joined a b
unfolding without joined
without_at name g no_members b h = rw (same_bytes-refl name)
without_at name g (member n k a) b h = rw (h.0, without_at name g a b h.1)

pub written-joined : (a b : Members) → write_members (joined a b) ≡ write_members a ++ write_members b
unfolding joined write_members
written-joined no_members b = refl
written-joined (member n g a) b = rw (written-joined a b, append_assoc)

pub count-joined : (name : Text) (f : Field) (a b : Members) → count_of_members (joined a (member name f b)) ≡ count_of_members (joined a b) + 1
unfolding joined count_of_members
count-joined name f no_members b = refl
count-joined name f (member n g a) b = rw (count-joined name f a b)

-- a schema sheet in parts: its head with that count, the record's fields before a place and after it, the arguments' fields
unfoldable pub sheet_of : (count : ℕ) → Schema → (before after : List ℕ) → List ℕ
sheet_of count t before after =
    write_schema_head (record { fields = record { is_open = t.fields.is_open; count = count }; arguments = head_of_arguments t.arguments })
    ++ (before ++ (after ++ write_arguments t.arguments))

parts-of : (t : Schema) (m : Members) (before after : List ℕ)
    → write_members m ≡ before ++ after
    → write_schema (with_fields t m) ≡ sheet_of (count_of_members m) t before after
unfolding write_schema with_fields sheet_of head_of
parts-of t m before after e = rw (e, append_assoc)

module _ (name : Text) (f : Field) (t : Schema) (a b : Members) where
  -- the sheet as it is lent
  pub sheet-parts : t.fields.members ≡ joined a b → write_schema t ≡ sheet_of (count_of_members (joined a b)) t (write_members a) (write_members b)
  unfolding write_schema sheet_of head_of
  sheet-parts e = rw (e, written-joined a b, append_assoc)

  -- the field comes between
  pub added-written : t.fields.members ≡ joined a b
      → Before name a
      → Starts name b
      → write_schema (added name f t) ≡ sheet_of (count_of_members (joined a b) + 1) t (write_members a) (write_field name f ++ write_members b)
  unfolding added write_field write_members with_fields sheet_of
  added-written e h s =
      rw (numbered-written (with_fields t (inserted name f t.fields.members)), e, inserted-at name f a b h s)
      (parts-of t (joined a (member name f b)) (write_members a) (write_field name f ++ write_members b) (between)
      ∙ ap (λ (n : ℕ). sheet_of n t (write_members a) (write_field name f ++ write_members b)) (count-joined name f a b))
    where
      between : write_members (joined a (member name f b)) ≡ write_members a ++ (write_field name f ++ write_members b)
      between = written-joined a (member name f b) ∙ refl

  -- or goes
  pub removed-written : t.fields.members ≡ joined a (member name f b)
      → NoneNamed name a
      → write_schema (removed name t) ≡ sheet_of (count_of_members (joined a b)) t (write_members a) (write_members b)
  unfolding removed with_fields sheet_of
  removed-written e h =
      rw (numbered-written (with_fields t (without name t.fields.members)), e, without_at name f a b h)
      (parts-of t (joined a b) (write_members a) (write_members b) (written-joined a b))
