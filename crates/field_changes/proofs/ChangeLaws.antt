-- What a field that comes or goes does to a schema: names still rise, the limits are those of entries and bytes alone, and a rule or template that
-- does not mention the field is answered as before.
use Rattle.std.specs.Prelude.{ℕ, ◌≤◌, max, Bool, true, false, not, cond, ◌&&◌, List, [], ◌∷◌, ◌≡◌, leb, ltb, length}
use Rattle.std.proofs.Common.{arith, sym, ◌∙◌, ltb-false, leb-true, eq-eqb}
use Rattle.std.proofs.lemmas.Bool.{false≢true}
use Rattle.std.proofs.Math.Option.{Option, none, some}
use Rattle.std.proofs.Math.Path.{refl}
use Rattle.text.specs.Order.{precedes, same_bytes}
use Rattle.text.specs.OrderLaws.{same_bytes-equal, precedes-transitive}
use Rattle.text.specs.CaseLaws.{by-test}
use Rattle.sheet.specs.Within.{TextWithin}
use Rattle.definition.specs.Tree.{Text, Field, Members, no_members, member, Schema, Rule}
use Rattle.definition.specs.Limits.{max_sheet_bytes, max_schema_entries}
use Rattle.definition.specs.Decode.{decode_schema}
use Rattle.definition.specs.Write.{write_schema}
use Rattle.definition.specs.Within.{schema_entries, field_nesting, members_nesting, schema_nesting, Behind, FieldRises, MembersRise, FieldFits, MembersFit, SchemaWithin}
use Rattle.definition.proofs.RoundTrip.{schema-round-trip}
use Rattle.definition.proofs.RisingLaws.{NoneNamed}
use Rattle.reference.specs.Setting.{Setting}
use Rattle.reference.specs.Walk.{lookup}
use Rattle.widening.specs.Distinct.{DistinctSchema}
use Rattle.validation.specs.Result.{checked}
use Rattle.field_changes.specs.Mention.{mentions}
use Rattle.field_changes.specs.Change.{numbered, inserted, without, with_fields, added, removed, is_too_large}
use Rattle.field_changes.specs.FieldText.{FieldWithin}
use Rattle.field_changes.proofs.NumberedLaws.{numbered-wider, numbered-written, numbered-entries, numbered_within}
use Rattle.field_changes.proofs.RenumberLaws.{renumbered-same}
use Rattle.field_changes.proofs.BesideLaws.{Beside, beside_same}

-- Names that are not that of the field lead where they led.

lookup-past : (x n : Text) (f : Field) (m : Members) → same_bytes n x ≡ false → lookup x m ≡ lookup x (member n f m)
unfolding lookup
lookup-past x n f m h = rw h

cons-lookup : (x n : Text) (g : Field) (m m' : Members) → lookup x m ≡ lookup x m' → lookup x (member n g m) ≡ lookup x (member n g m')
unfolding lookup
cons-lookup x n g m m' e = rw e

pub lookup-inserted : (x name : Text) (f : Field) (m : Members) → same_bytes name x ≡ false → lookup x m ≡ lookup x (inserted name f m)
unfolding inserted
lookup-inserted x name f no_members h = lookup-past x name f no_members h
lookup-inserted x name f (member n g m) h = at (precedes name n) (lookup-inserted x name f m h)
  where
    at : (b : Bool) → lookup x m ≡ lookup x (inserted name f m)
        → lookup x (member n g m) ≡ lookup x (cond b (member name f (member n g m)) (member n g (inserted name f m)))
    at true e = lookup-past x name f (member n g m) h
    at false e = cons-lookup x n g m (inserted name f m) e

pub lookup-without : (x name : Text) (m : Members) → same_bytes name x ≡ false → lookup x m ≡ lookup x (without name m)
unfolding without
lookup-without x name no_members h = refl
lookup-without x name (member n g m) h = at (same_bytes n name) refl (lookup-without x name m h)
  where
    at : (b : Bool) → same_bytes n name ≡ b → lookup x m ≡ lookup x (without name m)
        → lookup x (member n g m) ≡ lookup x (cond b m (member n g (without name m)))
    at true e more = sym (lookup-past x n g m (rw (same_bytes-equal n name e) h))
    at false e more = cons-lookup x n g m (without name m) more

-- A rule or template that does not mention the field is answered as before.

module _ (setting : Setting) (label : Text) (r : Rule) (name : Text) (t : Schema) where
  beside-checked : (s' : Schema) → Beside name t s' → mentions name r ≡ false → checked setting label t r ≡ checked setting label s' r
  unfolding checked
  beside-checked s' b h = rw (beside_same name t s' b setting r h)

  -- the members of the record are others, and the entries are numbered anew
  same-fields : (m : Members)
      → ((x : Text) → same_bytes name x ≡ false → lookup x t.fields.members ≡ lookup x m)
      → DistinctSchema (numbered (with_fields t m))
      → mentions name r ≡ false
      → checked setting label t r ≡ checked setting label (numbered (with_fields t m)) r
  unfolding with_fields
  same-fields m h distinct unmentioned =
      beside-checked (with_fields t m) (record { is_open = refl; others = h; arguments = refl }) unmentioned
      ∙ renumbered-same setting label r (record { is_wider = numbered-wider (with_fields t m); is_distinct = distinct })

  pub same-added : (f : Field) → DistinctSchema (added name f t) → mentions name r ≡ false → checked setting label t r ≡ checked setting label (added name f t) r
  unfolding added
  same-added f distinct unmentioned =
      same-fields (inserted name f t.fields.members) (λ x h. lookup-inserted x name f t.fields.members h) distinct unmentioned

  pub same-removed : DistinctSchema (removed name t) → mentions name r ≡ false → checked setting label t r ≡ checked setting label (removed name t) r
  unfolding removed
  same-removed distinct unmentioned =
      same-fields (without name t.fields.members) (λ x h. lookup-without x name t.fields.members h) distinct unmentioned

-- Names rise.

precedes-total : (a b : List ℕ) → precedes a b ≡ false → same_bytes b a ≡ false → precedes b a ≡ true
unfolding precedes same_bytes
precedes-total [] [] e h = absurd (false≢true (sym h))
precedes-total [] (b ∷ t) e h = absurd (false≢true (sym e))
precedes-total (a ∷ s) [] e h = refl
precedes-total (a ∷ s) (b ∷ t) e h =
    by-test (ltb b a) (λ q. rw q)
    (λ q.
    by-test (ltb a b) (λ p. absurd (false≢true (sym (rw p at e))))
    (λ p.
    let above = ltb-false a b p in
    let below = ltb-false b a q in
    let same : a ≡ b = omega arith in
    let e' : precedes s t ≡ false = rw (p, eq-eqb a b same) at e in
    let h' : same_bytes t s ≡ false = rw (eq-eqb b a (sym same)) at h in
    rw (q, eq-eqb b a (sym same)) (precedes-total s t e' h')))

pub rises-inserted : (before : Option Text) (name : Text) (f : Field) (m : Members)
    → Behind before name
    → FieldRises f
    → NoneNamed name m
    → MembersRise before m
    → MembersRise before (inserted name f m)
unfolding inserted
rises-inserted before name f no_members b r new rises = (b, r, tt)
rises-inserted before name f (member n g m) b r new rises =
    at (precedes name n) refl (λ e. rises-inserted (some n) name f m (precedes-total name n e new.0) r new.1 rises.2)
  where
    at : (x : Bool) → precedes name n ≡ x → (precedes name n ≡ false → MembersRise (some n) (inserted name f m))
        → MembersRise before (cond x (member name f (member n g m)) (member n g (inserted name f m)))
    at true e later = (b, r, (e, rises.1, rises.2))
    at false e later = (rises.0, rises.1, later e)

behind-earlier : (before : Option Text) (n k : Text) → Behind before n → precedes n k ≡ true → Behind before k
behind-earlier none n k b e = tt
behind-earlier (some x) n k b e = precedes-transitive x n k b e

rises-earlier : (before : Option Text) (n : Text) (m : Members) → Behind before n → MembersRise (some n) m → MembersRise before m
rises-earlier before n no_members b r = tt
rises-earlier before n (member k g m) b r = (behind-earlier before n k b r.0, r.1, r.2)

pub rises-without : (before : Option Text) (name : Text) (m : Members) → MembersRise before m → MembersRise before (without name m)
unfolding without
rises-without before name no_members r = tt
rises-without before name (member n g m) r = at (same_bytes n name) (rises-without (some n) name m r.2)
  where
    at : (x : Bool) → MembersRise (some n) (without name m) → MembersRise before (cond x m (member n g (without name m)))
    at true later = rises-earlier before n m r.0 r.2
    at false later = (r.0, r.1, later)

-- Nesting, and what entries may hold.

pub nesting-inserted : (name : Text) (f : Field) (m : Members) → members_nesting (inserted name f m) ≤ max (field_nesting f) (members_nesting m)
unfolding inserted members_nesting
nesting-inserted name f no_members = omega arith
nesting-inserted name f (member n g m) = at (precedes name n) (nesting-inserted name f m)
  where
    at : (x : Bool) → members_nesting (inserted name f m) ≤ max (field_nesting f) (members_nesting m)
        → members_nesting (cond x (member name f (member n g m)) (member n g (inserted name f m))) ≤ max (field_nesting f) (members_nesting (member n g m))
    at true e = omega arith
    at false e = omega arith

pub nesting-without : (name : Text) (m : Members) → members_nesting (without name m) ≤ members_nesting m
unfolding without members_nesting
nesting-without name no_members = omega arith
nesting-without name (member n g m) = at (same_bytes n name) (nesting-without name m)
  where
    at : (x : Bool) → members_nesting (without name m) ≤ members_nesting m
        → members_nesting (cond x m (member n g (without name m))) ≤ members_nesting (member n g m)
    at true e = omega arith
    at false e = omega arith

pub fits-inserted : (name : Text) (f : Field) (m : Members) → TextWithin name → FieldFits f → MembersFit m → MembersFit (inserted name f m)
unfolding inserted
fits-inserted name f no_members t h r = (t, h, tt)
fits-inserted name f (member n g m) t h r = at (precedes name n) (fits-inserted name f m t h r.2)
  where
    at : (x : Bool) → MembersFit (inserted name f m) → MembersFit (cond x (member name f (member n g m)) (member n g (inserted name f m)))
    at true e = (t, h, r)
    at false e = (r.0, r.1, e)

pub fits-without : (name : Text) (m : Members) → MembersFit m → MembersFit (without name m)
unfolding without
fits-without name no_members r = tt
fits-without name (member n g m) r = at (same_bytes n name) (fits-without name m r.2)
  where
    at : (x : Bool) → MembersFit (without name m) → MembersFit (cond x m (member n g (without name m)))
    at true e = r.2
    at false e = (r.0, r.1, e)

room : (t : Schema) → is_too_large t ≡ false → (schema_entries t ≤ max_schema_entries) × (length (write_schema t) ≤ max_sheet_bytes)
unfolding is_too_large
room t h = go (leb (schema_entries t) max_schema_entries) (leb (length (write_schema t)) max_sheet_bytes) refl refl h
  where
    go : (x y : Bool) → leb (schema_entries t) max_schema_entries ≡ x → leb (length (write_schema t)) max_sheet_bytes ≡ y → not (x && y) ≡ false
        → (schema_entries t ≤ max_schema_entries) × (length (write_schema t) ≤ max_sheet_bytes)
    go true true e e' h = (leb-true _ _ e, leb-true _ _ e')
    go true false e e' h = absurd (false≢true (sym h))
    go false y e e' h = absurd (false≢true (sym h))

-- the sheet that is written for it is well formed, and holds it
pub added-decodes : (name : Text) (f : Field) (t : Schema)
    → SchemaWithin t
    → FieldWithin name f
    → NoneNamed name t.fields.members
    → is_too_large (added name f t) ≡ false
    → decode_schema (write_schema (added name f t)) ≡ some (added name f t)
unfolding added with_fields schema_nesting
added-decodes name f t w g new fits =
    let u = with_fields t (inserted name f t.fields.members) in
    let r = room (added name f t) fits in
    let deep = nesting-inserted name f t.fields.members in
    let before = w.nesting in
    (schema-round-trip (write_schema (numbered u)) (numbered u)).1 (
      refl,
      numbered_within u
          (rw (numbered-entries u) at r.0)
          (rw (numbered-written u) at r.1)
          (omega (arith, g.nesting))
          (rises-inserted none name f t.fields.members tt g.rises new w.rises.0, w.rises.1)
          (fits-inserted name f t.fields.members g.named g.fits w.fits.0, w.fits.1),
    )

pub removed-decodes : (name : Text) (t : Schema)
    → SchemaWithin t
    → is_too_large (removed name t) ≡ false
    → decode_schema (write_schema (removed name t)) ≡ some (removed name t)
unfolding removed with_fields schema_nesting
removed-decodes name t w fits =
    let u = with_fields t (without name t.fields.members) in
    let r = room (removed name t) fits in
    let deep = nesting-without name t.fields.members in
    let before = w.nesting in
    (schema-round-trip (write_schema (numbered u)) (numbered u)).1 (
      refl,
      numbered_within u
          (rw (numbered-entries u) at r.0)
          (rw (numbered-written u) at r.1)
          (omega arith)
          (rises-without none name t.fields.members w.rises.0, w.rises.1)
          (fits-without name t.fields.members w.fits.0, w.fits.1),
    )
