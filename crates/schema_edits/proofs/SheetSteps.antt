-- A schema sheet that is well formed, by its head: where its fields begin, how many there are, and which names they have.
use Rattle.std.specs.Prelude.{Option as Optional, Some, None, Result, Ok, Err}
use Prim.Native.Nat.{ℕ, ◌≤◌, ◌<◌}
use native.Mathlib.Omega.{arith}
use mathlib.Core.Bool.{false}
use mathlib.Core.List.{List, ◌++◌}
use mathlib.Core.Option.{Option, none, some, none-ne-some, some-injective}
use mathlib.Core.Path.{◌≡◌, refl, sym, ap, subst, ◌∙◌}
use lib.ListN.{length, drop}
use Rattle.sheet.specs.Entries.{max_count, SchemaHead, schema_head}
use Rattle.sheet.proofs.ItemLaws.{anything}
use Rattle.sheet.proofs.HeadLaws.{SchemaHeadFits, ArgumentsFit, schema_head-exact}
use Rattle.sheet.specs.Places.{holder_of, schema_of, SchemaIs}
use Rattle.sheet.specs.declared.schema_heads.SchemaHead.{SchemaHead as CodeHead}
use Rattle.definition.specs.Tree.{Text, Field, field, absent, Members, no_members, member, Holder, Schema}
use Rattle.definition.specs.Limits.{max_sheet_bytes}
use Rattle.definition.specs.Decode.{decode_schema}
use Rattle.definition.specs.Write.{count_of_members, write_members, head_of, head_of_arguments, write_arguments, write_schema}
use Rattle.definition.specs.Within.{arguments_entries, schema_entries, MembersRise, SchemaWithin}
use Rattle.definition.proofs.FieldLaws.{members-take}
use Rattle.definition.proofs.RoundTrip.{schema-round-trip}
use Rattle.definition.proofs.RisingLaws.{NoneNamed, rising-once, rising-alone}
use Rattle.field_changes.specs.Change.{is_there}
use Rattle.field_changes.specs.Place.{joined, Starts}
use Rattle.field_changes.proofs.ThereLaws.{none-there, there-joined}
use Rattle.schema_edits.specs.Place.{Holds, AllBefore, PlaceIs, ComesAt, GoesFrom, PlaceOf}

-- The head

unfoldable pub head_in : Schema → SchemaHead
head_in t = record { fields = head_of t.fields; arguments = head_of_arguments t.arguments }

arguments-fit : (a : Option Holder) → arguments_entries a ≤ max_count → ArgumentsFit (head_of_arguments a)
unfolding head_of_arguments head_of arguments_entries
arguments-fit none few = tt
arguments-fit (some h) few = omega (arith, members-take h.members)

head-fits : (t : Schema) → SchemaWithin t → SchemaHeadFits (head_in t)
unfolding head_in head_of schema_entries
head-fits t w = let few = w.entries in (omega (arith, members-take t.fields.members), arguments-fit t.arguments (omega arith))

pub within_of : (s : List ℕ) (t : Schema) → decode_schema s ≡ some t → SchemaWithin t
within_of s t e = ((schema-round-trip s t).0 e).1

pub written_of : (s : List ℕ) (t : Schema) → decode_schema s ≡ some t → s ≡ write_schema t
written_of s t e = ((schema-round-trip s t).0 e).0

pub short-of : (s : List ℕ) (t : Schema) → decode_schema s ≡ some t → length s ≤ max_sheet_bytes
short-of s t e = let w = (within_of s t e).bytes in let same = ap length (written_of s t e) in omega arith

head-reads : (s : List ℕ) (t : Schema) → decode_schema s ≡ some t
    → schema_head (drop 0 s) ≡ some (head_in t, write_members t.fields.members ++ write_arguments t.arguments)
unfolding write_schema anything head_in
head-reads s t e = ap schema_head (written_of s t e) ∙ schema_head-exact.complete (head_in t) _ (head-fits t (within_of s t e)) refl

module _ (s : List ℕ) (r : Optional (CodeHead × ℕ)) (read : SchemaIs s 0 r) (t : Schema) (e : decode_schema s ≡ some t) where
  pub headed : {C : Type 0} → r ≡ None → C
  headed is = absurd (none-ne-some _ (sym (rw is at read) ∙ head-reads s t e))

  module _ {h : CodeHead} {start : ℕ} (is : r ≡ Some (h, start)) where
    both : ◌≡◌ {A = SchemaHead × List ℕ} (schema_of h, drop start s) (head_in t, write_members t.fields.members ++ write_arguments t.arguments)
    both = let k = rw is at read in some-injective _ _ (sym k.0.reads ∙ head-reads s t e)

    pub head-count : h.fields.count ≡ count_of_members t.fields.members
    unfolding schema_of holder_of head_in head_of
    head-count = ap (λ (x : SchemaHead × List ℕ). x.0.fields.count) both

    pub fields-start : drop start s ≡ write_members t.fields.members ++ write_arguments t.arguments
    fields-start = ap (λ (x : SchemaHead × List ℕ). x.1) both

    pub sheet-holds : Holds s start h.fields.count t.fields.members (write_arguments t.arguments)
    unfolding schema_entries
    sheet-holds =
        let k = rw is at read in
        let w = within_of s t e in
        let few = w.entries in
        record { within = k.0.within; bytes = fields-start; counted = sym head-count; fits = w.fits.0; few = omega arith }

-- The names

leaf : Field
leaf = field 0 0 false none absent no_members

rises-after : (name : Text) (b : Members) → Starts name b → MembersRise none b → MembersRise (some name) b
rises-after name no_members s r = tt
rises-after name (member n g b) s r = (s, r.1, r.2)

none-behind : (name : Text) (b : Members) → Starts name b → MembersRise none b → NoneNamed name b
unfolding leaf
none-behind name b s r = rising-once none name leaf b (tt, (tt, tt), rises-after name b s r)

none-joined : (name : Text) (a b : Members) → AllBefore name a → Starts name b → MembersRise none (joined a b) → NoneNamed name (joined a b)
unfolding joined
none-joined name no_members b h s r = none-behind name b s r
none-joined name (member n g a) b h s r = (h.0.1, none-joined name a b h.1 s (rising-alone (some n) (joined a b) r.2))

-- The place, by the sheet's head

module _ (s : List ℕ) (r : Optional (CodeHead × ℕ)) (name : Text) (read : SchemaIs s 0 r) where
  pub place-headless : r ≡ None → (t : Schema) → decode_schema s ≡ some t → ComesAt s 0 name t
  place-headless is t e = headed s r read t e is

  module _ {h : CodeHead} {start : ℕ} (is : r ≡ Some (h, start)) where
    comes : (at : ℕ) → PlaceIs s start h.fields.count name (Err at) → (t : Schema) → decode_schema s ≡ some t → ComesAt s at name t
    comes at k t e =
        let m = k t.fields.members (write_arguments t.arguments) (sheet-holds s r read t e is) in
        let parts = m.parted.parts in
        let rises = subst (λ (x : Members). MembersRise none x) parts (within_of s t e).rises.0 in
        record {
          missing = ap (is_there name) parts ∙ none-there name (joined m.a m.b) (none-joined name m.a m.b m.parted.before m.starts rises);
          place = m;
        }

    goes : (at end : ℕ) → PlaceIs s start h.fields.count name (Ok (at, end)) → (t : Schema) → decode_schema s ≡ some t → GoesFrom s at end name t
    goes at end k t e =
        let m = k t.fields.members (write_arguments t.arguments) (sheet-holds s r read t e is) in
        record { there = ap (is_there name) m.parted.parts ∙ there-joined name m.f m.a m.b; place = m }

    pub placed : (p : Result (ℕ × ℕ) ℕ) → PlaceIs s start h.fields.count name p → PlaceOf s name p
    placed (Err at) k = comes at k
    placed (Ok (at, end)) k = goes at end k

pub place-long : (s : List ℕ) (name : Text) → max_sheet_bytes < length s → (t : Schema) → decode_schema s ≡ some t → ComesAt s 0 name t
place-long s name l t e = let b = short-of s t e in absurd (omega arith)
