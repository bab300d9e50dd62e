-- A schema's writing, entry by entry: behind the sheet's head come the fields' entries, and those of the schema with a mark open differ in that mark.
use Prim.Native.Nat.{ℕ, ◌+◌, ◌≤◌, ◌<◌}
use mathlib.Core.Bool.{or-false}
use mathlib.Core.List.{List, [], ◌++◌, append_assoc, append-nil}
use mathlib.Core.Option.{Option, none, some}
use mathlib.Core.Path.{◌≡◌, refl, sym, ap, ◌∙◌}
use native.Mathlib.Omega.{arith}
use lib.Dec.{eqb}
use borrow.Author.Tests.{ne_eqb}
use Rattle.text.proofs.Points.{utf8-empty}
use Rattle.sheet.specs.Entries.{max_count, FieldHead, field_head}
use Rattle.sheet.specs.Write.{write_field_head}
use Rattle.sheet.specs.Within.{TextWithin}
use Rattle.sheet.proofs.ItemLaws.{anything}
use Rattle.sheet.proofs.HeadLaws.{field_head-exact}
use Rattle.definition.specs.Tree.{Text, Field, field, Items, absent, element, Members, no_members, member, Holder, Schema}
use Rattle.definition.specs.Write.{has_items, count_of_members, write_field, write_items, write_members, write_arguments}
use Rattle.definition.specs.Within.{field_entries, items_entries, members_entries, arguments_entries, schema_entries, FieldFits, ItemsFit, MembersFit, ArgumentsFit, FieldFrom, ItemsFrom, MembersFrom, ArgumentsFrom, SchemaWithin}
use Rattle.definition.proofs.FieldLaws.{members-take}
use Rattle.widening.specs.Opening.{opened_field, opened_items, opened_members, opened_holder, opened_arguments}
use Rattle.open_marks.specs.Places.{opened_head, Opens, ended, entered}
use Rattle.open_marks.proofs.Kept.{items_kept, members_kept}

opens-is : {entry number number' : ℕ} {before after : List ℕ} → number ≡ number' → Opens entry number before after → Opens entry number' before after
opens-is e o = rw (← e) o

-- Where the entry's number is another, its head stays as it is.

pub head-other : (entry number : ℕ) (h : FieldHead) → (entry ≡ number → ⊥) → opened_head (eqb entry number) h ≡ h
unfolding opened_head
head-other entry number h n = rw (ne_eqb entry number n, or-false h.is_open)

pub opens-past : {entry number : ℕ} {before after : List ℕ} → entry < number → Opens entry number before after → before ≡ after
opens-past l (ended e f) = e ∙ sym f
opens-past {entry} {number} l (entered h others others' reads e o) =
    let same : opened_head (eqb entry number) h ≡ h = head-other entry number h (λ q. omega arith) in
    (field_head-exact.sound _ h others reads).0 ∙ rw (e, same, opens-past (omega arith) o)

-- The entries of a tree

joined : (a b c d : List ℕ) → (a ++ (b ++ c)) ++ d ≡ a ++ (b ++ (c ++ d))
joined a b c d = simp append_assoc

empty-within : TextWithin []
empty-within = record { short = omega arith; utf8 = utf8-empty }

module _ (entry : ℕ) where
  mutual
    unfolding write_field write_items write_members opened_field opened_items opened_members field_entries items_entries members_entries opened_head anything

    field-opens : (n : ℕ) (name : Text) (f : Field) (rest after : List ℕ) → TextWithin name → FieldFits f → FieldFrom n f → field_entries f ≤ max_count
        → Opens entry (n + field_entries f) rest after
        → Opens entry n (write_field name f ++ rest) (write_field name (opened_field (eqb entry) f) ++ after)
    field-opens n name (field e kind is_open tag items members) rest after within fits from few o =
        let i = items_kept (eqb entry) items in
        let m = members_kept (eqb entry) members in
        let k = members-take members in
        let h : FieldHead = record { kind = kind; is_open = is_open; has_items = has_items items; count = count_of_members members; name = name; tag = tag } in
        let g = opened_field (eqb entry) (field e kind is_open tag items members) in
        let items' = write_items (opened_items (eqb entry) items) in
        let members' = write_members (opened_members (eqb entry) members) in
        entered {number = n} {after = write_field name g ++ after} h (write_items items ++ (write_members members ++ rest)) (items' ++ (members' ++ after))
        (ap field_head (joined (write_field_head h) (write_items items) (write_members members) rest)
        ∙ field_head-exact.complete h _ (record { kind = fits.0; count = omega arith; name = within; tag = fits.1 }) refl)
        (rw (from.0, i.mark, m.count) (joined (write_field_head (opened_head (eqb entry n) h)) items' members' after))
        (items-opens (n + 1) items _ _ fits.2 from.1 (omega arith)
        (members-opens (n + 1 + items_entries items) members rest after fits.3 from.2 (omega arith) (opens-is (omega arith) o)))

    items-opens : (n : ℕ) (i : Items) (rest after : List ℕ) → ItemsFit i → ItemsFrom n i → items_entries i ≤ max_count
        → Opens entry (n + items_entries i) rest after
        → Opens entry n (write_items i ++ rest) (write_items (opened_items (eqb entry) i) ++ after)
    items-opens n absent rest after fits from few o = opens-is (omega arith) o
    items-opens n (element f) rest after fits from few o = field-opens n [] f rest after empty-within fits from few o

    members-opens : (n : ℕ) (m : Members) (rest after : List ℕ) → MembersFit m → MembersFrom n m → members_entries m ≤ max_count
        → Opens entry (n + members_entries m) rest after
        → Opens entry n (write_members m ++ rest) (write_members (opened_members (eqb entry) m) ++ after)
    members-opens n no_members rest after fits from few o = opens-is (omega arith) o
    members-opens n (member name f others) rest after fits from few o =
        let others' = write_members (opened_members (eqb entry) others) in
        rw (append_assoc (write_field name f) (write_members others) rest, append_assoc (write_field name (opened_field (eqb entry) f)) others' after)
        (field-opens n name f _ _ fits.0 fits.1 from.0 (omega arith)
        (members-opens (n + field_entries f) others rest after fits.2 from.1 (omega arith) (opens-is (omega arith) o)))

  arguments-open : (n : ℕ) (a : Option Holder) → ArgumentsFit a → ArgumentsFrom n a → arguments_entries a ≤ max_count
      → Opens entry n (write_arguments a) (write_arguments (opened_arguments (eqb entry) a))
  unfolding write_arguments opened_arguments opened_holder arguments_entries
  arguments-open n none fits from few = ended refl refl
  arguments-open n (some h) fits from few =
      let opened = write_members (opened_members (eqb entry) h.members) in
      rw (append-nil (write_members h.members), append-nil opened) at
      (members-opens n h.members [] [] fits from few (ended refl refl))

  pub schema-opens : (t : Schema) → SchemaWithin t
      → Opens entry 2 (write_members t.fields.members ++ write_arguments t.arguments)
      (write_members (opened_members (eqb entry) t.fields.members) ++ write_arguments (opened_arguments (eqb entry) t.arguments))
  unfolding schema_entries
  schema-opens t w =
      let few = w.entries in
      members-opens 2 t.fields.members _ _ w.fits.0 w.numbers.0 (omega arith)
      (arguments-open _ t.arguments w.fits.1 w.numbers.1 (omega arith))
