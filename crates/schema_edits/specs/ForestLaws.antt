-- The writing of fields is such a row of entries.
use Rattle.std.specs.Prelude.{ℕ, suc, ◌+◌, ◌≤◌, List, [], ◌++◌, ◌≡◌, refl}
use Rattle.std.proofs.Common.{append_assoc, ap, ◌∙◌, arith}
use Rattle.text.proofs.Points.{utf8-empty}
use Rattle.sheet.specs.Entries.{max_count, FieldHead, field_head}
use Rattle.sheet.specs.Write.{write_field_head}
use Rattle.sheet.specs.Within.{TextWithin}
use Rattle.sheet.proofs.ItemLaws.{anything}
use Rattle.sheet.proofs.HeadLaws.{field_head-exact}
use Rattle.definition.specs.Tree.{Text, Field, field, Items, absent, element, Members, no_members, member}
use Rattle.definition.specs.Decode.{to_count}
use Rattle.definition.specs.Write.{has_items, count_of_members, write_field, write_items, write_members}
use Rattle.definition.specs.Within.{field_entries, items_entries, members_entries, FieldFits, ItemsFit, MembersFit}
use Rattle.definition.proofs.FieldLaws.{members-take}
use Rattle.schema_edits.specs.Forest.{Fields, entered}

fields-are : {p p' n n' : ℕ} {bytes rest : List ℕ} → p ≡ p' → n ≡ n' → Fields p n bytes rest → Fields p' n' bytes rest
fields-are e e' f = rw (← e, ← e') f

joined : (a b c d : List ℕ) → (a ++ (b ++ c)) ++ d ≡ a ++ (b ++ (c ++ d))
joined a b c d = simp append_assoc

empty-within : TextWithin []
empty-within = record { short = omega arith; utf8 = utf8-empty }

mutual
  unfolding write_field write_items write_members field_entries items_entries members_entries has_items count_of_members to_count anything

  pub field_row : (p n : ℕ) (name : Text) (f : Field) (more rest : List ℕ) → TextWithin name → FieldFits f → field_entries f ≤ max_count
      → Fields p n more rest
      → Fields (p + 1) (n + field_entries f) (write_field name f ++ more) rest
  field_row p n name (field e kind is_open tag items ms) more rest within fits few o =
      let k = members-take ms in
      let h : FieldHead = record { kind = kind; is_open = is_open; has_items = has_items items; count = count_of_members ms; name = name; tag = tag } in
      fields-are {p = suc p} {n = suc (n + members_entries ms + items_entries items)} (omega arith) (omega arith)
      (entered {pending = p} h (write_items items ++ (write_members ms ++ more))
      (ap field_head (joined (write_field_head h) (write_items items) (write_members ms) more)
      ∙ field_head-exact.complete h _ (record { kind = fits.0; count = omega arith; name = within; tag = fits.1 }) refl)
      (fields-are {p = p + count_of_members ms + to_count (has_items items)} (omega arith) refl
      (items-row (p + count_of_members ms) (n + members_entries ms) items (write_members ms ++ more) rest fits.2 (omega arith)
      (members-row p n ms more rest fits.3 (omega arith) o))))

  items-row : (p n : ℕ) (i : Items) (more rest : List ℕ) → ItemsFit i → items_entries i ≤ max_count
      → Fields p n more rest
      → Fields (p + to_count (has_items i)) (n + items_entries i) (write_items i ++ more) rest
  items-row p n absent more rest fits few o = fields-are (omega arith) (omega arith) o
  items-row p n (element f) more rest fits few o = field_row p n [] f more rest empty-within fits few o

  pub members-row : (p n : ℕ) (m : Members) (more rest : List ℕ) → MembersFit m → members_entries m ≤ max_count
      → Fields p n more rest
      → Fields (p + count_of_members m) (n + members_entries m) (write_members m ++ more) rest
  members-row p n no_members more rest fits few o = fields-are (omega arith) (omega arith) o
  members-row p n (member name f others) more rest fits few o =
      rw (append_assoc (write_field name f) (write_members others) more)
      (fields-are {p = p + count_of_members others + 1} {n = n + members_entries others + field_entries f} (omega arith) (omega arith)
      (field_row (p + count_of_members others) (n + members_entries others) name f (write_members others ++ more) rest fits.0 fits.1 (omega arith)
      (members-row p n others more rest fits.2 (omega arith) o)))
