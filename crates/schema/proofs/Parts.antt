-- The parts of the field that a slot holds.
use Rattle.std.specs.Prelude.{Option}
use Prim.Native.Nat.{ℕ, ◌+◌, ◌/◌, ◌%◌, ◌≤◌}
use mathlib.Core.List.{List, []}
use mathlib.Core.Path.{◌≡◌, sym, ap, ◌∙◌}
use native.Mathlib.Omega.{arith}
use Rattle.sheet.specs.Entries as Entries
use Rattle.definition.specs.Tree.{field, Items, absent, element}
use Rattle.definition.specs.Within.{ItemsRise}
use Rattle.definition.specs.Decode.{to_count}
use Rattle.definition.specs.Write.{has_items, count_of_members}
use Rattle.schema.specs.Index.{max_slots, place_word, child_slot, elements, below, below_items, ItemsAt}
use Rattle.schema.specs.IndexLaws.{elements-marked}
use Rattle.schema.specs.Slot.{ElementAt, element_from, IndexedIs}
use Rattle.sheet.specs.Places.{field_of, KnownTo, Unread}
use Rattle.sheet.specs.declared.schema_heads.FieldHead.{FieldHead}
use Rattle.schema.specs.declared.index.IndexedField.{IndexedField}

-- a slot that holds a field has a head
pub headless-parts : (s w : List ℕ) (k : ℕ) (r : IndexedField) → Unread s (place_word w k / 4096) → IndexedIs s w k r
headless-parts s w k r n (field e kind o tag items members) holds =
    absurd (n _ _ holds.indexed.1.reads)

items-element : (s w : List ℕ) (k low : ℕ) (items : Items) → ItemsAt s w k low items → ItemsRise items → k + elements items ≤ max_slots → low + below_items items ≤ max_slots
    → ElementAt s w (element_from (has_items items) k) items
unfolding element_from has_items elements below_items
items-element s w k low absent at rises slot room = tt
items-element s w k low (element f) at rises slot room = record { name = []; low = low; indexed = at; rises = rises; slot = omega arith; room = room }

pub indexed-parts : (s w : List ℕ) (k : ℕ) (head : FieldHead) (next place child elems : ℕ) (el : Option ℕ)
    → KnownTo s (place_word w k / 4096) head next → place ≡ place_word w k → child ≡ child_slot w k
    → elems ≡ to_count head.items → el ≡ element_from head.items child
    → IndexedIs s w k
    (record {
      entry = place % 4096;
      kind = head.kind;
      tag = head.tag;
      element = el;
      members = record { opened = head.opened; first = child + elems; count = head.count };
    })
unfolding field_of below
indexed-parts s w k head next place child elems el known p c n l (field e kind o tag items members) holds =
    let at = holds.indexed in
    let q = (known.reads _ _ at.1.reads).0 in
    let has : head.items ≡ has_items items = ap (λ (h : Entries.FieldHead). h.has_items) q in
    let count : head.count ≡ count_of_members members = ap (λ (h : Entries.FieldHead). h.count) q in
    let low : child ≡ holds.low = c ∙ at.3 in
    let m : elems ≡ elements items = n ∙ ap to_count has ∙ sym (elements-marked items) in
    let room = holds.room in
    let first : child + elems ≡ holds.low + elements items = omega arith in
    record {
      numbered = rw p at.0;
      kinded = ap (λ (h : Entries.FieldHead). h.kind) q;
      tagged = ap (λ (h : Entries.FieldHead). h.tag) q;
      elements =
          rw (l, has, low)
          (items-element s w holds.low (holds.low + (elements items + count_of_members members)) items at.4 holds.rises.0 (omega arith) (omega arith));
      members =
          record {
            marked = ap (λ (h : Entries.FieldHead). h.is_open) q;
            counted = sym count;
            low = holds.low + (elements items + count_of_members members) + below_items items;
            indexed = rw first at.5;
            rises = holds.rises.1;
            slots = omega arith;
            room = omega arith;
          };
    }
