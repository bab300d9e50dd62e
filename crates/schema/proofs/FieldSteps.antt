-- One field: how each way through its reader answers what the decoder does.
use Prim.Native.Nat.{ℕ, zero, suc, ◌+◌, ◌-◌, ◌*◌, ◌/◌, ◌%◌, ◌≤◌, ◌<◌}
use mathlib.Core.Bool.{Bool, true, false}
use mathlib.Core.List.{List}
use mathlib.Core.Option.{none, some}
use mathlib.Core.Path.{◌≡◌, refl, sym, ap, ◌∙◌}
use native.Mathlib.Omega.{arith}
use lib.ListN.{length, drop}
use borrow.Author.Tests.{lt-leb, le-leb}
use Rattle.text.specs.Reader.{◌>>=◌, ◌>>◌, and_then, pure, refuse}
use Rattle.text.specs.Parts.{part_of}
use Rattle.text.specs.declared.part.Part.{Part}
use Rattle.sheet.specs.Entries.{FieldHead, field_head}
use Rattle.definition.specs.Tree.{field, Items, Members}
use Rattle.definition.specs.Decode.{Ahead, entry, entered, announce, to_count, element_of, members_of, field_in}
use Rattle.definition.specs.Write.{has_items, count_of_members}
use Rattle.schema.specs.Index.{max_slots, place_word, elements, below, below_items, HeadAt, FieldAt}
use Rattle.schema.specs.IndexLaws.{ItemsAt-kept, elements-marked}
use Rattle.schema.specs.Kept.{Kept, SlotKept, OthersKept}
use Rattle.schema.specs.Fields.{ahead, SlotPut, Ready, FieldGood, ItemsGood, MembersGood}
use Rattle.schema.specs.declared.field.Cursor.{Cursor}
use Rattle.schema.proofs.Slots.{slot_kept-more}

pub field-too-deep : (depth : ℕ) (a : Ahead) → depth ≡ 0 → field_in depth a ≡ none
unfolding field_in refuse
field-too-deep depth a e = rw e

pub field-headless : (depth : ℕ) (a : Ahead) → field_head a.rest ≡ none → field_in depth a ≡ none
unfolding field_in refuse ◌>>=◌ and_then entry entered
field-headless zero a e = refl
field-headless (suc depth) a e = rw e

-- The head is read. What is announced has the slots that follow those in use.
module _ (s : List ℕ) (from : Cursor) (h : FieldHead) (end elems : ℕ) (head : field_head (drop from.at s) ≡ some (h, drop end s))
    (marked : elems ≡ to_count h.has_items) where
  abbrev pub inner : Cursor
  inner = record { next = from.next + 1; used = from.used + (elems + h.count); at = end }

  pub field-crowded : (depth : ℕ) → max_slots - from.used < elems + h.count → field_in depth (ahead s from) ≡ none
  unfolding field_in refuse ◌>>=◌ ◌>>◌ and_then entry entered announce
  field-crowded zero few = refl
  field-crowded (suc depth) few =
      rw (head, lt-leb (to_count h.has_items + h.count) (max_slots - from.used) (omega arith))

  module _ (depth d : ℕ) (deeper : depth ≡ suc d) (room : elems + h.count ≤ max_slots - from.used) where
    field-rest : field_in depth (ahead s from)
        ≡ and_then (element_of h.has_items (field_in d) (ahead s inner)) λ items.
        members_of h.count none (field_in d) >>= λ members.
        pure (h.name, field from.next h.kind h.is_open h.tag items members)
    unfolding field_in ◌>>=◌ ◌>>◌ and_then entry entered announce
    field-rest =
        let left : max_slots - from.used - (to_count h.has_items + h.count) ≡ max_slots - (from.used + (elems + h.count)) = omega arith in
        rw (deeper, head, le-leb (to_count h.has_items + h.count) (max_slots - from.used) (omega arith), left)

    pub field-elementless : element_of h.has_items (field_in d) (ahead s inner) ≡ none → field_in depth (ahead s from) ≡ none
    unfolding and_then
    field-elementless e = field-rest ∙ rw e

    pub field-memberless : (items : Items) (b : Ahead) → element_of h.has_items (field_in d) (ahead s inner) ≡ some (items, b)
        → members_of h.count none (field_in d) b ≡ none → field_in depth (ahead s from) ≡ none
    unfolding and_then ◌>>=◌
    field-memberless items b e f = field-rest ∙ rw (e, f)

    field-reads : (items : Items) (members : Members) (b c : Ahead) → element_of h.has_items (field_in d) (ahead s inner) ≡ some (items, b)
        → members_of h.count none (field_in d) b ≡ some (members, c)
        → field_in depth (ahead s from) ≡ some ((h.name, field from.next h.kind h.is_open h.tag items members), c)
    unfolding and_then ◌>>=◌ pure
    field-reads items members b c e f = field-rest ∙ rw (e, f)

-- the words at a slot, and the entry that they lead to
slot-place : (w at e : ℕ) → e < 4096 → w ≡ at * 4096 + e → (w % 4096 ≡ e) × (w / 4096 ≡ at)
slot-place w at e h q = (omega arith, omega arith)

head-at : (s : List ℕ) (h : FieldHead) (start end w : ℕ) (has : Bool) (count : ℕ) → field_head (drop start s) ≡ some (h, drop end s) → w ≡ start → has ≡ h.has_items
    → count ≡ h.count → HeadAt s w (record { kind = h.kind; is_open = h.is_open; has_items = has; count = count; name = h.name; tag = h.tag })
head-at s h start end w has count reads p q r = record { rest = drop end s; reads = rw (p, q, r) reads }

pub to_count-small : (b : Bool) → to_count b ≤ 1
unfolding to_count
to_count-small false = omega arith
to_count-small true = omega arith

pub to_count-none : (b : Bool) → to_count b ≡ 0 → b ≡ false
unfolding to_count
to_count-none false e = refl
to_count-none true e = absurd (omega arith)

-- Below a field, its announced children have their slots

pub inner-ready : {s a b : List ℕ} {from : Cursor} {slot : ℕ} (has : Bool) (elems count end : ℕ) → Ready s a from slot 1 → Kept a b → end ≤ length s
    → elems ≡ to_count has → elems + count ≤ max_slots - from.used
    → Ready s b (record { next = from.next + 1; used = from.used + (elems + count); at = end }) from.used (to_count has)
inner-ready has elems count end ready kept at marked room =
    let size = kept.size in
    record { sheet = ready.sheet; scratch = omega arith; at = at; used = omega arith; slots = omega arith; entries = omega arith }

pub behind-ready : {s a b c : List ℕ} {from behind : Cursor} {slot d : ℕ} (has : Bool) (elems count end : ℕ) → Ready s a from slot 1 → Kept a b → Kept b c
    → elems ≡ to_count has → elems + count ≤ max_slots - from.used
    → ItemsGood s b c d has from.used (record { next = from.next + 1; used = from.used + (elems + count); at = end }) behind
    → Ready s c behind (from.used + elems) count
behind-ready has elems count end ready kept more marked room one =
    let size = kept.size in
    let again = more.size in
    let moved = one.moved in
    record { sheet = ready.sheet; scratch = omega arith; at = moved.at; used = moved.room; slots = omega arith; entries = omega arith }

-- A slot put, then what lies below it

module _ (s : List ℕ) (from : Cursor) (h : FieldHead) (end elems : ℕ) (head : field_head (drop from.at s) ≡ some (h, drop end s))
    (marked : elems ≡ to_count h.has_items) (depth d : ℕ) (deeper : depth ≡ suc d) (room : elems + h.count ≤ max_slots - from.used)
    (slot : ℕ) (a b c e : List ℕ) (ready : Ready s a from slot 1) (name : Part) (named : h.name ≡ part_of s name) (put : SlotPut a b slot from.at from.next from.used name)
    (behind to : Cursor)
    (one : ItemsGood s b c d h.has_items from.used (record { next = from.next + 1; used = from.used + (elems + h.count); at = end }) behind)
    (many : MembersGood s c e d (from.used + elems) h.count behind to) where
  slot_kept : SlotKept b e slot
  slot_kept =
      slot_kept-more (one.others slot (omega arith) (omega arith)) (many.others slot (omega arith) (omega arith))

  field-others : OthersKept a e slot 1 from.used to.used
  field-others k p q =
      slot_kept-more (put.others k p (omega arith))
      (slot_kept-more (one.others k (λ x y. q (omega arith) (omega arith)) (λ x y. q (omega arith) (omega arith)))
      (many.others k (λ x y. q (omega arith) (omega arith)) (λ x y. q (omega arith) (omega arith))))

  field-indexed : FieldAt s e slot from.used h.name (field from.next h.kind h.is_open h.tag one.items many.members)
  field-indexed =
      let w : place_word e slot ≡ from.at * 4096 + from.next = slot_kept.place ∙ put.place in
      let p = slot-place (place_word e slot) from.at from.next (omega arith) w in
      let n : elements one.items ≡ elems = elements-marked one.items ∙ ap to_count one.marked ∙ sym marked in
      let m = many.counted in
      let kept = ItemsAt-kept s c e from.used (from.used + (elems + h.count)) one.items
      (λ j x y. many.others j (omega arith) (omega arith))
      (λ j x y. many.others j (omega arith) (omega arith))
      one.indexed in
      let low : from.used + (elems + h.count) + below_items one.items ≡ behind.used = omega arith in (
        p.0,
        head-at s h from.at end (place_word e slot / 4096) (has_items one.items) (count_of_members many.members) head p.1 one.marked m,
        rw (slot_kept.place, slot_kept.name, put.named, named),
        rw slot_kept.name put.child_at,
        rw (n, m) kept,
        rw (n, m, low) many.indexed,
      )

  pub field-good : FieldGood s a e depth slot from h.name to
  unfolding below
  field-good =
      record {
        f = field from.next h.kind h.is_open h.tag one.items many.members;
        reads = field-reads s from h end elems head marked depth d deeper room one.items many.members (ahead s behind) (ahead s to) one.reads many.reads;
        indexed = field-indexed;
        others = field-others;
        moved =
            let n : elements one.items ≡ elems = elements-marked one.items ∙ ap to_count one.marked ∙ sym marked in
            record {
              at = many.moved.at;
              used = omega arith;
              room = many.moved.room;
              entries = omega arith;
            };
      }
