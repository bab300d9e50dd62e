-- A whole sheet: how each way through its readers answers what the decoder does.
use Rattle.std.specs.Prelude.{Option as Optional, Some, None}
use Prim.Native.Nat.{ℕ, ◌+◌, ◌-◌, ◌≤◌, ◌<◌}
use mathlib.Core.List.{List}
use mathlib.Core.Option.{Option, none, some, map}
use mathlib.Core.Path.{◌≡◌, refl, ◌∙◌}
use native.Mathlib.Omega.{arith}
use lib.ListN.{length, drop, length-drop}
use borrow.Author.Tests.{lt-leb, le-leb, eq-eqb, ne_eqb}
use Rattle.text.specs.Reader.{◌>>=◌, ◌>>◌, and_then, pure, ensure}
use Rattle.sheet.specs.Entries.{HolderHead, SchemaHead, schema_head}
use Rattle.definition.specs.Tree as Tree
use Rattle.definition.specs.Limits.{max_sheet_bytes, max_field_nesting}
use Rattle.definition.specs.Within.{MembersRise, ArgumentsRise}
use Rattle.definition.proofs.RoundTrip.{schema-rises}
use Rattle.definition.specs.Decode.{entry, entered, announce, at_end, whole, members_of, field_in, holder_of, arguments_of, schema, decode_schema}
use Rattle.schema.specs.Index.{index_end, max_slots}
use Rattle.schema.specs.IndexLaws.{MembersAt-kept}
use Rattle.schema.specs.Kept.{Kept}
use Rattle.schema.specs.Fields.{ahead, Ready, MembersGood}
use Rattle.schema.specs.Slot.{HolderAt}
use Rattle.schema.specs.Read.{ArgumentsAt, SchemaGood, HolderPlaced, HolderGood, ArgumentsGood}
use Rattle.schema.specs.declared.field.Cursor.{Cursor}
use Rattle.schema.specs.declared.index.Holder.{Holder}
use Rattle.schema.proofs.Slots.{slot_kept-all}

-- The record or the arguments

module _ (s : List ℕ) (from : Cursor) (h : HolderHead) where
  pub holder-crowded : max_slots - from.used < h.count → holder_of h (ahead s from) ≡ none
  unfolding holder_of ◌>>=◌ ◌>>◌ and_then announce
  holder-crowded few = rw (lt-leb h.count (max_slots - from.used) few)

  module _ (room : h.count ≤ max_slots - from.used) where
    holder-rest : holder_of h (ahead s from)
        ≡ and_then (members_of h.count none (field_in max_field_nesting) (ahead s (record { next = from.next; used = from.used + h.count; at = from.at }))) λ members.
        pure (record { is_open = h.is_open; members = members })
    unfolding holder_of ◌>>=◌ ◌>>◌ and_then announce
    holder-rest =
        let left : max_slots - from.used - h.count ≡ max_slots - (from.used + h.count) = omega arith in
        rw (le-leb h.count (max_slots - from.used) room, left)

    pub holder-none : members_of h.count none (field_in max_field_nesting) (ahead s (record { next = from.next; used = from.used + h.count; at = from.at })) ≡ none
        → holder_of h (ahead s from) ≡ none
    unfolding and_then
    holder-none e = holder-rest ∙ rw e

    pub holder-good : (a b : List ℕ) (to : Cursor)
        → MembersGood s a b max_field_nesting from.used h.count (record { next = from.next; used = from.used + h.count; at = from.at }) to
        → HolderGood s a b h from (record { opened = h.is_open; first = from.used; count = h.count }) to
    unfolding and_then pure
    holder-good a b to good =
        let moved = good.moved in
        record {
          tree = record { is_open = h.is_open; members = good.members };
          reads = holder-rest ∙ rw good.reads;
          placed = refl;
          indexed = record { marked = refl; counted = good.counted; indexed = good.indexed; room = omega arith };
          others = λ k p q. good.others k (λ x y. q (omega arith) (omega arith)) (λ x y. q (omega arith) (omega arith));
          moved = record { at = moved.at; used = omega arith; room = moved.room; entries = omega arith };
        }

pub arguments-absent : (s a : List ℕ) (from : Cursor) (h : Option HolderHead) → h ≡ none → from.at ≤ length s → ArgumentsGood s a a h from None from
unfolding arguments_of pure
arguments-absent s a from h e at =
    rw e (record { tree = none; reads = refl; indexed = tt; others = λ k p q. slot_kept-all a k; within = at })

module _ (s : List ℕ) (from : Cursor) (h : Option HolderHead) (g : HolderHead) (e : h ≡ some g) where
  pub arguments-none : holder_of g (ahead s from) ≡ none → arguments_of h (ahead s from) ≡ none
  unfolding arguments_of ◌>>=◌ and_then
  arguments-none n = rw (e, n)

  pub arguments-good : (a b : List ℕ) (holder : Holder) (to : Cursor) → HolderGood s a b g from holder to → ArgumentsGood s a b h from (Some holder) to
  unfolding arguments_of ◌>>=◌ and_then pure
  arguments-good a b holder to good =
      rw e
      (record {
        tree = some good.tree;
        reads = rw good.reads;
        indexed = good.indexed;
        others = good.others;
        within = good.moved.at;
      })

-- in a well formed sheet names rise
holder-at : (s w : List ℕ) (h : Holder) (t : Tree.Holder) → HolderPlaced s w h t → MembersRise none t.members → HolderAt s w h t
holder-at s w h t p rises =
    record {
      marked = p.marked;
      counted = p.counted;
      low = h.first + h.count;
      indexed = p.indexed;
      rises = rises;
      slots = omega arith;
      room = omega arith;
    }

arguments-at : (s w : List ℕ) (a : Optional Holder) (t : Option Tree.Holder) → ArgumentsAt (HolderPlaced s w) a t → ArgumentsRise t → ArgumentsAt (HolderAt s w) a t
arguments-at s w None none p rises = tt
arguments-at s w None (some t) p rises = absurd p
arguments-at s w (Some h) none p rises = absurd p
arguments-at s w (Some h) (some t) p rises = holder-at s w h t p rises

-- The sheet

pub schema-long : (s : List ℕ) → max_sheet_bytes < length s → decode_schema s ≡ none
unfolding decode_schema whole ◌>>=◌ ◌>>◌ and_then ensure
schema-long s h = rw (lt-leb (length s) max_sheet_bytes h)

module _ (s : List ℕ) (short : length s ≤ max_sheet_bytes) where
  pub schema-headless : schema_head s ≡ none → decode_schema s ≡ none
  unfolding decode_schema whole schema ◌>>=◌ ◌>>◌ and_then ensure announce entry entered
  schema-headless e = rw (le-leb (length s) max_sheet_bytes short, e)

  module _ (h : SchemaHead) (end : ℕ) (head : schema_head s ≡ some (h, drop end s)) where
    pub schema-fieldless : holder_of h.fields (ahead s (record { next = 2; used = 0; at = end })) ≡ none → decode_schema s ≡ none
    unfolding decode_schema whole schema ◌>>=◌ ◌>>◌ and_then ensure announce entry entered
    schema-fieldless e = rw (le-leb (length s) max_sheet_bytes short, head, e)

    module _ (a b : List ℕ) (fields : Holder) (behind : Cursor) (one : HolderGood s a b h.fields (record { next = 2; used = 0; at = end }) fields behind) where
      pub schema-argumentless : arguments_of h.arguments (ahead s behind) ≡ none → decode_schema s ≡ none
      unfolding decode_schema whole schema ◌>>=◌ ◌>>◌ and_then ensure announce entry entered
      schema-argumentless e = rw (le-leb (length s) max_sheet_bytes short, head, one.reads, e)

      pub behind-ready : index_end ≤ length a → Kept a b → Ready s b behind 0 0
      behind-ready scratch kept =
          let size = kept.size in
          let moved = one.moved in
          record { sheet = short; scratch = omega arith; at = moved.at; used = moved.room; slots = omega arith; entries = omega arith }

      module _ (c : List ℕ) (arguments : Optional Holder) (to : Cursor) (other : ArgumentsGood s b c h.arguments behind arguments to) where
        schema-end : decode_schema s ≡ map (λ r. r.0) (and_then (at_end (ahead s to)) λ u. pure (record { fields = one.tree; arguments = other.tree }))
        unfolding decode_schema whole schema ◌>>=◌ ◌>>◌ and_then ensure announce entry entered pure
        schema-end = rw (le-leb (length s) max_sheet_bytes short, head, one.reads, other.reads)

        pub schema-unended : to.at < length s → decode_schema s ≡ none
        unfolding at_end ensure and_then
        schema-unended more =
            let n : length (drop to.at s) ≡ 0 → ⊥ = λ e. omega (arith, length-drop to.at s) in
            schema-end ∙ rw (ne_eqb (length (drop to.at s)) 0 n)

        pub schema-good : length s ≤ to.at → SchemaGood s c (record { fields = fields; arguments = arguments })
        unfolding at_end ensure and_then pure
        schema-good all =
            let n : length (drop to.at s) ≡ 0 = omega (arith, length-drop to.at s) in
            let moved = one.moved in
            let placed = one.placed in
            let at = one.indexed in
            let counted = at.counted in
            let tree : Tree.Schema = record { fields = one.tree; arguments = other.tree } in
            let reads : decode_schema s ≡ some tree = schema-end ∙ rw (eq-eqb (length (drop to.at s)) 0 n) in
            let rises = schema-rises s tree reads in
            let kept : HolderPlaced s c fields one.tree
            = record {
              marked = at.marked;
              counted = counted;
              indexed =
                  MembersAt-kept s b c fields.first (fields.first + fields.count) one.tree.members
                  (λ j x y. other.others j (omega arith) (omega arith))
                  (λ j x y. other.others j (omega arith) (omega arith)) at.indexed;
              room = at.room;
            } in
            record {
              tree = tree;
              reads = reads;
              indexed =
                  record {
                    fields = holder-at s c fields one.tree kept rises.0;
                    arguments = arguments-at s c arguments other.tree other.indexed rises.1;
                  };
            }
