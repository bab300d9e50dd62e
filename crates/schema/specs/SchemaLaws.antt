-- The index of a schema stays what it is while its own words do, whatever is written elsewhere in the scratch.
use Rattle.std.specs.Prelude.{ℕ, ◌+◌, ◌*◌, ◌≤◌, ◌<◌, List, ◌≡◌, get_or, Option as Optional, Some, None}
use Rattle.std.proofs.Math.Option.{Option, none, some}
use Rattle.std.proofs.Common.{arith}
use Rattle.definition.specs.Tree as Tree
use Rattle.schema.specs.Index.{first_word, index_end, max_slots}
use Rattle.schema.specs.Kept.{SlotKept}
use Rattle.schema.specs.IndexLaws.{MembersAt-kept}
use Rattle.schema.specs.Slot.{HolderAt}
use Rattle.schema.specs.Read.{ArgumentsAt, SchemaAt}
use Rattle.schema.specs.declared.index.Holder.{Holder}
use Rattle.schema.specs.declared.read.Schema.{Schema}

abbrev pub IndexKept : (before after : List ℕ) → Type 0
IndexKept before after = (i : ℕ) → first_word ≤ i → i < index_end → get_or after i 0 ≡ get_or before i 0

module _ (s a b : List ℕ) (kept : IndexKept a b) where
  slot_kept : (k : ℕ) → k < max_slots → SlotKept a b k
  slot_kept k h =
      record {
        place = kept (first_word + 2 * k) (omega arith) (omega arith);
        name = kept (first_word + 2 * k + 1) (omega arith) (omega arith);
      }

  pub HolderAt-kept : (h : Holder) (t : Tree.Holder) → HolderAt s a h t → HolderAt s b h t
  HolderAt-kept h t at =
      let counted = at.counted in
      let slots = at.slots in
      let room = at.room in
      record {
        marked = at.marked;
        counted = counted;
        low = at.low;
        indexed =
            MembersAt-kept s a b h.first at.low t.members
            (λ j p q. slot_kept j (omega arith)) (λ j p q. slot_kept j (omega arith)) at.indexed;
        rises = at.rises;
        slots = slots;
        room = room;
      }

  ArgumentsAt-kept : (r : Optional Holder) (t : Option Tree.Holder) → ArgumentsAt (HolderAt s a) r t → ArgumentsAt (HolderAt s b) r t
  ArgumentsAt-kept None none at = tt
  ArgumentsAt-kept None (some t) at = absurd at
  ArgumentsAt-kept (Some h) none at = absurd at
  ArgumentsAt-kept (Some h) (some t) at = HolderAt-kept h t at

  pub SchemaAt-kept : (r : Schema) (t : Tree.Schema) → SchemaAt s a r t → SchemaAt s b r t
  SchemaAt-kept r t at =
      record {
        fields = HolderAt-kept r.fields t.fields at.fields;
        arguments = ArgumentsAt-kept r.arguments t.arguments at.arguments;
      }
