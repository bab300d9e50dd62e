-- An element and siblings: how each way through their readers answers what the decoder does.
use Prim.Native.Nat.{ℕ, suc, ◌+◌, ◌-◌, ◌≤◌, ◌<◌}
use mathlib.Core.Bool.{Bool, true, false}
use mathlib.Core.List.{List, [], ◌∷◌}
use mathlib.Core.Option.{Option, none, some, some-injective, none-ne-some, some-ne-none}
use mathlib.Core.Path.{◌≡◌, refl, sym, ap, ◌∙◌}
use native.Mathlib.Omega.{arith}
use native.Mathlib.Nat.{add-zero}
use native.Mathlib.Numerals.{add-one}
use lib.ListN.{length}
use borrow.Author.Tests.{eq-eqb, ne_eqb}
use Rattle.text.specs.Reader.{Reader, ◌>>=◌, ◌>>◌, and_then, pure, ensure}
use Rattle.text.specs.Order.{follows}
use Rattle.text.specs.Parts.{part_of}
use Rattle.text.specs.declared.part.Part.{Part}
use Rattle.definition.specs.Tree.{Text, Field, absent, element, Members, no_members, member}
use Rattle.definition.specs.Decode.{Ahead, to_count, element_of, members_of, field_in}
use Rattle.definition.specs.Write.{has_items, count_of_members}
use Rattle.schema.specs.Index.{max_slots, slot_name, below, below_items, below_members, FieldAt, MembersAt}
use Rattle.schema.specs.IndexLaws.{MembersAt-kept, slot-named}
use Rattle.schema.specs.Kept.{Kept, OthersKept}
use Rattle.schema.specs.Fields.{ahead, name_before, Moved, FieldGood, ItemsGood, MembersGood}
use Rattle.schema.specs.declared.field.Cursor.{Cursor}
use Rattle.schema.proofs.Slots.{kept-all, kept_more, slot_kept-all, slot_kept-more}

-- The element

length-zero : (l : List ℕ) → length l ≡ 0 → l ≡ []
length-zero [] e = refl
length-zero (x ∷ l) e = absurd (omega arith)

pub element-absent : (s w : List ℕ) (depth : ℕ) (has : Bool) (slot : ℕ) (from : Cursor) → has ≡ false → from.at ≤ length s → from.used ≤ max_slots
    → ItemsGood s w w depth has slot from from
unfolding element_of pure has_items below_items to_count
element-absent s w depth has slot from e at used =
    rw e
    (record {
      items = absent;
      reads = refl;
      marked = refl;
      indexed = tt;
      others = λ k p q. slot_kept-all w k;
      moved = record { at = at; used = omega arith; room = used; entries = omega arith };
    })

pub element-none : (s : List ℕ) (depth : ℕ) (has : Bool) → has ≡ true → (from : Cursor) → field_in depth (ahead s from) ≡ none → element_of has (field_in depth) (ahead s from) ≡ none
unfolding element_of ◌>>=◌ and_then
element-none s depth has here from e = rw (here, e)

module _ (s a b : List ℕ) (depth : ℕ) (has : Bool) (here : has ≡ true) (slot : ℕ) (from : Cursor) (name : Text) (to : Cursor)
    (good : FieldGood s a b depth slot from name to) where
  pub element-named : (length name ≡ 0 → ⊥) → element_of has (field_in depth) (ahead s from) ≡ none
  unfolding element_of ◌>>=◌ ◌>>◌ and_then ensure
  element-named n = rw (here, good.reads, ne_eqb (length name) 0 n)

  pub element-good : length name ≡ 0 → ItemsGood s a b depth has slot from to
  unfolding element_of ◌>>=◌ ◌>>◌ and_then ensure pure has_items below_items to_count
  element-good n =
      rw here
      (record {
        items = element good.f;
        reads = rw (good.reads, eq-eqb (length name) 0 n);
        marked = refl;
        indexed = rw (← length-zero name n) good.indexed;
        others = good.others;
        moved = good.moved;
      })

-- One sibling, whatever its name

unfoldable alone : Option ((Text × Field) × Ahead) → Option (Members × Ahead)
alone none = none
alone (some r) = some (member r.0.0 r.0.1 no_members, r.1)

one-alone : (p : Reader Ahead (Text × Field)) (a : Ahead) (o : Option ((Text × Field) × Ahead)) → p a ≡ o → members_of 1 none p a ≡ alone o
unfolding members_of ◌>>=◌ ◌>>◌ and_then ensure pure follows alone
one-alone p a none e = rw e
one-alone p a (some r) e = rw e

pub one_none : (p : Reader Ahead (Text × Field)) (a : Ahead) → members_of 1 none p a ≡ none → p a ≡ none
unfolding alone
one_none p a e = go (p a) refl
  where
    go : (o : Option ((Text × Field) × Ahead)) → p a ≡ o → p a ≡ none
    go none q = q
    go (some r) q = absurd (some-ne-none _ (sym (one-alone p a (some r) q) ∙ e))

module _ (s a b : List ℕ) (depth slot : ℕ) (from to : Cursor) (good : MembersGood s a b depth slot 1 from to) where
  one_known : (name : Text) (f : Field) (rest : Ahead) → field_in depth (ahead s from) ≡ some ((name, f), rest)
      → good.members ≡ member name f no_members → rest ≡ ahead s to → FieldGood s a b depth slot from (part_of s (slot_name b slot)) to
  unfolding below_members
  one_known name f rest reads only last =
      let at : MembersAt s b slot from.used (member name f no_members) = rw only at good.indexed in
      let named = slot-named s b slot from.used name f at.0 in
      let moved : Moved s from to 1 (below_members (member name f no_members)) = rw only at good.moved in
      record {
        f = f;
        reads = rw (named, ← last) reads;
        indexed = rw named at.0;
        others = good.others;
        moved = record { at = moved.at; used = omega arith; room = moved.room; entries = omega arith };
      }

  pub one-good : FieldGood s a b depth slot from (part_of s (slot_name b slot)) to
  unfolding alone
  one-good = go (field_in depth (ahead s from)) refl
    where
      go : (o : Option ((Text × Field) × Ahead)) → field_in depth (ahead s from) ≡ o → FieldGood s a b depth slot from (part_of s (slot_name b slot)) to
      go none e = absurd (none-ne-some _ (sym (one-alone (field_in depth) (ahead s from) none e) ∙ good.reads))
      go (some r) e =
          let same = some-injective _ _ (sym good.reads ∙ one-alone (field_in depth) (ahead s from) (some r) e) in
          one_known r.0.0 r.0.1 r.1 e (ap (λ (x : Members × Ahead). x.0) same) (sym (ap (λ (x : Members × Ahead). x.1) same))

-- Siblings

-- the siblings read so far, and the others
unfoldable pub joined : Members → Members → Members
joined no_members others = others
joined (member name f done) others = member name f (joined done others)

-- what the whole reads, once the rest is known
unfoldable pub resumed : Members → Option (Members × Ahead) → Option (Members × Ahead)
resumed done none = none
resumed done (some r) = some (joined done r.0, r.1)

joined-none : (done : Members) → joined done no_members ≡ done
unfolding joined
joined-none no_members = refl
joined-none (member name f done) = rw (joined-none done)

joined-more : (done : Members) (name : Text) (f : Field) (others : Members) → joined (joined done (member name f no_members)) others ≡ joined done (member name f others)
unfolding joined
joined-more no_members name f others = refl
joined-more (member n g done) name f others = rw (joined-more done name f others)

resumed-none : (o : Option (Members × Ahead)) → o ≡ resumed no_members o
unfolding resumed joined
resumed-none none = refl
resumed-none (some r) = refl

resumed-more : (done : Members) (name : Text) (f : Field) (o : Option (Members × Ahead))
    → resumed done (and_then o (λ others. pure (member name f others))) ≡ resumed (joined done (member name f no_members)) o
unfolding resumed and_then pure
resumed-more done name f none = refl
resumed-more done name f (some r) = rw (joined-more done name f r.0)

count_of_members-joined : (done : Members) (name : Text) (f : Field) → count_of_members (joined done (member name f no_members)) ≡ count_of_members done + 1
unfolding joined count_of_members
count_of_members-joined no_members name f = refl
count_of_members-joined (member n g done) name f = rw (count_of_members-joined done name f)

below_members-joined : (done : Members) (name : Text) (f : Field) → below_members (joined done (member name f no_members)) ≡ below_members done + below f
unfolding joined below_members
below_members-joined no_members name f = omega arith
below_members-joined (member n g done) name f = rw (below_members-joined done name f) (omega arith)

MembersAt-joined : (s w : List ℕ) (k low : ℕ) (done : Members) (name : Text) (f : Field) → MembersAt s w k low done
    → FieldAt s w (k + count_of_members done) (low + below_members done) name f → MembersAt s w k low (joined done (member name f no_members))
unfolding joined count_of_members below_members
MembersAt-joined s w k low no_members name f h g = (rw (add-zero k, add-zero low) at g, tt)
MembersAt-joined s w k low (member n e done) name f h g =
    let p : k + (count_of_members done + 1) ≡ k + 1 + count_of_members done = omega arith in
    let q : low + (below e + below_members done) ≡ low + below e + below_members done = omega arith in
    (h.0, MembersAt-joined s w (k + 1) (low + below e) done name f h.1 (rw (p, q) at g))

name_before-more : (s : List ℕ) (i : ℕ) (p : Part) → name_before s (i + 1) p ≡ some (part_of s p)
unfolding name_before
name_before-more s i p = rw (add-one i)

-- `i` siblings were read, from `from` up to `to`; the last name is at `before`
pub record Sofar (s a b : List ℕ) (depth first count : ℕ) (from to : Cursor) (before : Part) (i : ℕ) : Type 0 where
  pub done : Members
  pub within : i ≤ count
  pub kept : Kept a b
  pub reads : members_of count none (field_in depth) (ahead s from) ≡ resumed done (members_of (count - i) (name_before s i before) (field_in depth) (ahead s to))
  pub counted : count_of_members done ≡ i
  pub indexed : MembersAt s b first from.used done
  pub others : OthersKept a b first i from.used to.used
  pub moved : Moved s from to i (below_members done)

pub sofar-none : (s a : List ℕ) (depth first count : ℕ) (from : Cursor) (before : Part) → from.at ≤ length s → from.used ≤ max_slots
    → Sofar s a a depth first count from from before 0
unfolding name_before count_of_members below_members
sofar-none s a depth first count from before at used =
    let e : count - 0 ≡ count = omega arith in
    record {
      done = no_members;
      within = omega arith;
      kept = kept-all a;
      reads = rw e (resumed-none (members_of count none (field_in depth) (ahead s from)));
      counted = refl;
      indexed = tt;
      others = λ k p q. slot_kept-all a k;
      moved = record { at = at; used = omega arith; room = used; entries = omega arith };
    }

module _ (s a b : List ℕ) (depth first count : ℕ) (from to : Cursor) (before : Part) (i : ℕ) (sofar : Sofar s a b depth first count from to before i) where
  pub sofar-all : count ≤ i → MembersGood s a b depth first count from to
  unfolding members_of pure resumed
  sofar-all h =
      let e : count - i ≡ 0 = omega arith in
      let n : i ≡ count = omega arith in
      record {
        members = sofar.done;
        reads = sofar.reads ∙ rw (e, joined-none sofar.done);
        counted = sofar.counted ∙ n;
        indexed = sofar.indexed;
        others = rw (← n) sofar.others;
        moved = rw (← n) sofar.moved;
      }

  module _ (more : i < count) where
    pub sofar-bad : field_in depth (ahead s to) ≡ none → members_of count none (field_in depth) (ahead s from) ≡ none
    unfolding members_of ◌>>=◌ and_then resumed
    sofar-bad e =
        let q : count - i ≡ suc (count - (i + 1)) = omega arith in
        sofar.reads ∙ rw (q, e)

    module _ (c : List ℕ) (name : Part) (behind : Cursor) (good : FieldGood s b c depth (first + i) to (part_of s name) behind) where
      pub sofar-fallen : follows (name_before s i before) (part_of s name) ≡ false → members_of count none (field_in depth) (ahead s from) ≡ none
      unfolding members_of ◌>>=◌ ◌>>◌ and_then ensure resumed
      sofar-fallen e =
          let q : count - i ≡ suc (count - (i + 1)) = omega arith in
          sofar.reads ∙ rw (q, good.reads, e)

      sofar-reads : follows (name_before s i before) (part_of s name) ≡ true
          → members_of (count - i) (name_before s i before) (field_in depth) (ahead s to)
          ≡ and_then (members_of (count - (i + 1)) (some (part_of s name)) (field_in depth) (ahead s behind)) λ others. pure (member (part_of s name) good.f others)
      unfolding members_of ◌>>=◌ ◌>>◌ and_then ensure
      sofar-reads e =
          let q : count - i ≡ suc (count - (i + 1)) = omega arith in
          rw (q, good.reads, e)

      pub sofar-more : first + count ≤ from.used → Kept b c → follows (name_before s i before) (part_of s name) ≡ true
          → Sofar s a c depth first count from behind name (i + 1)
      sofar-more free kept e =
          let o = members_of (count - (i + 1)) (some (part_of s name)) (field_in depth) (ahead s behind) in
          let done = sofar.done in
          let f = good.f in
          let n = count_of_members-joined done (part_of s name) f in
          let l = below_members-joined done (part_of s name) f in
          let k = sofar.counted in
          let u : from.used + below_members done ≡ to.used = omega arith in
          record {
            done = joined done (member (part_of s name) f no_members);
            within = omega arith;
            kept = kept_more sofar.kept kept;
            reads = rw (name_before-more s i name) (sofar.reads ∙ ap (resumed done) (sofar-reads e) ∙ resumed-more done (part_of s name) f o);
            counted = omega arith;
            indexed = MembersAt-joined s c first from.used done (part_of s name) f (MembersAt-kept s b c first from.used done (λ j x y. good.others j (omega arith) (omega arith)) (λ j x y. good.others j (omega arith) (omega arith)) sofar.indexed) (rw (k, u) good.indexed);
            others = λ j p q. slot_kept-more (sofar.others j (λ x y. p (omega arith) (omega arith)) (λ x y. q (omega arith) (omega arith)))
                (good.others j (λ x y. p (omega arith) (omega arith)) (λ x y. q (omega arith) (omega arith)));
            moved = record { at = good.moved.at; used = omega arith; room = good.moved.room; entries = omega arith };
          }
