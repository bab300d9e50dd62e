-- Laws of the index: what a change of other words leaves alone, and that it is the index of one tree only.
use Rattle.std.specs.Prelude.{ℕ, ◌+◌, List, [], ◌≡◌, refl}
use Rattle.std.proofs.lemmas.Bool.{false≢true}
use Rattle.std.proofs.Math.Option.{some-injective}
use Rattle.std.proofs.Common.{sym, ap, ◌∙◌, arith}
use Rattle.text.specs.Parts.{part_of}
use Rattle.sheet.specs.Entries.{FieldHead}
use Rattle.definition.specs.Tree.{Text, Field, field, Items, absent, element, Members, no_members, member}
use Rattle.definition.specs.Decode.{to_count}
use Rattle.definition.specs.Write.{has_items, count_of_members}
use Rattle.schema.specs.Index.{slot_name, elements, below, below_items, below_members, HeadAt, FieldAt, ItemsAt, MembersAt}
use Rattle.schema.specs.Kept.{SlotKept, SlotsKept}

mutual
  unfolding elements count_of_members below below_items below_members

  pub FieldAt-kept : (s a b : List ℕ) (k low : ℕ) (name : Text) (f : Field) → SlotKept a b k → SlotsKept a b low (below f) → FieldAt s a k low name f → FieldAt s b k low name f
  FieldAt-kept s a b k low name (field e kind o tag items ms) here there h = (
    rw here.place h.0,
    rw here.place h.1,
    rw (here.place, here.name) h.2,
    rw here.name h.3,
    ItemsAt-kept s a b low (low + (elements items + count_of_members ms)) items
        (λ j p q. there j (omega arith) (omega arith))
        (λ j p q. there j (omega arith) (omega arith)) h.4,
    MembersAt-kept s a b (low + elements items) (low + (elements items + count_of_members ms) + below_items items) ms
        (λ j p q. there j (omega arith) (omega arith))
        (λ j p q. there j (omega arith) (omega arith)) h.5,
  )

  pub ItemsAt-kept : (s a b : List ℕ) (k low : ℕ) (items : Items) → SlotsKept a b k (elements items) → SlotsKept a b low (below_items items) → ItemsAt s a k low items → ItemsAt s b k low items
  ItemsAt-kept s a b k low absent here there h = tt
  ItemsAt-kept s a b k low (element f) here there h =
      FieldAt-kept s a b k low [] f (here k (omega arith) (omega arith)) (λ j p q. there j p q) h

  pub MembersAt-kept : (s a b : List ℕ) (k low : ℕ) (members : Members) → SlotsKept a b k (count_of_members members) → SlotsKept a b low (below_members members) → MembersAt s a k low members → MembersAt s b k low members
  MembersAt-kept s a b k low no_members here there h = tt
  MembersAt-kept s a b k low (member name f others) here there h = (
    FieldAt-kept s a b k low name f (here k (omega arith) (omega arith)) (λ j p q. there j (omega arith) (omega arith)) h.0,
    MembersAt-kept s a b (k + 1) (low + below f) others
        (λ j p q. here j (omega arith) (omega arith))
        (λ j p q. there j (omega arith) (omega arith)) h.1,
  )

-- a slot's name is in its words
pub slot-named : (s w : List ℕ) (k low : ℕ) (name : Text) (f : Field) → FieldAt s w k low name f → part_of s (slot_name w k) ≡ name
slot-named s w k low name (field e kind o tag items ms) at = at.2

-- Whatever two trees have the same index are the same.

pub elements-marked : (items : Items) → elements items ≡ to_count (has_items items)
unfolding elements has_items to_count
elements-marked absent = refl
elements-marked (element f) = refl

pub record Same (low low' : ℕ) (name name' : Text) (f g : Field) : Type 0 where
  pub lows : low ≡ low'
  pub names : name ≡ name'
  pub fields : f ≡ g

pub head-unique : {s : List ℕ} {start : ℕ} {h h' : FieldHead} → HeadAt s start h → HeadAt s start h' → h ≡ h'
head-unique p q = ap (λ (r : FieldHead × List ℕ). r.0) (some-injective _ _ (sym p.reads ∙ q.reads))

mutual
  unfolding has_items count_of_members below below_items

  pub FieldAt-unique : (s w : List ℕ) (k low low' : ℕ) (name name' : Text) (f g : Field) → FieldAt s w k low name f → FieldAt s w k low' name' g → Same low low' name name' f g
  FieldAt-unique s w k low low' name name' (field e kind o tag items ms) (field e' kind' o' tag' items' members') p q =
      let h = head-unique p.1 q.1 in
      let l : low ≡ low' = sym p.3 ∙ q.3 in
      let has : has_items items ≡ has_items items' = ap (λ (h : FieldHead). h.has_items) h in
      let count : count_of_members ms ≡ count_of_members members' = ap (λ (h : FieldHead). h.count) h in
      let n : elements items ≡ elements items' = elements-marked items ∙ ap to_count has ∙ sym (elements-marked items') in
      let i : items ≡ items' = ItemsAt-unique s w low (low + (elements items + count_of_members ms)) items items' has p.4 (rw (l, n, count) q.4) in
      let b : below_items items ≡ below_items items' = ap below_items i in
      let m : ms ≡ members'
      = MembersAt-unique s w (low + elements items) (low + (elements items + count_of_members ms) + below_items items) ms members' count p.5 (rw (l, n, count, b) q.5) in
      record {
        lows = l;
        names = ap (λ (h : FieldHead). h.name) h;
        fields = cc (sym p.0 ∙ q.0, ap (λ (h : FieldHead). h.kind) h, ap (λ (h : FieldHead). h.is_open) h, ap (λ (h : FieldHead). h.tag) h);
      }

  pub ItemsAt-unique : (s w : List ℕ) (k low : ℕ) (items items' : Items) → has_items items ≡ has_items items' → ItemsAt s w k low items → ItemsAt s w k low items' → items ≡ items'
  ItemsAt-unique s w k low absent absent e p q = refl
  ItemsAt-unique s w k low absent (element g) e p q = absurd (false≢true e)
  ItemsAt-unique s w k low (element f) absent e p q = absurd (false≢true (sym e))
  ItemsAt-unique s w k low (element f) (element g) e p q = ap element (FieldAt-unique s w k low low [] [] f g p q).fields

  pub MembersAt-unique : (s w : List ℕ) (k low : ℕ) (ms ms' : Members) → count_of_members ms ≡ count_of_members ms' → MembersAt s w k low ms → MembersAt s w k low ms' → ms ≡ ms'
  MembersAt-unique s w k low no_members no_members e p q = refl
  MembersAt-unique s w k low no_members (member name g others) e p q = absurd (omega arith)
  MembersAt-unique s w k low (member name f others) no_members e p q = absurd (omega arith)
  MembersAt-unique s w k low (member name f others) (member name' g others') e p q =
      let r = FieldAt-unique s w k low low name name' f g p.0 q.0 in
      let o = MembersAt-unique s w (k + 1) (low + below f) others others' (omega arith) p.1 (rw r.fields q.1) in
      cc (r.names, r.fields, o)
