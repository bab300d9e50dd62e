-- What the definition reads at a place, by the entry that the code read there.
use Prim.Native.Nat.{ℕ, zero, suc, ◌+◌, ◌-◌, ◌<◌}
use mathlib.Core.Bool.{true, false}
use mathlib.Core.List.{List}
use mathlib.Core.Option.{Option, none, some, none-ne-some, some-injective}
use mathlib.Core.Path.{◌≡◌, refl, sym, ap, ◌∙◌}
use native.Mathlib.Omega.{arith}
use lib.ListN.{drop}
use Rattle.text.specs.Reader.{Reader, ◌>>=◌, ◌>>◌, and_then, pure}
use Rattle.text.specs.ReaderLaws.{bind_inv, then-inv, bind-reads, pure-inv, ensure-inv, refuse-inv}
use Rattle.text.specs.ReaderLaws as Chain
use Rattle.text.specs.Parts.{part_of}
use Rattle.sheet.specs.Entries.{FieldHead, field_head}
use Rattle.sheet.specs.Places.{field_of, KnownTo, Unread}
use Rattle.sheet.specs.declared.schema_heads.FieldHead as Head
use Rattle.definition.specs.Tree.{Text, Field, Items, absent, element, Members, no_members, member}
use Rattle.definition.specs.Decode.{Ahead, entered, entry, element_of, members_of, field_in}
use Rattle.definition.proofs.TreeLaws.{announcing}
use Rattle.schema_change.specs.declared.place.Place.{Place}
use Rattle.schema_change.specs.declared.place.FieldEntry.{FieldEntry}
use Rattle.schema_change.specs.Places.{Arrived, Enters, behind_head, Reads}

-- Fields

pub entry-inv : (a : Ahead) (x : ℕ × FieldHead) (b : Ahead) → entry field_head a ≡ some (x, b) → (field_head a.rest ≡ some (x.1, b.rest)) × (b.next ≡ a.next + 1)
unfolding entry entered
entry-inv a x b e = by (field_head a.rest) refl e
  where
    by : (o : Option (FieldHead × List ℕ)) → field_head a.rest ≡ o → entered a.next a.left o ≡ some (x, b) → (field_head a.rest ≡ some (x.1, b.rest)) × (b.next ≡ a.next + 1)
    by none q e = absurd (none-ne-some _ e)
    by (some r) q e =
        let z = some-injective ((a.next, r.0), record { next = a.next + 1; left = a.left; rest = r.1 }) (x, b) e in
        (q ∙ ap (λ (y : (ℕ × FieldHead) × Ahead). some (y.0.1, y.1.rest)) z, sym (ap (λ (y : (ℕ × FieldHead) × Ahead). y.1.next) z))

headed : {B : Type 0} (k : ℕ × FieldHead → Reader Ahead B) (a : Ahead) (h : FieldHead) (rest : List ℕ) {z : B} {b : Ahead} → field_head a.rest ≡ some (h, rest)
    → Chain.Reads (entry field_head >>= k) a z b
    → Chain.Reads (k (a.next, h)) (record { next = a.next + 1; left = a.left; rest = rest }) z b
unfolding ◌>>=◌ and_then entry entered
headed k a h rest q e = rw q at e

pub field-none : (s : List ℕ) (p : Place) (a : Ahead) (depth : ℕ) {x : Text × Field} {b : Ahead} → Arrived s p a → Unread s p.at → field_in depth a ≡ some (x, b) → ⊥
unfolding field_in
field-none s p a zero at n e = refuse-inv _ e
field-none s p a (suc depth) at n e =
    bind_inv _ _ _ e λ x a₁ e₁ e.
    n x.1 a₁.rest (ap field_head at.rest ∙ (entry-inv a x a₁ e₁).0)

-- what is known is read
known-reads : (s : List ℕ) (at : ℕ) (h : Head.FieldHead) (next : ℕ) (g : FieldHead) (t : List ℕ) → KnownTo s at h next → field_head (drop at s) ≡ some (g, t)
    → field_head (drop at s) ≡ some (field_of s h, drop next s)
known-reads s at h next g t known e = let q = known.reads g t e in rw (q.0, q.1) e

-- a field that is read, by its head
pub record Behind (s : List ℕ) (x : FieldEntry) (depth : ℕ) (r : Text × Field) (b : Ahead) : Type 0 where
  pub named : r.0 ≡ part_of s x.head.name
  pub reads : Reads s x depth r.1 b

pub field-behind : (s : List ℕ) (p : Place) (x : FieldEntry) (a : Ahead) (depth : ℕ) (r : Text × Field) (b : Ahead) → Arrived s p a → Enters s p x → field_in depth a ≡ some (r, b)
    → Behind s x depth r b
unfolding field_in behind_head field_of pure
field-behind s p x a zero r b at h e = absurd (refuse-inv _ e)
field-behind s p x a (suc depth) r b at h e =
    bind_inv _ _ _ e λ y c e₀ _.
    let read = known-reads s p.at x.head x.next.at y.1 c.rest h.known (ap field_head at.rest ∙ (entry-inv a y c e₀).0) in
    announcing _ _ _ (headed _ a (field_of s x.head) (drop x.next.at s) (ap field_head (sym at.rest) ∙ read) e) λ a₁ m e.
    bind_inv _ _ _ e λ items a₂ e₂ e.
    bind_inv _ _ _ e λ members a₃ e₃ e.
    let q = pure-inv _ _ e in
    let number : x.number ≡ a.next = h.number ∙ at.next in
    let next = h.next in
    let same = at.next in
    let after = m.next in
    record {
      named = sym (ap (λ (y : Text × Field). y.0) q.0);
      reads =
          record {
            a = a₁;
            arrived = record { next = omega arith; rest = m.rest };
            reads = bind-reads _ _ e₂ (bind-reads _ _ e₃ (rw (number, ← q.0, ← q.1)));
          };
    }

-- An element

pub element-absent : (p : Reader Ahead (Text × Field)) (a : Ahead) {i : Items} {b : Ahead} → element_of false p a ≡ some (i, b) → (i ≡ absent) × (a ≡ b)
unfolding element_of
element-absent p a e = let q = pure-inv _ _ e in (sym q.0, q.1)

pub record Element (p : Reader Ahead (Text × Field)) (a : Ahead) (i : Items) (b : Ahead) : Type 0 where
  pub r : Text × Field
  pub reads : p a ≡ some (r, b)
  pub shape : i ≡ element r.1

pub element-inv : (p : Reader Ahead (Text × Field)) (a : Ahead) (i : Items) (b : Ahead) → element_of true p a ≡ some (i, b) → Element p a i b
unfolding element_of
element-inv p a i b e =
    bind_inv _ _ _ e λ r a₁ e₁ e.
    then-inv _ _ _ e λ _ a₂ e₂ e.
    let q = pure-inv _ _ e in
    let h = ensure-inv _ _ e₂ in
    record { r = r; reads = rw (← q.1, ← h.1) e₁; shape = sym q.0 }

-- Members

pub members-none : (n : ℕ) (before : Option Text) (p : Reader Ahead (Text × Field)) (a : Ahead) {m : Members} {b : Ahead} → n ≡ 0 → members_of n before p a ≡ some (m, b)
    → (m ≡ no_members) × (a ≡ b)
unfolding members_of
members-none zero before p a z e = let q = pure-inv _ _ e in (sym q.0, q.1)
members-none (suc n) before p a z e = absurd (omega arith)

pub record First (n : ℕ) (p : Reader Ahead (Text × Field)) (a : Ahead) (m : Members) (b : Ahead) : Type 0 where
  pub r : Text × Field
  pub behind : Ahead
  pub others : Members
  pub shape : m ≡ member r.0 r.1 others
  pub reads : p a ≡ some (r, behind)
  pub rest : members_of (n - 1) (some r.0) p behind ≡ some (others, b)

pub members-first : (n : ℕ) (before : Option Text) (p : Reader Ahead (Text × Field)) (a : Ahead) (m : Members) (b : Ahead) → 0 < n → members_of n before p a ≡ some (m, b) → First n p a m b
unfolding members_of
members-first zero before p a m b z e = absurd (omega arith)
members-first (suc n) before p a m b z e =
    bind_inv _ _ _ e λ r a₁ e₁ e.
    then-inv _ _ _ e λ _ a₂ e₂ e.
    bind_inv _ _ _ e λ others a₃ e₃ e.
    let q = pure-inv _ _ e in
    let h = ensure-inv _ _ e₂ in
    let less : suc n - 1 ≡ n = omega arith in
    record { r = r; behind = a₁; others = others; shape = sym q.0; reads = e₁; rest = rw (less, h.1, ← q.1) e₃ }
