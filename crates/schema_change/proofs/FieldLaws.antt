-- Fields and elements side by side: what each way through the code finds, and where it arrives.
use Rattle.std.specs.Prelude.{Option, Some, None}
use Prim.Native.Nat.{ℕ, zero, suc, ◌-◌}
use mathlib.Core.Bool.{Bool, true, false}
use mathlib.Core.List.{List, ◌++◌}
use mathlib.Core.Option.{none, some}
use mathlib.Core.Path.{◌≡◌, refl, sym, ◌∙◌}
use native.Mathlib.Omega.{arith}
use Rattle.text.specs.ReaderLaws.{bind_inv, pure-inv, refuse-inv}
use Rattle.text.specs.Parts.{optional_of}
use Rattle.sheet.specs.Places.{field_of}
use Rattle.definition.specs.Tree.{Field, field, Items, absent, element, Members}
use Rattle.definition.specs.Decode.{Ahead, element_of, members_of, field_in}
use Rattle.definition.proofs.FieldLaws.{items-law, field-law}
use Rattle.definition.specs.Write.{has_items}
use Rattle.widening.specs.Decision.{field_differences, items_differences, members_differences}
use Rattle.reference.specs.Walk.{entry_of}
use Rattle.schema_change.specs.declared.answer.Change.{Change}
use Rattle.schema_change.specs.declared.place.Place.{Place}
use Rattle.schema_change.specs.declared.place.FieldEntry.{FieldEntry}
use Rattle.schema_change.specs.declared.field.Going.{Going}
use Rattle.schema_change.specs.Answers.{Goes, is_open_yet}
use Rattle.schema_change.specs.Places.{Within, Arrived, Enters, EnteredIs, behind_head, Reads}
use Rattle.schema_change.specs.Entries.{entry_differences}
use Rattle.schema_change.specs.Fields.{Ends, FieldsGo, ElementsGo, MembersGo}
use Rattle.schema_change.proofs.Joins.{goes-both, goes-nothing, goes-closed, open-or-closed}
use Rattle.schema_change.proofs.EntryLaws.{entries-own, entries-marked}
use Rattle.schema_change.proofs.Behind.{field-none, field-behind, element-absent, element-inv}

-- Elements

nothing-found : (first second : List ℕ) {x y : Place} {a a' b b' : Ahead} {found : Change} (items items' : Items) → Arrived first x a → Arrived second y a'
    → (items ≡ absent) × (a ≡ b) → (items' ≡ absent) × (a' ≡ b')
    → Ends first b second b' found (items_differences items items') (record { found = found; x = x; y = y })
unfolding items_differences
nothing-found first second items items' at at' e e' =
    rw (e.0, ← e.1, ← e'.1) (record { goes = goes-nothing; at = record { first-at = λ o. at; second_at = λ o. at' } })

module _ {first second : List ℕ} {x y : Place} {has : Bool} {depth : ℕ} {found : Change} (w : Within first x) (w' : Within second y) where
  pub elements-absent : has ≡ false → ElementsGo first x second y has depth found (record { found = found; x = x; y = y })
  elements-absent n =
      record {
        first-within = w;
        second-within = w';
        go = λ a a' items items' b b' at at' e e'.
            nothing-found first second items items' at at' (element-absent (field_in depth) a (rw n at e)) (element-absent (field_in depth) a' (rw n at e'));
      }

  pub elements-first : {e₁ : Option FieldEntry} → has ≡ true → EnteredIs first x e₁ → e₁ ≡ None → ElementsGo first x second y has depth found (record { found = found; x = x; y = y })
  elements-first n entered q =
      record {
        first-within = w;
        second-within = w';
        go = λ a a' items items' b b' at at' e e'.
            let i = element-inv (field_in depth) a items b (rw n at e) in
            absurd (field-none first x a depth at (rw q at entered) i.reads);
      }

  pub elements-second : {e₂ : Option FieldEntry} → has ≡ true → EnteredIs second y e₂ → e₂ ≡ None → ElementsGo first x second y has depth found (record { found = found; x = x; y = y })
  elements-second n entered q =
      record {
        first-within = w;
        second-within = w';
        go = λ a a' items items' b b' at at' e e'.
            let i = element-inv (field_in depth) a' items' b' (rw n at e') in
            absurd (field-none second y a' depth at' (rw q at entered) i.reads);
      }

  pub elements-both : {e₁ e₂ : Option FieldEntry} {g h : FieldEntry} {r : Going} → has ≡ true → EnteredIs first x e₁ → e₁ ≡ Some g → EnteredIs second y e₂ → e₂ ≡ Some h → FieldsGo first g second h depth found r
      → ElementsGo first x second y has depth found r
  unfolding items_differences
  elements-both {g = g} {h = h} n entered q entered' q' fields =
      let enters : Enters first x g = rw q at entered in
      let enters' : Enters second y h = rw q' at entered' in
      record {
        first-within = fields.first-within;
        second-within = fields.second-within;
        go = λ a a' items items' b b' at at' e e'.
            let i = element-inv (field_in depth) a items b (rw n at e) in
            let i' = element-inv (field_in depth) a' items' b' (rw n at e') in
            let f = field-behind first x g a depth i.r b at enters i.reads in
            let f' = field-behind second y h a' depth i'.r b' at' enters' i'.reads in
            rw (i.shape, i'.shape) (fields.go i.r.1 i'.r.1 b b' f.reads f'.reads);
      }

-- Fields

-- a field taken apart: its element, then its members
record Parts (s : List ℕ) (x : FieldEntry) (depth : ℕ) (f : Field) (a b : Ahead) : Type 0 where
  pub items : Items
  pub members : Members
  pub between : Ahead
  pub element-reads : element_of x.head.items (field_in depth) a ≡ some (items, between)
  pub members-read : members_of x.head.count none (field_in depth) between ≡ some (members, b)
  pub shape : f ≡ field x.number x.head.kind x.head.opened (optional_of s x.head.tag) items members

parts : (s : List ℕ) (x : FieldEntry) (depth : ℕ) (f : Field) (b : Ahead) → (depth ≡ 0 → ⊥) → (r : Reads s x depth f b) → Parts s x (depth - 1) f r.a b
unfolding behind_head field_of
parts s x zero f b n r = absurd (n refl)
parts s x (suc depth) f b n r =
    let less : suc depth - 1 ≡ depth = omega arith in
    bind_inv _ _ _ r.reads λ items a₁ e₁ e.
    bind_inv _ _ _ e λ members a₂ e₂ e.
    let q = pure-inv _ _ e in
    record { items = items; members = members; between = a₁; element-reads = rw less e₁; members-read = rw (less, ← q.1) e₂; shape = sym q.0 }

pub entry_read : (s : List ℕ) (x : FieldEntry) (depth : ℕ) (f : Field) (b : Ahead) → Reads s x depth f b → entry_of f ≡ x.number
unfolding behind_head entry_of
entry_read s x zero f b r = absurd (refuse-inv _ r.reads)
entry_read s x (suc depth) f b r =
    let p = parts s x (suc depth) f b (λ z. omega arith) r in
    rw p.shape

marked : (depth : ℕ) (has : Bool) (a b : Ahead) (items : Items) → element_of has (field_in depth) a ≡ some (items, b) → has_items items ≡ has
marked depth has a b items e = ((items-law depth (field_in depth) (field-law depth) has).sound a items b e).1.mark

module _ {first second : List ℕ} {x y : FieldEntry} {depth : ℕ} {found own : Change} (w : Within first x.next) (w' : Within second y.next) where
  pub fields-deep : depth ≡ 0 → FieldsGo first x second y depth found (record { found = own; x = x.next; y = y.next })
  unfolding behind_head
  fields-deep z =
      record {
        first-within = w;
        second-within = w';
        go = λ f f' b b' r r'. absurd (refuse-inv r.a (rw z at r.reads));
      }

  module _ (n : depth ≡ 0 → ⊥) (e : Goes found (entry_differences first x second y) own) where
    -- what the entries say, then the elements, then the members
    in-order : (f f' : Field) {a a' b b' : Ahead} (p : Parts first x (depth - 1) f a b) (q : Parts second y (depth - 1) f' a' b')
        → field_differences f f' ≡ entry_differences first x second y ++ (items_differences p.items q.items ++ members_differences x.head.opened p.members q.members)
    unfolding field_differences
    in-order f f' p q =
        rw (
          p.shape,
          q.shape,
          entries-own first second x y p.items q.items p.members q.members
              (marked (depth - 1) x.head.items _ p.between p.items p.element-reads)
              (marked (depth - 1) y.head.items _ q.between q.items q.element-reads),
        )

    pub fields-closed : {c : Bool} → c ≡ is_open_yet own → c ≡ false → FieldsGo first x second y depth found (record { found = own; x = x.next; y = y.next })
    fields-closed test left =
        let c = sym test ∙ left in
        record {
          first-within = w;
          second-within = w';
          go = λ f f' b b' r r'.
              record {
                goes = rw (in-order f f' (parts first x depth f b n r) (parts second y depth f' b' n r')) (goes-both e (goes-closed own _ c));
                at = record { first-at = λ o. absurd (open-or-closed o c); second_at = λ o. absurd (open-or-closed o c) };
              };
        }

    pub fields_go : {c : Bool} {below r : Going} → c ≡ is_open_yet own → c ≡ true
        → ElementsGo first x.next second y.next x.head.items (depth - 1) own below
        → MembersGo first (record { opened = x.head.opened; count = x.head.count }) second (record { opened = y.head.opened; count = y.head.count }) (depth - 1) below r
        → FieldsGo first x second y depth found r
    fields_go test taken elements members =
        let o = sym test ∙ taken in
        record {
          first-within = members.first-within;
          second-within = members.second-within;
          go = λ f f' b b' r r'.
              let p = parts first x depth f b n r in
              let q = parts second y depth f' b' n r' in
              let same = entries-marked first second x y e o in
              let i = elements.go r.a r'.a p.items q.items p.between q.between r.arrived r'.arrived p.element-reads (rw same q.element-reads) in
              let m = members.go none none p.between q.between p.members q.members b b' i.at p.members-read q.members-read in
              record { goes = rw (in-order f f' p q) (goes-both e (goes-both i.goes m.goes)); at = m.at };
        }
