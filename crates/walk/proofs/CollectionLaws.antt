-- The path of an `in` value: one segment, and the element of what was reached.
use Rattle.std.specs.Prelude.{Option as Optional, Some, None, Result, Ok, Err}
use Prim.Native.Nat.{ℕ, ◌≤◌}
use mathlib.Core.Bool.{Bool, true, false}
use mathlib.Core.List.{List, []}
use mathlib.Core.Option.{Option, none}
use mathlib.Core.Path.{◌≡◌, refl, sym, ◌∙◌}
use borrow.Author.Tests.{ne_eqb}
use Rattle.definition.specs.Tree as Tree
use Rattle.definition.specs.Tree.{Text, Field, field, Items, absent, element, Members}
use Rattle.reference.specs.Path.{is_ordinal}
use Rattle.reference.specs.Walk.{refuse, free, lookup, member_step, item_step, field_step, Reached, refused, unknown, known, element_or, element_of_field, element_of}
use Rattle.schema.specs.Slot.{SlotHolds, HolderAt, ElementAt, FieldParts, PartsOf, IndexedIs}
use Rattle.schema.specs.Lookup.{FoundAt, LookedUp}
use Rattle.walk.specs.Answers.{collection_detail, FieldStepIs, CollectedIs}
use Rattle.walk.specs.Steps.{FieldSteps, DeclaredElement, ElementOfField, ElementIs}
use Rattle.schema.specs.declared.index.IndexedField.{IndexedField}
use Rattle.walk.specs.declared.answer.CollectionFault.{CollectionFault}
use Rattle.walk.specs.declared.answer.CollectionFault.TheVariants.{UnknownProperty, NoMember, NotACollection}

-- The step on the tree, by the field's kind

module _ (e k : ℕ) (o : Bool) (tag : Option Text) (items : Items) (members : Members) (s : List ℕ) where
  abbrev here : Field
  here = field e k o tag items members

  step-json : k ≡ 8 → field_step here s ≡ free
  unfolding field_step
  step-json q = rw q

  step-union : k ≡ 11 → field_step here s ≡ free
  unfolding field_step
  step-union q = rw q

  step-object : k ≡ 7 → field_step here s ≡ member_step (lookup s members) o 2
  unfolding field_step
  step-object q = rw q

  step-item : k ≡ 6 → is_ordinal s ≡ true → field_step here s ≡ item_step items
  unfolding field_step
  step-item q n = rw (q, n)

  step-no-ordinal : k ≡ 6 → is_ordinal s ≡ false → field_step here s ≡ refuse 3
  unfolding field_step
  step-no-ordinal q n = rw (q, n)

  step_other : (k ≡ 8 → ⊥) → (k ≡ 11 → ⊥) → (k ≡ 7 → ⊥) → (k ≡ 6 → ⊥) → field_step here s ≡ refuse 3
  unfolding field_step
  step_other a b c d = rw (ne_eqb k 8 a, ne_eqb k 11 b, ne_eqb k 7 c, ne_eqb k 6 d)

  element-many : (k ≡ 6) → element_of_field here ≡ element_or items
  unfolding element_of_field
  element-many q = rw q

  element-mapped : (k ≡ 10) → element_of_field here ≡ element_or items
  unfolding element_of_field
  element-mapped q = rw q

  element-no : (k ≡ 6 → ⊥) → (k ≡ 10 → ⊥) → element_of_field here ≡ refused 4 e []
  unfolding element_of_field
  element-no a b = rw (ne_eqb k 6 a, ne_eqb k 10 b)

-- The code's step, by the kind that the index gives

module _ (sheet words s : List ℕ) (x : IndexedField) where
  Ways : Result (Optional ℕ) CollectionFault → Type 0
  Ways r = (e k : ℕ) (o : Bool) (tag : Option Text) (items : Items) (members : Members) → FieldParts sheet words e k tag items (record { is_open = o; members = members }) x
      → FieldStepIs sheet words r (field_step (field e k o tag items members) s)

  each_way : (r : Result (Optional ℕ) CollectionFault) → Ways r → (f : Field) → PartsOf sheet words f x → FieldStepIs sheet words r (field_step f s)
  unfolding Ways
  each_way r way (field e k o tag items members) p = way e k o tag items members p

  pub field-json : x.kind ≡ 8 → FieldSteps sheet words x s (Ok None)
  unfolding Ways
  field-json q = record {
    leads = each_way (Ok None) λ e k o tag items members p. step-json e k o tag items members s (sym p.kinded ∙ q);
  }

  pub field-union : x.kind ≡ 11 → FieldSteps sheet words x s (Ok None)
  unfolding Ways
  field-union q = record {
    leads = each_way (Ok None) λ e k o tag items members p. step-union e k o tag items members s (sym p.kinded ∙ q);
  }

  module _ (found : Optional ℕ) (looked : LookedUp sheet words x.members s found) where
    missing : found ≡ None → (t : Tree.Holder) → HolderAt sheet words x.members t → lookup s t.members ≡ none
    missing e t at = rw e at (looked t at)

    found_at : (k : ℕ) → found ≡ Some k → (t : Tree.Holder) → HolderAt sheet words x.members t → FoundAt sheet words s t.members k
    found_at k e t at = rw e at (looked t at)

    pub field_open : x.kind ≡ 7 → found ≡ None → x.members.opened ≡ true → FieldSteps sheet words x s (Ok None)
    unfolding Ways member_step
    field_open q e mark = record {
      leads = each_way (Ok None) λ n k o tag items members p.
          rw (step-object n k o tag items members s (sym p.kinded ∙ q), missing e (record { is_open = o; members = members }) p.members, sym p.members.marked ∙ mark);
    }

    pub field-closed : x.kind ≡ 7 → found ≡ None → x.members.opened ≡ false → FieldSteps sheet words x s (Err UnknownProperty)
    unfolding Ways member_step collection_detail
    field-closed q e mark = record {
      leads = each_way (Err UnknownProperty) λ n k o tag items members p.
          rw (step-object n k o tag items members s (sym p.kinded ∙ q), missing e (record { is_open = o; members = members }) p.members, sym p.members.marked ∙ mark);
    }

    pub field-member : (slot : ℕ) → x.kind ≡ 7 → found ≡ Some slot → FieldSteps sheet words x s (Ok (Some slot))
    unfolding Ways member_step
    field-member slot q e = record {
      leads = each_way (Ok (Some slot)) λ n k o tag items members p.
          let at = found_at slot e (record { is_open = o; members = members }) p.members in
          (at.f, rw (step-object n k o tag items members s (sym p.kinded ∙ q), at.found), at.holds);
    }

  item-known : (slot : ℕ) (items : Items) → ElementAt sheet words (Some slot) items → FieldStepIs sheet words (Ok (Some slot)) (item_step items)
  unfolding item_step
  item-known slot absent h = absurd h
  item-known slot (element f) h = (f, refl, h)

  item-open : (items : Items) → ElementAt sheet words None items → item_step items ≡ free
  unfolding item_step
  item-open absent h = refl
  item-open (element f) h = absurd h

  pub field-item : (slot : ℕ) (b : Bool) → x.kind ≡ 6 → b ≡ is_ordinal s → b ≡ true → x.element ≡ Some slot → FieldSteps sheet words x s (Ok (Some slot))
  unfolding Ways
  field-item slot b q u v e = record {
    leads = each_way (Ok (Some slot)) λ n k o tag items members p.
        rw (step-item n k o tag items members s (sym p.kinded ∙ q) (sym u ∙ v)) (item-known slot items (rw e at p.elements));
  }

  pub field-any : (b : Bool) → x.kind ≡ 6 → b ≡ is_ordinal s → b ≡ true → x.element ≡ None → FieldSteps sheet words x s (Ok None)
  unfolding Ways
  field-any b q u v e = record {
    leads = each_way (Ok None) λ n k o tag items members p.
        step-item n k o tag items members s (sym p.kinded ∙ q) (sym u ∙ v) ∙ item-open items (rw e at p.elements);
  }

  pub field-no-ordinal : (b : Bool) → x.kind ≡ 6 → b ≡ is_ordinal s → b ≡ false → FieldSteps sheet words x s (Err NoMember)
  unfolding Ways collection_detail
  field-no-ordinal b q u v = record {
    leads = each_way (Err NoMember) λ n k o tag items members p.
        step-no-ordinal n k o tag items members s (sym p.kinded ∙ q) (sym u ∙ v);
  }

  pub field-other : (x.kind ≡ 8 → ⊥) → (x.kind ≡ 11 → ⊥) → (x.kind ≡ 7 → ⊥) → (x.kind ≡ 6 → ⊥) → FieldSteps sheet words x s (Err NoMember)
  unfolding Ways collection_detail
  field-other a b c d = record {
    leads = each_way (Err NoMember) λ n k o tag items members p.
        step_other n k o tag items members s (λ z. a (p.kinded ∙ z)) (λ z. b (p.kinded ∙ z)) (λ z. c (p.kinded ∙ z)) (λ z. d (p.kinded ∙ z));
  }

-- The element

declared_known : (sheet words : List ℕ) (k : ℕ) (items : Items) → ElementAt sheet words (Some k) items → CollectedIs sheet words (Ok (Some k)) (element_or items)
unfolding element_or
declared_known sheet words k absent h = absurd h
declared_known sheet words k (element f) h = (f, refl, h)

declared-open : (sheet words : List ℕ) (items : Items) → ElementAt sheet words None items → element_or items ≡ unknown
unfolding element_or
declared-open sheet words absent h = refl
declared-open sheet words (element f) h = absurd h

pub declared : (x : Optional ℕ) → DeclaredElement x (Ok x)
declared (Some k) = record { leads = λ sheet words items h. declared_known sheet words k items h }
declared None = record { leads = λ sheet words items h. declared-open sheet words items h }

module _ (sheet words : List ℕ) (k : ℕ) (x : IndexedField) (held : IndexedIs sheet words k x) where
  ElementWays : Result (Optional ℕ) (CollectionFault × ℕ) → Type 0
  ElementWays r = (n kind : ℕ) (o : Bool) (tag : Option Text) (items : Items) (members : Members) → FieldParts sheet words n kind tag items (record { is_open = o; members = members }) x
      → CollectedIs sheet words r (element_of_field (field n kind o tag items members))

  each-element : (r : Result (Optional ℕ) (CollectionFault × ℕ)) → ElementWays r → (f : Field) → PartsOf sheet words f x → CollectedIs sheet words r (element_of_field f)
  unfolding ElementWays
  each-element r way (field n kind o tag items members) p = way n kind o tag items members p

  pub element-array : (r : Result (Optional ℕ) (CollectionFault × ℕ)) → x.kind ≡ 6 → DeclaredElement x.element r → ElementOfField sheet words k r
  unfolding ElementWays
  element-array r q m = record {
    leads = λ f at. each-element r (λ n kind o tag items members p.
        rw (element-many n kind o tag items members [] (sym p.kinded ∙ q)) (m.leads sheet words items p.elements)) f (held f at);
  }

  pub element-map : (r : Result (Optional ℕ) (CollectionFault × ℕ)) → x.kind ≡ 10 → DeclaredElement x.element r → ElementOfField sheet words k r
  unfolding ElementWays
  element-map r q m = record {
    leads = λ f at. each-element r (λ n kind o tag items members p.
        rw (element-mapped n kind o tag items members [] (sym p.kinded ∙ q)) (m.leads sheet words items p.elements)) f (held f at);
  }

  pub element-other : (x.kind ≡ 6 → ⊥) → (x.kind ≡ 10 → ⊥) → ElementOfField sheet words k (Err (NotACollection, x.entry))
  unfolding ElementWays collection_detail
  element-other a b = record {
    leads = λ f at. each-element (Err (NotACollection, x.entry)) (λ n kind o tag items members p.
        (4, [], element-no n kind o tag items members [] (λ z. a (p.kinded ∙ z)) (λ z. b (p.kinded ∙ z)) ∙ rw p.numbered, λ small. refl)) f (held f at);
  }

still-refused : (x : Reached) (d at : ℕ) (left : List Text) → x ≡ refused d at left → element_of x ≡ refused d at left
unfolding element_of
still-refused x d at left e = rw e

module _ (sheet words : List ℕ) (c : Result (Optional ℕ) (CollectionFault × ℕ)) where
  pub of-known : (k : ℕ) (r : Result (Optional ℕ) (CollectionFault × ℕ)) → c ≡ Ok (Some k) → ElementOfField sheet words k r → ElementIs sheet words c r
  unfolding element_of
  of-known k r e m = record {
    leads = λ x h.
        let q : (f : Field) × (x ≡ known f) × SlotHolds sheet words k f = rw e at h in
        rw q.1 (m.leads q.0 q.2);
  }

  pub of-unknown : c ≡ (Ok None) → ElementIs sheet words c (Ok None)
  unfolding element_of
  of-unknown e = record {
    leads = λ x h.
        let q : x ≡ unknown = rw e at h in
        rw q;
  }

  pub of-refused : (fault : CollectionFault) (at : ℕ) → c ≡ Err (fault, at) → ElementIs sheet words c (Err (fault, at))
  of-refused fault at e = record {
    leads = λ x h.
        let q : (d : ℕ) × (left : List Text) × (x ≡ refused d at left) × (d ≤ 5 → d ≡ collection_detail fault) = rw e at h in
        (q.0, q.1, still-refused x q.0 at q.1 q.2, q.3);
  }
