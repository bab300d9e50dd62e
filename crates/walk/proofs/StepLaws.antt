-- One segment: how each way through the code answers what the step on the tree is.
use Rattle.std.specs.Prelude.{Option as Optional, Some, None}
use Prim.Native.Nat.{ℕ}
use mathlib.Core.Bool.{Bool, true, false, cond}
use mathlib.Core.List.{List, [], ◌∷◌}
use mathlib.Core.Option.{Option, none}
use mathlib.Core.Path.{◌≡◌, refl, sym, ◌∙◌}
use lib.Dec.{eqb}
use lib.ListN.{length}
use borrow.Author.Tests.{ne_eqb}
use Rattle.text.specs.Ascii.{ascii}
use Rattle.text.specs.Order.{same_bytes}
use Rattle.text.specs.Parts.{part_of, optional_of}
use Rattle.text.specs.declared.part.Part.{Part}
use Rattle.definition.specs.Tree as Tree
use Rattle.definition.specs.Tree.{Text, Field, field, Items, absent, element, Members}
use Rattle.reference.specs.Path.{is_count, is_ordinal}
use Rattle.reference.specs.Setting.{Reader}
use Rattle.reference.specs.Walk.{refuse, free, lookup, member_step, item_step, is_empty, array_step, map_step, is_tag, content_key, union_step, text_count, array_field, map_field, string_field, union_field, other_field, form_of_kind, walk_into, walk_step}
use Rattle.schema.specs.Slot.{HolderAt, ElementAt, FieldParts, PartsOf}
use Rattle.schema.specs.Lookup.{FoundAt, LookedUp}
use Rattle.walk.specs.DotLaws.{segment-empty, segment-full}
use Rattle.walk.specs.Answers.{reader_is, reference_detail, StepIs}
use Rattle.walk.specs.Steps.{ItemSteps, ArraySteps, MapSteps, UnionSteps, MemberSteps, TextSteps, scalar_step, ScalarSteps, ServiceSteps, WalkSteps}
use Rattle.schema.specs.declared.index.Holder.{Holder}
use Rattle.schema.specs.declared.index.IndexedField.{IndexedField}
use Rattle.walk.specs.declared.answer.Reader as Code
use Rattle.walk.specs.declared.answer.Reader.TheVariants.{Kernel, Projection}
use Rattle.walk.specs.declared.answer.ReferenceFault.TheVariants.{EmptyPath, UnknownProperty, ArrayMember, MapMember, AfterCount, AfterTag, UnionMember, NoCount, NoMember, TextCount}
use Rattle.walk.specs.declared.answer.WalkStep.{WalkStep}
use Rattle.walk.specs.declared.answer.WalkStep.TheVariants.{Refuse, Leaf, Free, Into}

-- Texts

pub count-spelt : (r : Bool) (s : List ℕ) → r ≡ same_bytes s (99 ∷ 111 ∷ 117 ∷ 110 ∷ 116 ∷ []) → r ≡ is_count s
unfolding is_count ascii
count-spelt r s e = e

-- The element of an array

item-known : (sheet words : List ℕ) (k : ℕ) (items : Items) → ElementAt sheet words (Some k) items → StepIs sheet words (Into k) (item_step items)
unfolding item_step
item-known sheet words k absent h = absurd h
item-known sheet words k (element f) h = (f, refl, h)

item-open : (sheet words : List ℕ) (items : Items) → ElementAt sheet words None items → item_step items ≡ free
unfolding item_step
item-open sheet words absent h = refl
item-open sheet words (element f) h = absurd h

pub item-into : (x : Optional ℕ) (k : ℕ) → x ≡ Some k → ItemSteps x (Into k)
item-into x k e = rw e (record { leads = λ sheet words items h. item-known sheet words k items h })

pub item-free : (x : Optional ℕ) → x ≡ None → ItemSteps x Free
item-free x e = rw e (record { leads = λ sheet words items h. item-open sheet words items h })

pub array_count : (x : Optional ℕ) (s : List ℕ) (b : Bool) → b ≡ is_count s → b ≡ true → ArraySteps x s (Leaf AfterCount)
unfolding array_step reference_detail
array_count x s b p q = record { leads = λ sheet words items h. rw (sym p ∙ q) }

pub array-item : (x : Optional ℕ) (s : List ℕ) (r : WalkStep) (b o : Bool) → b ≡ is_count s → b ≡ false → o ≡ is_ordinal s → o ≡ true → ItemSteps x r → ArraySteps x s r
unfolding array_step
array-item x s r b o p q u v m =
    record { leads = λ sheet words items h. rw (sym p ∙ q, sym u ∙ v) (m.leads sheet words items h) }

pub array-other : (x : Optional ℕ) (s : List ℕ) (b o : Bool) → b ≡ is_count s → b ≡ false → o ≡ is_ordinal s → o ≡ false → ArraySteps x s (Refuse ArrayMember)
unfolding array_step reference_detail
array-other x s b o p q u v = record { leads = λ sheet words items h. rw (sym p ∙ q, sym u ∙ v) }

pub map-count : (s : List ℕ) (b : Bool) → b ≡ is_count s → b ≡ true → MapSteps s (Leaf AfterCount)
unfolding map_step reference_detail
map-count s b p q = record { leads = λ sheet words. rw (sym p ∙ q) }

pub map_other : (s : List ℕ) (b : Bool) → b ≡ is_count s → b ≡ false → MapSteps s (Refuse MapMember)
unfolding map_step reference_detail
map_other s b p q = record { leads = λ sheet words. rw (sym p ∙ q) }

-- A union

pub tag_same : (sheet s n : List ℕ) (tag : Optional Part) (p : Part) (r : Bool) → tag ≡ Some p → n ≡ part_of sheet p → r ≡ same_bytes n s → r ≡ is_tag (optional_of sheet tag) s
unfolding is_tag optional_of
tag_same sheet s n tag p r e q h = rw (e, ← q) h

pub tag-none : (sheet s : List ℕ) (tag : Optional Part) → tag ≡ None → false ≡ is_tag (optional_of sheet tag) s
unfolding is_tag optional_of
tag-none sheet s tag e = rw e

pub content-value : (sheet s : List ℕ) (tag : Optional Part) (b r : Bool) → b ≡ is_tag (optional_of sheet tag) (118 ∷ 97 ∷ 108 ∷ 117 ∷ 101 ∷ []) → b ≡ true
    → r ≡ same_bytes (99 ∷ 111 ∷ 110 ∷ 116 ∷ 101 ∷ 110 ∷ 116 ∷ []) s → r ≡ same_bytes (content_key (optional_of sheet tag)) s
unfolding content_key ascii
content-value sheet s tag b r p q h = h ∙ rw (sym p ∙ q)

pub content-other : (sheet s : List ℕ) (tag : Optional Part) (b r : Bool) → b ≡ is_tag (optional_of sheet tag) (118 ∷ 97 ∷ 108 ∷ 117 ∷ 101 ∷ []) → b ≡ false
    → r ≡ same_bytes (118 ∷ 97 ∷ 108 ∷ 117 ∷ 101 ∷ []) s → r ≡ same_bytes (content_key (optional_of sheet tag)) s
unfolding content_key ascii
content-other sheet s tag b r p q h = h ∙ rw (sym p ∙ q)

pub union-tag : (sheet s : List ℕ) (tag : Optional Part) (b : Bool) → b ≡ is_tag (optional_of sheet tag) s → b ≡ true → UnionSteps sheet tag s (Leaf AfterTag)
unfolding union_step reference_detail
union-tag sheet s tag b p q = record { leads = λ words. rw (sym p ∙ q) }

pub union-content : (sheet s : List ℕ) (tag : Optional Part) (b d : Bool) → b ≡ is_tag (optional_of sheet tag) s → b ≡ false
    → d ≡ same_bytes (content_key (optional_of sheet tag)) s → d ≡ true → UnionSteps sheet tag s Free
unfolding union_step
union-content sheet s tag b d p q u v = record { leads = λ words. rw (sym p ∙ q, sym u ∙ v) }

pub union-other : (sheet s : List ℕ) (tag : Optional Part) (b d : Bool) → b ≡ is_tag (optional_of sheet tag) s → b ≡ false
    → d ≡ same_bytes (content_key (optional_of sheet tag)) s → d ≡ false → UnionSteps sheet tag s (Refuse UnionMember)
unfolding union_step reference_detail
union-other sheet s tag b d p q u v = record { leads = λ words. rw (sym p ∙ q, sym u ∙ v) }

-- A member

module _ (sheet words s : List ℕ) (h : Holder) (found : Optional ℕ) (looked : LookedUp sheet words h s found) where
  missing : found ≡ None → (t : Tree.Holder) → HolderAt sheet words h t → lookup s t.members ≡ none
  missing e t at = rw e at (looked t at)

  pub member-open : found ≡ None → h.opened ≡ true → MemberSteps sheet words h s Free
  unfolding member_step
  member-open e o = record { leads = λ t at. rw (missing e t at, sym at.marked ∙ o) }

  pub member-closed : found ≡ None → h.opened ≡ false → MemberSteps sheet words h s (Refuse UnknownProperty)
  unfolding member_step reference_detail
  member-closed e o = record { leads = λ t at. rw (missing e t at, sym at.marked ∙ o) }

  found_at : (k : ℕ) → found ≡ Some k → (t : Tree.Holder) → HolderAt sheet words h t → FoundAt sheet words s t.members k
  found_at k e t at = rw e at (looked t at)

  pub member-into : (k : ℕ) → found ≡ Some k → MemberSteps sheet words h s (Into k)
  unfolding member_step
  member-into k e = record {
    leads = λ t at.
        let here = found_at k e t at in
        (here.f, rw here.found, here.holds);
  }

-- A field without members

pub text-kernel : (reader : Code.Reader) → reader ≡ Kernel → TextSteps (reader_is reader) (Leaf AfterCount)
unfolding text_count reference_detail
text-kernel reader e = rw e (record { leads = λ sheet words. refl })

pub text-projection : (reader : Code.Reader) → reader ≡ Projection → TextSteps (reader_is reader) (Refuse TextCount)
unfolding text_count reference_detail
text-projection reader e = rw e (record { leads = λ sheet words. refl })

pub scalar-string : (kind : ℕ) (s : List ℕ) (b : Bool) (reader : Reader) (r : WalkStep) → b ≡ is_count s → b ≡ true → kind ≡ 1 → TextSteps reader r
    → ScalarSteps kind s reader r
unfolding scalar_step
scalar-string kind s b reader r p q e m = record { leads = λ sheet words. rw (sym p ∙ q, e) (m.leads sheet words) }

pub scalar-count : (kind : ℕ) (s : List ℕ) (b : Bool) (reader : Reader) → b ≡ is_count s → b ≡ true → (kind ≡ 1 → ⊥) → ScalarSteps kind s reader (Refuse NoCount)
unfolding scalar_step reference_detail
scalar-count kind s b reader p q e = record { leads = λ sheet words. rw (sym p ∙ q, ne_eqb kind 1 e) }

pub scalar-other : (kind : ℕ) (s : List ℕ) (b : Bool) (reader : Reader) → b ≡ is_count s → b ≡ false → ScalarSteps kind s reader (Refuse NoMember)
unfolding scalar_step reference_detail
scalar-other kind s b reader p q = record { leads = λ sheet words. rw (sym p ∙ q) }

-- The step on the tree, by the field's kind

module _ (e k : ℕ) (o : Bool) (tag : Option Text) (items : Items) (members : Members) (s : List ℕ) (reader : Reader) where
  abbrev here : Field
  here = field e k o tag items members

  step-empty : (service : Bool) → is_empty s ≡ true → walk_step reader service here s ≡ refuse 1
  unfolding walk_step
  step-empty service h = rw h

  step-array : is_empty s ≡ false → k ≡ 6 → walk_step reader true here s ≡ array_step items s
  unfolding walk_step walk_into form_of_kind
  step-array h q = rw (h, q)

  step_map : is_empty s ≡ false → k ≡ 10 → walk_step reader true here s ≡ map_step s
  unfolding walk_step walk_into form_of_kind
  step_map h q = rw (h, q)

  step-json : (service : Bool) → is_empty s ≡ false → k ≡ 8 → walk_step reader service here s ≡ free
  unfolding walk_step walk_into form_of_kind
  step-json true h q = rw (h, q)
  step-json false h q = rw (h, q)

  step-object : (service : Bool) → is_empty s ≡ false → k ≡ 7 → walk_step reader service here s ≡ member_step (lookup s members) o 3
  unfolding walk_step walk_into form_of_kind
  step-object true h q = rw (h, q)
  step-object false h q = rw (h, q)

  step-union : is_empty s ≡ false → k ≡ 11 → walk_step reader true here s ≡ union_step tag s
  unfolding walk_step walk_into form_of_kind
  step-union h q = rw (h, q)

  -- a field without members, of which only a string has a count
  into-scalar : (is_string : Bool) → walk_into reader true o tag items members s (cond is_string string_field other_field)
      ≡ cond (is_count s) (cond is_string (text_count reader) (refuse 9)) (refuse 10)
  unfolding walk_into
  into-scalar true = refl
  into-scalar false = refl

  step-scalar : is_empty s ≡ false → (k ≡ 6 → ⊥) → (k ≡ 10 → ⊥) → (k ≡ 8 → ⊥) → (k ≡ 7 → ⊥) → (k ≡ 11 → ⊥) → walk_step reader true here s ≡ scalar_step k s reader
  unfolding walk_step form_of_kind scalar_step
  step-scalar h a b c d f = rw (h, ne_eqb k 6 a, ne_eqb k 10 b, ne_eqb k 8 c, ne_eqb k 7 d, ne_eqb k 11 f) (into-scalar (eqb k 1))

  -- under kernel/1 every other field is without members
  into-plain : (is_array is_map is_string is_union : Bool)
      → walk_into reader false o tag items members s
      (cond is_array array_field (cond is_map map_field (cond is_string string_field (cond is_union union_field other_field))))
      ≡ refuse 10
  unfolding walk_into
  into-plain true b c d = refl
  into-plain false true c d = refl
  into-plain false false true d = refl
  into-plain false false false true = refl
  into-plain false false false false = refl

  step-plain : is_empty s ≡ false → (k ≡ 8 → ⊥) → (k ≡ 7 → ⊥) → walk_step reader false here s ≡ refuse 10
  unfolding walk_step form_of_kind
  step-plain h c d = rw (h, ne_eqb k 8 c, ne_eqb k 7 d) (into-plain (eqb k 6) (eqb k 10) (eqb k 1) (eqb k 11))

-- The code's step, by the kind that the index gives

module _ (sheet words s : List ℕ) (x : IndexedField) (reader : Reader) (service : Bool) (r : WalkStep) where
  Ways : Type 0
  Ways = (e k : ℕ) (o : Bool) (tag : Option Text) (items : Items) (members : Members) → FieldParts sheet words e k tag items (record { is_open = o; members = members }) x
      → StepIs sheet words r (walk_step reader service (field e k o tag items members) s)

  each_way : Ways → (f : Field) → PartsOf sheet words f x → StepIs sheet words r (walk_step reader service f s)
  unfolding Ways
  each_way way (field e k o tag items members) p = way e k o tag items members p

module _ (sheet words s : List ℕ) (x : IndexedField) (reader : Reader) where
  pub service-array : (r : WalkStep) → x.kind ≡ 6 → ArraySteps x.element s r → ServiceSteps sheet words x s reader r
  unfolding Ways
  service-array r q m = record {
    leads = λ n. each_way sheet words s x reader true r λ e k o tag items members p.
        rw (step-array e k o tag items members s reader (segment-full s n) (sym p.kinded ∙ q)) (m.leads sheet words items p.elements);
  }

  pub service-map : (r : WalkStep) → x.kind ≡ 10 → MapSteps s r → ServiceSteps sheet words x s reader r
  unfolding Ways
  service-map r q m = record {
    leads = λ n. each_way sheet words s x reader true r λ e k o tag items members p.
        rw (step_map e k o tag items members s reader (segment-full s n) (sym p.kinded ∙ q)) (m.leads sheet words);
  }

  pub service-json : x.kind ≡ 8 → ServiceSteps sheet words x s reader Free
  unfolding Ways
  service-json q = record {
    leads = λ n. each_way sheet words s x reader true Free λ e k o tag items members p.
        step-json e k o tag items members s reader true (segment-full s n) (sym p.kinded ∙ q);
  }

  pub service-object : (r : WalkStep) → x.kind ≡ 7 → MemberSteps sheet words x.members s r → ServiceSteps sheet words x s reader r
  unfolding Ways reference_detail
  service-object r q m = record {
    leads = λ n. each_way sheet words s x reader true r λ e k o tag items members p.
        rw (step-object e k o tag items members s reader true (segment-full s n) (sym p.kinded ∙ q))
        (m.leads (record { is_open = o; members = members }) p.members);
  }

  pub service-union : (r : WalkStep) → x.kind ≡ 11 → UnionSteps sheet x.tag s r → ServiceSteps sheet words x s reader r
  unfolding Ways
  service-union r q m = record {
    leads = λ n. each_way sheet words s x reader true r λ e k o tag items members p.
        rw (step-union e k o tag items members s reader (segment-full s n) (sym p.kinded ∙ q), ← p.tagged) (m.leads words);
  }

  pub service-scalar : (r : WalkStep) → (x.kind ≡ 6 → ⊥) → (x.kind ≡ 10 → ⊥) → (x.kind ≡ 8 → ⊥) → (x.kind ≡ 7 → ⊥) → (x.kind ≡ 11 → ⊥)
      → ScalarSteps x.kind s reader r → ServiceSteps sheet words x s reader r
  unfolding Ways
  service-scalar r a b c d f m = record {
    leads = λ n. each_way sheet words s x reader true r λ e k o tag items members p.
        rw (
          step-scalar e k o tag items members s reader (segment-full s n) (λ z. a (p.kinded ∙ z)) (λ z. b (p.kinded ∙ z)) (λ z. c (p.kinded ∙ z)) (λ z. d (p.kinded ∙ z))
              (λ z. f (p.kinded ∙ z)),
          ← p.kinded,
        ) (m.leads sheet words);
  }

  pub walk-empty : (service : Bool) → length s ≡ 0 → WalkSteps sheet words x s reader service (Refuse EmptyPath)
  unfolding Ways reference_detail
  walk-empty service n = record {
    leads = each_way sheet words s x reader service (Refuse EmptyPath) λ e k o tag items members p.
        step-empty e k o tag items members s reader service (segment-empty s n);
  }

  pub walk-service : (service : Bool) (r : WalkStep) → (length s ≡ 0 → ⊥) → service ≡ true → ServiceSteps sheet words x s reader r → WalkSteps sheet words x s reader service r
  walk-service service r n e m = rw e (record { leads = m.leads n })

  pub walk-json : (service : Bool) → (length s ≡ 0 → ⊥) → service ≡ false → x.kind ≡ 8 → WalkSteps sheet words x s reader service Free
  unfolding Ways
  walk-json service n v q = record {
    leads = each_way sheet words s x reader service Free λ e k o tag items members p.
        step-json e k o tag items members s reader service (segment-full s n) (sym p.kinded ∙ q);
  }

  pub walk-object : (service : Bool) (r : WalkStep) → (length s ≡ 0 → ⊥) → service ≡ false → x.kind ≡ 7 → MemberSteps sheet words x.members s r
      → WalkSteps sheet words x s reader service r
  unfolding Ways reference_detail
  walk-object service r n v q m = record {
    leads = each_way sheet words s x reader service r λ e k o tag items members p.
        rw (step-object e k o tag items members s reader service (segment-full s n) (sym p.kinded ∙ q))
        (m.leads (record { is_open = o; members = members }) p.members);
  }

  pub walk-plain : (service : Bool) → (length s ≡ 0 → ⊥) → service ≡ false → (x.kind ≡ 8 → ⊥) → (x.kind ≡ 7 → ⊥) → WalkSteps sheet words x s reader service (Refuse NoMember)
  unfolding Ways reference_detail
  walk-plain service n v c d = rw v (record {
    leads = each_way sheet words s x reader false (Refuse NoMember) λ e k o tag items members p.
        step-plain e k o tag items members s reader (segment-full s n) (λ z. c (p.kinded ∙ z)) (λ z. d (p.kinded ∙ z));
  })
