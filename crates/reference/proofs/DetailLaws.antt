-- What is true of every detail that the steps of a walk give is true of the detail with which it is refused; and which details those are.
use Rattle.std.specs.Prelude.{ℕ, ◌≤◌, Bool, cond, ◌&&◌, ◌≡◌, refl}
use native.Mathlib.Omega.{arith}
use Rattle.std.proofs.Math.Bool.{true, false}
use mathlib.Core.List.{List, [], ◌∷◌}
use Rattle.std.proofs.Common.{inl, inr}
use Rattle.std.proofs.Math.Option.{Option, none, some}
use Rattle.text.specs.Order.{same_bytes}
use Rattle.definition.specs.Tree.{Text, Field, field, Items, absent, element, Holder, Schema, Members}
use Rattle.reference.specs.Setting.{Name, name_of, Reader, kernel, projection, Setting}
use Rattle.reference.specs.Path.{Segments, split, is_ordinal, is_count}
use Rattle.reference.specs.Walk.{Step, refuse, leaf, free, into, lookup, member_step, item_step, Reached, refused, unknown, known, last_or, arrive, entry_of, travel, is_empty, array_step, map_step, is_tag, content_key, union_step, text_count, FieldForm, json_field, object_field, array_field, map_field, string_field, union_field, other_field, form_of_kind, walk_into, walk_step, WalkDetail}
use Rattle.reference.specs.Reference.{Environment, bound, Root, no_root, missing, root, root_of, from_holder, root_walk, from_root, from_name, from_element, from_bound, reference, key_walk}

abbrev pub StepHas : (ℕ → Type 0) → Step → Type 0
StepHas P (refuse d) = P d
StepHas P (leaf d) = P d
StepHas P free = Unit {0}
StepHas P (into f) = Unit {0}

abbrev pub Has : (ℕ → Type 0) → Reached → Type 0
Has P (refused d at left) = P d
Has P unknown = Unit {0}
Has P (known f) = Unit {0}

module _ (P : ℕ → Type 0) where
  pub step-if : (b : Bool) (r q : Step) → StepHas P r → StepHas P q → StepHas P (cond b r q)
  step-if true r q h k = h
  step-if false r q h k = k

  pub has-if : (b : Bool) (r q : Reached) → Has P r → Has P q → Has P (cond b r q)
  has-if true r q h k = h
  has-if false r q h k = k

  pub member-has : (o : Option Field) (is_open : Bool) (d : ℕ) → P d → StepHas P (member_step o is_open d)
  unfolding member_step
  member-has (some f) is_open d h = tt
  member-has none true d h = tt
  member-has none false d h = h

  pub item-has : (items : Items) → StepHas P (item_step items)
  unfolding item_step
  item-has absent = tt
  item-has (element f) = tt

  last_has : (path : List Text) (r : Reached) → Has P r → Has P (last_or path r)
  unfolding last_or
  last_has [] r h = tt
  last_has (s ∷ path) r h = h

  arrive-has : (at : ℕ) (s : Text) (path : List Text) (onward : Field → Reached) (t : Step)
      → ((g : Field) → Has P (onward g))
      → StepHas P t
      → Has P (arrive at s path onward t)
  unfolding arrive
  arrive-has at s path onward (refuse d) h k = k
  arrive-has at s path onward (leaf d) h k = last_has path (refused d at (s ∷ path)) k
  arrive-has at s path onward free h k = tt
  arrive-has at s path onward (into g) h k = h g

  module _ (step : Field → Text → Step) (each : (f : Field) (s : Text) → StepHas P (step f s)) where
    pub travel-has : (path : List Text) (f : Field) → Has P (travel step path f)
    unfolding travel
    travel-has [] f = tt
    travel-has (s ∷ path) f = arrive-has (entry_of f) s path _ (step f s) (λ g. travel-has path g) (each f s)

    pub holder-has : (at detail : ℕ) (h : Holder) (s : Text) (path : List Text) → P detail → Has P (from_holder step at detail h s path)
    unfolding from_holder
    holder-has at detail h s path d =
        arrive-has at s path _ (member_step (lookup s h.members) h.is_open detail) (λ g. travel-has path g)
        (member-has (lookup s h.members) h.is_open detail d)

weaker : (P Q : ℕ → Type 0) → ((d : ℕ) → P d → Q d) → (r : Reached) → Has P r → Has Q r
weaker P Q h (refused d at left) p = h d p
weaker P Q h unknown p = tt
weaker P Q h (known f) p = tt

-- The details of walks, those of number 18: 1 to 10, and 13 for a projection's key.

common : (reader : Reader) (d : ℕ) → 1 ≤ d → d ≤ 10 → WalkDetail reader d
common kernel d l h = record { low = l; high = h }
common projection d l h = inl (record { low = l; high = h })

text-detail : (reader : Reader) → StepHas (WalkDetail reader) (text_count reader)
unfolding text_count
text-detail kernel = common kernel 6 (omega arith) (omega arith)
text-detail projection = inr refl

module _ (reader : Reader) where
  abbrev Detail : ℕ → Type 0
  Detail = WalkDetail reader

  one : (d : ℕ) → 1 ≤ d → d ≤ 10 → Detail d
  one = common reader

  into-detail : (is_service is_open : Bool) (tag : Option Text) (items : Items) (members : Members) (s : Text) (form : FieldForm)
      → StepHas Detail (walk_into reader is_service is_open tag items members s form)
  unfolding walk_into array_step map_step union_step
  into-detail b is_open tag items members s json_field = tt
  into-detail b is_open tag items members s object_field =
      member-has Detail (lookup s members) is_open 3 (one 3 (omega arith) (omega arith))
  into-detail b is_open tag items members s array_field =
      step-if Detail b (array_step items s) _
      (step-if Detail (is_count s) (leaf 6) _ (one 6 (omega arith) (omega arith))
      (step-if Detail (is_ordinal s) (item_step items) (refuse 4) (item-has Detail items) (one 4 (omega arith) (omega arith))))
      (one 10 (omega arith) (omega arith))
  into-detail b is_open tag items members s map_field =
      step-if Detail b (map_step s) _
      (step-if Detail (is_count s) (leaf 6) (refuse 5) (one 6 (omega arith) (omega arith)) (one 5 (omega arith) (omega arith)))
      (one 10 (omega arith) (omega arith))
  into-detail b is_open tag items members s string_field =
      step-if Detail (b && is_count s) (text_count reader) _ (text-detail reader) (one 10 (omega arith) (omega arith))
  into-detail b is_open tag items members s union_field =
      step-if Detail b (union_step tag s) _
      (step-if Detail (is_tag tag s) (leaf 7) _ (one 7 (omega arith) (omega arith))
      (step-if Detail (same_bytes (content_key tag) s) free (refuse 8) tt (one 8 (omega arith) (omega arith))))
      (one 10 (omega arith) (omega arith))
  into-detail b is_open tag items members s other_field =
      step-if Detail (b && is_count s) (refuse 9) (refuse 10) (one 9 (omega arith) (omega arith)) (one 10 (omega arith) (omega arith))

  step-detail : (is_service : Bool) (f : Field) (s : Text) → StepHas Detail (walk_step reader is_service f s)
  unfolding walk_step
  step-detail b (field e kind is_open tag items members) s =
      step-if Detail (is_empty s) (refuse 1) _ (one 1 (omega arith) (omega arith))
      (into-detail b is_open tag items members s (form_of_kind kind))

  root-detail : (is_service : Bool) (at : ℕ) (h : Holder) (s : Text) (path : List Text) → Has Detail (root_walk reader is_service at h s path)
  unfolding root_walk
  root-detail b at h s path =
      has-if Detail (is_empty s) _ _ (one 1 (omega arith) (omega arith))
      (holder-has Detail (walk_step reader b) (step-detail b) at 2 h s path (one 2 (omega arith) (omega arith)))

  pub key-detail : (is_service : Bool) (schema : Schema) (t : Text) → Has Detail (key_walk reader is_service schema t)
  unfolding key_walk
  key-detail b schema t = root-detail b 1 schema.fields (split t).first (split t).others

-- No reference of a rule or template is refused with 13: its walk is the kernel's.

abbrev pub Kernel : ℕ → Type 0
Kernel d = d ≤ 12

kernel-walk : (r : Reached) → Has (WalkDetail kernel) r → Has Kernel r
kernel-walk = weaker (WalkDetail kernel) Kernel (λ d h. omega (arith, h.high))

module _ (setting : Setting) (is-kernel : setting.reader ≡ kernel) where
  from-root : (n : Name) (r : Root) (s : Text) (path : List Text) → Has Kernel (from_root setting n r s path)
  unfolding from_root
  from-root n no_root s path = omega arith
  from-root n missing s path = omega arith
  from-root n (root at h) s path =
      rw is-kernel
      (has-if Kernel (setting.may_read n) _ _
      (kernel-walk (root_walk kernel setting.is_service at h s path) (root-detail kernel setting.is_service at h s path))
      (omega arith))

  from-name : (schema : Schema) (o : Option Name) (path : List Text) → Has Kernel (from_name setting schema o path)
  unfolding from_name
  from-name schema none path = omega arith
  from-name schema (some n) [] = has-if Kernel (setting.may_read n) unknown (refused 12 0 []) tt (omega arith)
  from-name schema (some n) (s ∷ path) = from-root n (root_of schema n) s path

  from-bound : (schema : Schema) (p : Segments) (o : Option (Option Field)) → Has Kernel (from_bound setting schema p o)
  unfolding from_bound from_element
  from-bound schema p none = from-name schema (name_of p.first) p.others
  from-bound schema p (some none) = tt
  from-bound schema p (some (some f)) =
      kernel-walk (travel (walk_step kernel setting.is_service) p.others f)
      (travel-has (WalkDetail kernel) (walk_step kernel setting.is_service) (step-detail kernel setting.is_service) p.others f)

  pub kernel-details : (schema : Schema) (env : Environment) (t : Text) → Has Kernel (reference setting schema env t)
  unfolding reference
  kernel-details schema env t = from-bound schema (split t) (bound (split t).first env)
