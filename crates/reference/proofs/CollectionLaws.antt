-- The two further sentences of `collection_element`, details 6 and 7 here, cannot occur where the references of the `in` value can be read.
use Rattle.std.specs.Prelude.{ℕ, ◌≤◌, Bool, true, false, cond, ◌&&◌, ◌||◌, List, [], ◌∷◌, ◌≡◌, refl, eqb}
use Prim.Native.Char.{code}
use Rattle.std.proofs.Common.{arith, ap, eqb-true}
use Rattle.std.proofs.Math.Option.{Option, none, some}
use Rattle.std.proofs.lemmas.Bool.{eqb-false}
use Rattle.text.specs.Ascii.{ascii}
use Rattle.text.specs.Order.{same_bytes}
use Rattle.definition.specs.Tree.{Text, Field, field, Items, absent, element, Schema}
use Rattle.reference.specs.Setting.{Name, spelling, named, name_of, Setting}
use Rattle.reference.specs.Path.{Segments, cut, extend, split, is_ordinal}
use Rattle.reference.specs.Walk.{refuse, free, lookup, member_step, item_step, Reached, refused, unknown, known, arrive, travel, is_empty, field_step, element_or, element_of_field, element_of}
use Rattle.reference.proofs.DetailLaws.{StepHas, Has, step-if, member-has, item-has, travel-has}
use Rattle.reference.specs.Reference.{Environment, bound, Root, no_root, missing, root, root_of, from_holder, root_walk, from_root, from_name, from_bound, reference, behind_first, begins_with_dollar, collection_in, collection_named, collection_element, collection_bound, collection_text}

-- something is reached
abbrev pub Reads : Reached → Type 0
Reads (refused d at left) = ⊥
Reads unknown = Unit {0}
Reads (known f) = Unit {0}

-- one of the details 1 to 5 of number 22
pub record Listed (detail : ℕ) : Type 0 where
  pub low : 1 ≤ detail
  pub high : detail ≤ 5

-- refused with such a detail at most
abbrev pub Explained : Reached → Type 0
Explained r = Has Listed r

step-explained : (f : Field) (s : Text) → StepHas Listed (field_step f s)
unfolding field_step
step-explained (field e kind is_open tag items members) s =
    step-if Listed (eqb kind 8 || eqb kind 11) free _ tt
    (step-if Listed (eqb kind 7) (member_step (lookup s members) is_open 2) _ (member-has Listed (lookup s members) is_open 2 (omega arith))
    (step-if Listed (eqb kind 6 && is_ordinal s) (item_step items) (refuse 3) (item-has Listed items) (omega arith)))

travel-explained : (path : List Text) (f : Field) → Explained (travel field_step path f)
travel-explained = travel-has Listed field_step step-explained

field-explained : (f : Field) → Explained (element_of_field f)
unfolding element_of_field element_or
field-explained (field e kind is_open tag items members) = go (eqb kind 6 || eqb kind 10) items
  where
    go : (b : Bool) (items : Items) → Explained (cond b (element_or items) (refused 4 e []))
    go true absent = tt
    go true (element f) = tt
    go false items = omega arith

element-explained : (r : Reached) → Explained r → Explained (element_of r)
unfolding element_of
element-explained (refused d at left) h = h
element-explained unknown h = tt
element-explained (known f) h = field-explained f

reads_then : (b : Bool) (r : Reached) (d at : ℕ) (left : List Text) → Reads (cond b r (refused d at left)) → Reads r
reads_then true r d at left h = h
reads_then false r d at left h = absurd h

reads-else : (b : Bool) (r : Reached) (d at : ℕ) (left : List Text) → Reads (cond b (refused d at left) r) → Reads r
reads-else true r d at left h = absurd h
reads-else false r d at left h = h

-- what the reference finds in the record or the arguments, the collection finds too
member-found : (onward : Field → Reached) (o : Option Field) (is_open : Bool) (at : ℕ) (s : Text) (path : List Text)
    → Reads (arrive at s path onward (member_step o is_open 2))
    → Explained (element_of (arrive at s path (λ g. travel field_step path g) (member_step o is_open 7)))
unfolding arrive member_step element_of
member-found onward (some f) is_open at s path h = element-explained (travel field_step path f) (travel-explained path f)
member-found onward none true at s path h = tt
member-found onward none false at s path h = absurd h

root-explained : (setting : Setting) (n : Name) (r : Root) (s : Text) (path : List Text)
    → Reads (from_root setting n r s path)
    → Explained (collection_in r s path)
unfolding from_root root_walk from_holder collection_in
root-explained setting n no_root s path h = absurd h
root-explained setting n missing s path h = absurd h
root-explained setting n (root at holder) s path h =
    member-found _ (lookup s holder.members) holder.is_open at s path
    (reads-else (is_empty s) _ 1 at (s ∷ path)
    (reads_then (setting.may_read n) _ 11 0 (s ∷ path) h))

name-explained : (setting : Setting) (schema : Schema) (o : Option Name) (path : List Text)
    → Reads (from_name setting schema o path)
    → Explained (collection_named schema o path)
unfolding from_name collection_named
name-explained setting schema none path h = absurd h
name-explained setting schema (some n) [] h = omega arith
name-explained setting schema (some n) (s ∷ path) h = root-explained setting n (root_of schema n) s path h

binder-explained : (f : Option Field) (path : List Text) → Explained (collection_element f path)
unfolding collection_element
binder-explained none path = tt
binder-explained (some f) [] = tt
binder-explained (some f) (s ∷ path) = element-explained (travel field_step (s ∷ path) f) (travel-explained (s ∷ path) f)

bound-explained : (schema : Schema) (is_reference : Bool) (p : Segments) (o : Option (Option Field))
    → (is_reference ≡ true → o ≡ none → Explained (collection_named schema (name_of p.first) p.others))
    → Explained (collection_bound schema is_reference p o)
unfolding collection_bound
bound-explained schema is_reference p (some f) h = binder-explained f p.others
bound-explained schema true p none h = h refl refl
bound-explained schema false p none h = omega arith

-- no name begins with `$`
escaped-explained : (schema : Schema) (t : Text) → Explained (collection_named schema (name_of (split (code "$" ∷ t)).first) (split (code "$" ∷ t)).others)
unfolding collection_named name_of named spelling same_bytes ascii split extend cut
escaped-explained schema t = omega arith

named-explained : (setting : Setting) (schema : Schema) (env : Environment) (b : ℕ) (t : Text)
    → bound (split (b ∷ t)).first env ≡ none
    → ((b ≡ code "$" → ⊥) → Reads (reference setting schema env (b ∷ t)))
    → Explained (collection_named schema (name_of (split (b ∷ t)).first) (split (b ∷ t)).others)
unfolding reference from_bound
named-explained setting schema env b t e h = go (eqb b (code "$")) refl
  where
    go : (x : Bool)
        → eqb b (code "$") ≡ x
        → Explained (collection_named schema (name_of (split (b ∷ t)).first) (split (b ∷ t)).others)
    go true p = rw (eqb-true b (code "$") p) (escaped-explained schema t)
    go false p =
        name-explained setting schema (name_of (split (b ∷ t)).first) (split (b ∷ t)).others
        (rw e at (h (eqb-false b (code "$") p)))

-- and no name is empty
empty-explained : (schema : Schema) → Explained (collection_named schema (name_of (split []).first) (split []).others)
unfolding collection_named name_of named spelling same_bytes ascii split
empty-explained schema = omega arith

-- a text whose reference, if it is one, can be read
pub text-explained : (setting : Setting) (schema : Schema) (env : Environment) (t : Text)
    → ((b : ℕ) (u : Text) → t ≡ code "$" ∷ b ∷ u → (b ≡ code "$" → ⊥) → Reads (reference setting schema env (b ∷ u)))
    → Explained (collection_text schema env t)
unfolding collection_text begins_with_dollar behind_first
text-explained setting schema env [] h =
    bound-explained schema false (split []) (bound (split []).first env) (λ e u. empty-explained schema)
text-explained setting schema env (a ∷ []) h =
    bound-explained schema (eqb a (code "$")) (split (behind_first (a ∷ []))) (bound (split (behind_first (a ∷ []))).first env)
    (λ e u. rw (eqb-true a (code "$") e) (empty-explained schema))
text-explained setting schema env (a ∷ b ∷ t) h =
    bound-explained schema (eqb a (code "$")) (split (behind_first (a ∷ b ∷ t))) (bound (split (behind_first (a ∷ b ∷ t))).first env)
    (λ e u.
    let same : a ≡ code "$" = eqb-true a (code "$") e in
    rw same
    (named-explained setting schema env b t (rw same at u)
    (λ other. h b t (ap (λ (x : ℕ). x ∷ b ∷ t) same) other)))
