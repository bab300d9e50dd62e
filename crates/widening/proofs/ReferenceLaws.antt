-- How references and collections fare when the schema under them is widened.
use Rattle.std.specs.Prelude.{ℕ, Bool, true, false, cond, List, [], ◌∷◌}
use Rattle.std.proofs.Math.Option.{Option, none, some}
use Rattle.text.specs.Order.{same_bytes}
use Rattle.definition.specs.Tree.{Text, Field, Holder, Schema, Value, constant, number, string, array, object}
use Rattle.reference.specs.Setting.{Name, id, entity, version, fields, state, to_state, from_state, args, old_fields, name_of, Reader, kernel, Setting}
use Rattle.reference.specs.Path.{Segments, split}
use Rattle.reference.specs.Walk.{Step, entry_of, is_empty}
use Rattle.reference.specs.Reference.{Environment, bound, Root, no_root, missing, root, arguments_root, root_of, from_holder, root_walk, from_root, from_name, from_element, from_bound, reference, key_walk, behind_first, begins_with_dollar, collection_in, collection_named, collection_element, collection_bound, collection_text, collection}
use Rattle.widening.specs.Widening.{Level, anything, WiderHolder, WiderArguments, without, appear, stay, WiderSchema}
use Rattle.widening.specs.Distinct.{DistinctMembers, DistinctArguments, DistinctSchema}
use Rattle.widening.proofs.WalkLaws.{Grown, equal, Fares, still_refused, still_unknown, refused-fares, StepFares, lookup-finds, member-fares, arrive-fares, travel-fares, walk-step-fares, field-step-fares, walk-fares, field-fares, if-fares, element-fares}

-- a schema and its widening, with no sibling name twice in the latter
pub record GrownSchema (l : Level) (s s' : Schema) : Type 0 where
  pub is_wider : WiderSchema l s s'
  pub is_distinct : DistinctSchema s'

-- the elements of a binder: unknown in both, or grown
pub data ElementFares : Level → Option Field → Option Field → Type 0 where
  both_unknown : {l : Level} → ElementFares l none none
  both_known : {l : Level} {f f' : Field} → Grown l f f' → ElementFares l (some f) (some f')

pub data EnvironmentFares : Level → Environment → Environment → Type 0 where
  no_binders : {l : Level} → EnvironmentFares l [] []
  binder : {l : Level} {name : Text} {x x' : Option Field} {env env' : Environment}
      → ElementFares l x x'
      → EnvironmentFares l env env'
      → EnvironmentFares l (record { name = name; element = x } ∷ env) (record { name = name; element = x' } ∷ env')

data BoundFares : Level → Option (Option Field) → Option (Option Field) → Type 0 where
  unbound : {l : Level} → BoundFares l none none
  is_bound : {l : Level} {x x' : Option Field} → ElementFares l x x' → BoundFares l (some x) (some x')

bound-if : {l : Level} {x x' y y' : Option (Option Field)} (b : Bool) → BoundFares l x x' → BoundFares l y y' → BoundFares l (cond b x y) (cond b x' y')
bound-if true p q = p
bound-if false p q = q

bound-fares : {l : Level} {env env' : Environment} (name : Text) → EnvironmentFares l env env' → BoundFares l (bound name env) (bound name env')
unfolding bound
bound-fares name no_binders = unbound
bound-fares name (binder {name = n} e es) = bound-if (same_bytes n name) (is_bound e) (bound-fares name es)

data RootFares : Level → Root → Root → Type 0 where
  never_root : {l : Level} → RootFares l no_root no_root
  still_missing : {l : Level} → RootFares l missing missing
  appeared : {at : ℕ} {h' : Holder} → RootFares anything missing (root at h')
  still_root : {l : Level} {at : ℕ} {h h' : Holder} → WiderHolder l at h h' → DistinctMembers h'.members → RootFares l (root at h) (root at h')

arguments-fare : {l : Level} {x x' : Option Holder} → WiderArguments l x x' → DistinctArguments x' → RootFares l (arguments_root x) (arguments_root x')
unfolding arguments_root
arguments-fare without d = still_missing
arguments-fare appear d = appeared
arguments-fare (stay w) d = still_root w d

root-fares : {l : Level} {s s' : Schema} → GrownSchema l s s' → (n : Name) → RootFares l (root_of s n) (root_of s' n)
unfolding root_of
root-fares g id = never_root
root-fares g entity = never_root
root-fares g version = never_root
root-fares g fields = still_root g.is_wider.fields g.is_distinct.fields
root-fares g state = never_root
root-fares g to_state = never_root
root-fares g from_state = never_root
root-fares g args = arguments-fare g.is_wider.arguments g.is_distinct.arguments
root-fares g old_fields = still_root g.is_wider.fields g.is_distinct.fields

holder-fares : {l : Level} {h h' : Holder} {step : Field → Text → Step} (at detail : ℕ) (s : Text) (path : List Text)
    → ((f f' : Field) (s : Text) → Grown l f f' → StepFares l (entry_of f) (step f s) (step f' s))
    → WiderHolder l at h h'
    → DistinctMembers h'.members
    → Fares l (from_holder step at detail h s path) (from_holder step at detail h' s path)
unfolding from_holder
holder-fares at detail s path steps w d =
    arrive-fares at at s path (λ f f' g. travel-fares path steps g)
    (member-fares detail w.mark (lookup-finds s w.members d))

root-walk-fares : {l : Level} {h h' : Holder} (reader : Reader) (is_service : Bool) (at : ℕ) (s : Text) (path : List Text)
    → WiderHolder l at h h'
    → DistinctMembers h'.members
    → Fares l (root_walk reader is_service at h s path) (root_walk reader is_service at h' s path)
unfolding root_walk
root-walk-fares reader b at s path w d =
    if-fares (is_empty s) (still_refused equal)
    (holder-fares at 2 s path (λ f f' t g. walk-step-fares reader b t g.is_wider g.is_distinct) w d)

from-root-fares : {l : Level} {r r' : Root} (setting : Setting) (n : Name) (s : Text) (path : List Text)
    → RootFares l r r'
    → Fares l (from_root setting n r s path) (from_root setting n r' s path)
unfolding from_root
from-root-fares setting n s path never_root = still_refused equal
from-root-fares setting n s path still_missing = still_refused equal
from-root-fares setting n s path appeared = refused-fares _
from-root-fares setting n s path (still_root {at = at} w d) =
    if-fares (setting.may_read n) (root-walk-fares setting.reader setting.is_service at s path w d) (still_refused equal)

from-name-fares : {l : Level} {s s' : Schema} (setting : Setting) (o : Option Name) (path : List Text)
    → GrownSchema l s s'
    → Fares l (from_name setting s o path) (from_name setting s' o path)
unfolding from_name
from-name-fares setting none path g = still_refused equal
from-name-fares setting (some n) [] g = if-fares (setting.may_read n) still_unknown (still_refused equal)
from-name-fares setting (some n) (t ∷ path) g = from-root-fares setting n t path (root-fares g n)

from-element-fares : {l : Level} {x x' : Option Field} (is_service : Bool) (path : List Text)
    → ElementFares l x x'
    → Fares l (from_element is_service x path) (from_element is_service x' path)
unfolding from_element
from-element-fares b path both_unknown = still_unknown
from-element-fares b path (both_known g) = walk-fares kernel b path g

from-bound-fares : {l : Level} {s s' : Schema} {x x' : Option (Option Field)} (setting : Setting) (p : Segments)
    → GrownSchema l s s'
    → BoundFares l x x'
    → Fares l (from_bound setting s p x) (from_bound setting s' p x')
unfolding from_bound
from-bound-fares setting p g unbound = from-name-fares setting (name_of p.first) p.others g
from-bound-fares setting p g (is_bound e) = from-element-fares setting.is_service p.others e

pub reference-fares : {l : Level} {s s' : Schema} {env env' : Environment} (setting : Setting) (t : Text)
    → GrownSchema l s s'
    → EnvironmentFares l env env'
    → Fares l (reference setting s env t) (reference setting s' env' t)
unfolding reference
reference-fares setting t g e = from-bound-fares setting (split t) g (bound-fares (split t).first e)

-- a path of `$fields`, whichever reader it is for
pub key-fares : {l : Level} {s s' : Schema} (reader : Reader) (is_service : Bool) (t : Text)
    → GrownSchema l s s'
    → Fares l (key_walk reader is_service s t) (key_walk reader is_service s' t)
unfolding key_walk
key-fares reader b t g = root-walk-fares reader b 1 (split t).first (split t).others g.is_wider.fields g.is_distinct.fields

collection-in-fares : {l : Level} {r r' : Root} (s : Text) (path : List Text)
    → RootFares l r r'
    → Fares l (collection_in r s path) (collection_in r' s path)
unfolding collection_in
collection-in-fares s path never_root = still_refused equal
collection-in-fares s path still_missing = still_refused equal
collection-in-fares s path appeared = refused-fares _
collection-in-fares s path (still_root {at = at} w d) =
    element-fares (holder-fares at 7 s path (λ f f' t g. field-step-fares t g.is_wider g.is_distinct) w d)

collection-named-fares : {l : Level} {s s' : Schema} (o : Option Name) (path : List Text)
    → GrownSchema l s s'
    → Fares l (collection_named s o path) (collection_named s' o path)
unfolding collection_named
collection-named-fares none path g = still_refused equal
collection-named-fares (some n) [] g = still_refused equal
collection-named-fares (some n) (t ∷ path) g = collection-in-fares t path (root-fares g n)

collection-element-fares : {l : Level} {x x' : Option Field} (path : List Text)
    → ElementFares l x x'
    → Fares l (collection_element x path) (collection_element x' path)
unfolding collection_element
collection-element-fares path both_unknown = still_unknown
collection-element-fares [] (both_known g) = still_unknown
collection-element-fares (t ∷ path) (both_known g) = element-fares (field-fares (t ∷ path) g)

collection-bound-fares : {l : Level} {s s' : Schema} {x x' : Option (Option Field)} (b : Bool) (p : Segments)
    → GrownSchema l s s'
    → BoundFares l x x'
    → Fares l (collection_bound s b p x) (collection_bound s' b p x')
unfolding collection_bound
collection-bound-fares b p g (is_bound e) = collection-element-fares p.others e
collection-bound-fares true p g unbound = collection-named-fares (name_of p.first) p.others g
collection-bound-fares false p g unbound = still_refused equal

pub collection-fares : {l : Level} {s s' : Schema} {env env' : Environment} (v : Value)
    → GrownSchema l s s'
    → EnvironmentFares l env env'
    → Fares l (collection s env v) (collection s' env' v)
unfolding collection collection_text
collection-fares (constant e type) g h = still_refused equal
collection-fares (number e digits) g h = still_refused equal
collection-fares (string e t) g h =
    collection-bound-fares (begins_with_dollar t) (split (behind_first t)) g (bound-fares (split (behind_first t)).first h)
collection-fares (array e values) g h = still_refused equal
collection-fares (object e pairs) g h = still_refused equal
