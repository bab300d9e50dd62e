-- References, as `validate_reference` reads them, and the collections that quantifiers walk, as `collection_element` finds them.
use Rattle.std.specs.Prelude.{ℕ, Bool, true, false, cond, List, [], ◌∷◌, ltb, eqb}
use Prim.Native.Char.{code}
use Rattle.std.proofs.Math.Option.{Option, none, some}
use Rattle.text.specs.Order.{same_bytes}
use Rattle.definition.specs.Tree.{Text, Field, Holder, Schema, Value, constant, number, string, array, object}
use Rattle.reference.specs.Setting.{Name, id, entity, version, fields, state, to_state, from_state, args, old_fields, name_of, Reader, kernel, Setting}
use Rattle.reference.specs.Path.{Segments, split}
use Rattle.reference.specs.Walk.{Step, lookup, member_step, Reached, refused, unknown, arrive, travel, is_empty, walk_step, field_step, element_of}

-- a binder in scope, with the element of its collection where the schema declares one
pub record Bound : Type 0 where
  pub name : Text
  pub element : Option Field

-- innermost first
abbrev pub Environment : Type 0
Environment = List Bound

unfoldable pub bound : Text → Environment → Option (Option Field)
bound name [] = none
bound name (b ∷ bs) = cond (same_bytes b.name name) (some b.element) (bound name bs)

-- what the three names with a path lead into; the arguments may be absent
pub data Root : Type 0 where
  no_root : Root
  missing : Root
  root : (at : ℕ) (h : Holder) → Root

unfoldable pub arguments_root : Option Holder → Root
arguments_root none = missing
arguments_root (some h) = root 0 h

unfoldable pub root_of : Schema → Name → Root
root_of schema id = no_root
root_of schema entity = no_root
root_of schema version = no_root
root_of schema fields = root 1 schema.fields
root_of schema state = no_root
root_of schema to_state = no_root
root_of schema from_state = no_root
root_of schema args = arguments_root schema.arguments
root_of schema old_fields = root 1 schema.fields

-- the field of that name in the record or the arguments, and the walk from it on
unfoldable pub from_holder : (Field → Text → Step) → (at detail : ℕ) → Holder → Text → List Text → Reached
from_holder step at detail h s path =
    arrive at s path (λ g. travel step path g) (member_step (lookup s h.members) h.is_open detail)

-- `validate_reference_path`: a path from a root on
unfoldable pub root_walk : Reader → (is_service : Bool) → ℕ → Holder → Text → List Text → Reached
root_walk reader is_service at h s path =
    cond (is_empty s) (refused 1 at (s ∷ path)) (from_holder (walk_step reader is_service) at 2 h s path)

unfoldable pub from_root : Setting → Name → Root → Text → List Text → Reached
from_root setting n no_root s path = refused 12 0 (s ∷ path)
from_root setting n missing s path = refused 11 0 (s ∷ path)
from_root setting n (root at h) s path =
    cond (setting.may_read n) (root_walk setting.reader setting.is_service at h s path) (refused 11 0 (s ∷ path))

unfoldable pub from_name : Setting → Schema → Option Name → List Text → Reached
from_name setting schema none path = refused 12 0 path
from_name setting schema (some n) [] = cond (setting.may_read n) unknown (refused 12 0 [])
from_name setting schema (some n) (s ∷ path) = from_root setting n (root_of schema n) s path

unfoldable pub from_element : (is_service : Bool) → Option Field → List Text → Reached
from_element is_service none path = unknown
from_element is_service (some f) path = travel (walk_step kernel is_service) path f

-- a binder of that name wins over all other names
unfoldable pub from_bound : Setting → Schema → Segments → Option (Option Field) → Reached
from_bound setting schema p none = from_name setting schema (name_of p.first) p.others
from_bound setting schema p (some element) = from_element setting.is_service element p.others

-- the reference of that text after its `$`; the details are those of number 18
unfoldable pub reference : Setting → Schema → Environment → Text → Reached
reference setting schema env t = from_bound setting schema (split t) (bound (split t).first env)

-- a path of `$fields`, given without `$fields.`
unfoldable pub key_walk : Reader → (is_service : Bool) → Schema → Text → Reached
key_walk reader is_service schema t = root_walk reader is_service 1 schema.fields (split t).first (split t).others

-- Collections. Details 6 and 7 stand for the two sentences of `collection_element` that never occur in a result.

-- the text after the first character, if that is one byte
unfoldable pub behind_first : Text → Text
behind_first [] = []
behind_first (b ∷ t) = cond (ltb b 128) t []

unfoldable pub begins_with_dollar : Text → Bool
begins_with_dollar [] = false
begins_with_dollar (b ∷ t) = eqb b (code "$")

unfoldable pub collection_in : Root → Text → List Text → Reached
collection_in no_root s path = refused 5 0 []
collection_in missing s path = refused 6 0 []
collection_in (root at h) s path = element_of (from_holder field_step at 7 h s path)

unfoldable pub collection_named : Schema → Option Name → List Text → Reached
collection_named schema none path = refused 5 0 []
collection_named schema (some n) [] = refused 5 0 []
collection_named schema (some n) (s ∷ path) = collection_in (root_of schema n) s path

unfoldable pub collection_element : Option Field → List Text → Reached
collection_element none path = unknown
collection_element (some f) [] = unknown
collection_element (some f) (s ∷ path) = element_of (travel field_step (s ∷ path) f)

unfoldable pub collection_bound : Schema → (is_reference : Bool) → Segments → Option (Option Field) → Reached
collection_bound schema is_reference p (some f) = collection_element f p.others
collection_bound schema true p none = collection_named schema (name_of p.first) p.others
collection_bound schema false p none = refused 5 0 []

unfoldable pub collection_text : Schema → Environment → Text → Reached
collection_text schema env t =
    collection_bound schema (begins_with_dollar t) (split (behind_first t)) (bound (split (behind_first t)).first env)

-- the element of the collection that an `in` value names; the details are those of number 22
unfoldable pub collection : Schema → Environment → Value → Reached
collection schema env (constant e type) = refused 1 0 []
collection schema env (number e digits) = refused 1 0 []
collection schema env (string e t) = collection_text schema env t
collection schema env (array e vs) = refused 1 0 []
collection schema env (object e pairs) = refused 1 0 []
