-- The sentence is that of the detail that the check list finds, about the segments that were left there; where nothing is refused, nothing is said.
use Rattle.std.specs.Prelude.{ℕ, Bool, cond, ◌||◌, ◌≡◌, refl}
use Rattle.std.proofs.Math.Bool.{true, false}
use mathlib.Core.List.{List, [], ◌∷◌, ◌++◌}
use Rattle.std.proofs.Math.Option.{Option, none, some, map}
use Rattle.std.proofs.Math.Dec.{eqb}
use Rattle.text.specs.Ascii.{ascii}
use Rattle.sheet.specs.FieldKinds.{array_kind, map_kind}
use Rattle.definition.specs.Tree.{Text, Field, field, Items, absent, element, Holder, Schema, Value, constant, number, string, array, object}
use Rattle.reference.specs.Setting.{Name, name_of, Reader, kernel, Setting}
use Rattle.reference.specs.Path.{Segments, split}
use Rattle.reference.specs.Walk.{Step, refuse, leaf, free, into, lookup, member_step, Reached, refused, unknown, known, last_or, arrive, entry_of, travel, is_empty, walk_step, field_step, element_or, element_of_field, element_of}
use Rattle.reference.specs.Reference.{Environment, bound, Root, no_root, missing, root, root_of, from_holder, root_walk, from_root, from_name, from_element, from_bound, reference, behind_first, begins_with_dollar, collection_in, collection_named, collection_element, collection_bound, collection_text, collection}
use Rattle.message.specs.Words.{in_quotes, noun_of}
use Rattle.message.specs.Tell.{step_sentence, last_told, arrive_told, tell_walk, unknown_root, root_told, tell_path, unresolved, not_available, no_reference, tell_root, tell_name, tell_element, tell_bound, tell_reference, field_sentence, no_collection, tell_last, field_told, tell_field, no_name, collection_root_told, tell_collection_in, tell_collection_named, tell_collection_element, tell_collection_bound, tell_collection_text, tell_collection}

-- what may be said of a walk that is refused with a detail, so many segments being left
pub data WalkSays : (detail : ℕ) (left : List Text) → Text → Type 0 where
  of_step : {d : ℕ} {s : Text} {path : List Text} (walked : Text) (f : Field) → WalkSays d (s ∷ path) (step_sentence d walked s path f)
  of_empty : {left : List Text} → WalkSays 1 left (ascii "the path is empty")
  of_root : {s : Text} {path : List Text} (noun : Text) → WalkSays 2 (s ∷ path) (unknown_root noun s)

-- the same of a whole reference
pub data ReferenceSays (kind : ℕ) (expression : Text) : (detail : ℕ) (left : List Text) → Text → Type 0 where
  cannot_resolve : {d : ℕ} {left : List Text} {detail : Text} → WalkSays d left detail → ReferenceSays kind expression d left (unresolved kind expression detail)
  is_not_available : {left : List Text} → ReferenceSays kind expression 11 left (not_available kind expression)
  is_no_reference : {left : List Text} → ReferenceSays kind expression 12 left (no_reference kind expression)

-- something is said exactly where something is refused
pub data Told (Says : ℕ → List Text → Text → Type 0) : Reached → Option Text → Type 0 where
  nothing_unknown : Told Says unknown none
  nothing_known : {f : Field} → Told Says (known f) none
  something : {d at : ℕ} {left : List Text} {text : Text} → Says d left text → Told Says (refused d at left) (some text)

told-if : {Says : ℕ → List Text → Text → Type 0} {r r' : Reached} {x x' : Option Text} (b : Bool)
    → Told Says r x
    → Told Says r' x'
    → Told Says (cond b r r') (cond b x x')
told-if true h k = h
told-if false h k = k

last-told : {Says : ℕ → List Text → Text → Type 0} {r : Reached} {x : Option Text} (path : List Text) → Told Says r x → Told Says (last_or path r) (last_told path x)
unfolding last_or last_told
last-told [] h = nothing_unknown
last-told (s ∷ path) h = h

arrive-told : {onward : Field → Reached} {onward_told : Field → Option Text} (at : ℕ) (walked s : Text) (path : List Text) (f : Field) (step : Step)
    → ((g : Field) → Told WalkSays (onward g) (onward_told g))
    → Told WalkSays (arrive at s path onward step) (arrive_told walked s path f onward_told step)
unfolding arrive arrive_told
arrive-told at walked s path f (refuse d) h = something (of_step walked f)
arrive-told at walked s path f (leaf d) h = last-told path (something (of_step walked f))
arrive-told at walked s path f free h = nothing_unknown
arrive-told at walked s path f (into g) h = h g

pub walk-told : (is_service : Bool) (walked : Text) (path : List Text) (f : Field)
    → Told WalkSays (travel (walk_step kernel is_service) path f) (tell_walk is_service walked path f)
unfolding travel tell_walk
walk-told b walked [] f = nothing_known
walk-told b walked (s ∷ path) f =
    arrive-told (entry_of f) walked s path f (walk_step kernel b f s) (λ g. walk-told b (walked ++ (ascii "." ++ s)) path g)

-- a step to a member is never a leaf
root-told : (is_service : Bool) (noun : Text) (at : ℕ) (s : Text) (path : List Text) (x : Option Field) (is_open : Bool)
    → Told WalkSays (arrive at s path (λ g. travel (walk_step kernel is_service) path g) (member_step x is_open 2)) (root_told is_service noun s path (member_step x is_open 2))
unfolding arrive root_told member_step
root-told b noun at s path (some f) is_open = walk-told b s path f
root-told b noun at s path none true = nothing_unknown
root-told b noun at s path none false = something (of_root noun)

path-told : (is_service : Bool) (noun : Text) (at : ℕ) (h : Holder) (s : Text) (path : List Text)
    → Told WalkSays (root_walk kernel is_service at h s path) (tell_path is_service noun h s path)
unfolding root_walk from_holder tell_path
path-told b noun at h s path = told-if (is_empty s) (something of_empty) (root-told b noun at s path (lookup s h.members) h.is_open)

module _ (kind : ℕ) (expression : Text) where
  resolve-told : {r : Reached} {x : Option Text} → Told WalkSays r x → Told (ReferenceSays kind expression) r (map (unresolved kind expression) x)
  resolve-told nothing_unknown = nothing_unknown
  resolve-told nothing_known = nothing_known
  resolve-told (something h) = something (cannot_resolve h)

  from-root-told : (setting : Setting) (n : Name) (x : Root) (s : Text) (path : List Text)
      → setting.reader ≡ kernel
      → Told (ReferenceSays kind expression) (from_root setting n x s path) (tell_root kind expression setting n x s path)
  unfolding from_root tell_root
  from-root-told setting n no_root s path k = something is_no_reference
  from-root-told setting n missing s path k = something is_not_available
  from-root-told setting n (root at h) s path k =
      rw k (told-if (setting.may_read n) (resolve-told (path-told setting.is_service (noun_of n) at h s path)) (something is_not_available))

  from-name-told : (setting : Setting) (schema : Schema) (o : Option Name) (path : List Text)
      → setting.reader ≡ kernel
      → Told (ReferenceSays kind expression) (from_name setting schema o path) (tell_name kind expression setting schema o path)
  unfolding from_name tell_name
  from-name-told setting schema none path k = something is_no_reference
  from-name-told setting schema (some n) [] k = told-if (setting.may_read n) nothing_unknown (something is_no_reference)
  from-name-told setting schema (some n) (s ∷ path) k = from-root-told setting n (root_of schema n) s path k

  from-element-told : (is_service : Bool) (name : Text) (x : Option Field) (path : List Text)
      → Told (ReferenceSays kind expression) (from_element is_service x path) (tell_element kind expression is_service name x path)
  unfolding from_element tell_element
  from-element-told b name none path = nothing_unknown
  from-element-told b name (some f) path = resolve-told (walk-told b (ascii "$" ++ name) path f)

  from-bound-told : (setting : Setting) (schema : Schema) (p : Segments) (x : Option (Option Field))
      → setting.reader ≡ kernel
      → Told (ReferenceSays kind expression) (from_bound setting schema p x) (tell_bound kind expression setting schema p x)
  unfolding from_bound tell_bound
  from-bound-told setting schema p none k = from-name-told setting schema (name_of p.first) p.others k
  from-bound-told setting schema p (some x) k = from-element-told setting.is_service p.first x p.others

-- a reference, in a call whose reader is the kernel
pub reference-told : (kind : ℕ) (setting : Setting) (schema : Schema) (env : Environment) (t : Text)
    → setting.reader ≡ kernel
    → Told (ReferenceSays kind (ascii "$" ++ t)) (reference setting schema env t) (tell_reference kind setting schema env t)
unfolding reference tell_reference
reference-told kind setting schema env t k = from-bound-told kind (ascii "$" ++ t) setting schema (split t) (bound (split t).first env) k

-- Collections.

pub data CollectionSays (expression : Text) : (detail : ℕ) (left : List Text) → Text → Type 0 where
  no_string : {left : List Text} → CollectionSays expression 1 left (ascii "`in` is a reference to an array or map field")
  of_member : {d : ℕ} {s : Text} {path : List Text} (f : Field) → CollectionSays expression d (s ∷ path) (field_sentence d s f)
  of_kind : {left : List Text} (f : Field) → CollectionSays expression 4 left (no_collection f)
  of_name : {left : List Text} → CollectionSays expression 5 left (no_name expression)
  -- these two never occur
  of_arguments : {left : List Text} → CollectionSays expression 6 left (in_quotes expression ++ ascii " is not available here")
  of_lookup : {left : List Text} → CollectionSays expression 7 left (in_quotes expression ++ ascii " names nothing the schema declares")

module _ (expression : Text) where
  items-told : (i : Items) → Told (CollectionSays expression) (element_or i) none
  unfolding element_or
  items-told absent = nothing_unknown
  items-told (element f) = nothing_known

  element-told : (f : Field) → Told (CollectionSays expression) (element_of_field f) (tell_last f)
  unfolding element_of_field tell_last
  element-told (field e kind o tag items members) = told-if (eqb kind array_kind || eqb kind map_kind) (items-told items) (something (of_kind (field e kind o tag items members)))

  last-member-told : (d at : ℕ) (s : Text) (path rest : List Text) (f : Field)
      → Told (CollectionSays expression) (element_of (last_or rest (refused d at (s ∷ path)))) (last_told rest (some (field_sentence d s f)))
  unfolding element_of last_or last_told
  last-member-told d at s path [] f = nothing_unknown
  last-member-told d at s path (x ∷ rest) f = something (of_member f)

  field-arrive-told : (onward : Field → Reached) (onward_told : Field → Option Text) (at : ℕ) (s : Text) (path : List Text) (f : Field) (step : Step)
      → ((g : Field) → Told (CollectionSays expression) (element_of (onward g)) (onward_told g))
      → Told (CollectionSays expression) (element_of (arrive at s path onward step)) (field_told s path f onward_told step)
  unfolding arrive field_told element_of
  field-arrive-told onward onward_told at s path f (refuse d) h = something (of_member f)
  field-arrive-told onward onward_told at s path f (leaf d) h = last-member-told d at s path path f
  field-arrive-told onward onward_told at s path f free h = nothing_unknown
  field-arrive-told onward onward_told at s path f (into g) h = h g

  field-told : (path : List Text) (f : Field) → Told (CollectionSays expression) (element_of (travel field_step path f)) (tell_field path f)
  unfolding travel tell_field element_of
  field-told [] f = element-told f
  field-told (s ∷ path) f = field-arrive-told (λ g. travel field_step path g) (λ g. tell_field path g) (entry_of f) s path f (field_step f s) (λ g. field-told path g)

  holder-told : (at : ℕ) (s : Text) (path : List Text) (x : Option Field) (is_open : Bool)
      → Told (CollectionSays expression) (element_of (arrive at s path (λ g. travel field_step path g) (member_step x is_open 7))) (collection_root_told expression path (member_step x is_open 7))
  unfolding arrive collection_root_told member_step element_of
  holder-told at s path (some f) is_open = field-told path f
  holder-told at s path none true = nothing_unknown
  holder-told at s path none false = something of_lookup

  collection-in-told : (x : Root) (s : Text) (path : List Text) → Told (CollectionSays expression) (collection_in x s path) (tell_collection_in expression x s path)
  unfolding collection_in tell_collection_in from_holder
  collection-in-told no_root s path = something of_name
  collection-in-told missing s path = something of_arguments
  collection-in-told (root at h) s path = holder-told at s path (lookup s h.members) h.is_open

  collection-named-told : (schema : Schema) (o : Option Name) (path : List Text)
      → Told (CollectionSays expression) (collection_named schema o path) (tell_collection_named expression schema o path)
  unfolding collection_named tell_collection_named
  collection-named-told schema none path = something of_name
  collection-named-told schema (some n) [] = something of_name
  collection-named-told schema (some n) (s ∷ path) = collection-in-told (root_of schema n) s path

  collection-element-told : (x : Option Field) (path : List Text) → Told (CollectionSays expression) (collection_element x path) (tell_collection_element expression x path)
  unfolding collection_element tell_collection_element
  collection-element-told none path = nothing_unknown
  collection-element-told (some f) [] = nothing_unknown
  collection-element-told (some f) (s ∷ path) = field-told (s ∷ path) f

  collection-bound-told : (schema : Schema) (is_reference : Bool) (p : Segments) (x : Option (Option Field))
      → Told (CollectionSays expression) (collection_bound schema is_reference p x) (tell_collection_bound expression schema is_reference p x)
  unfolding collection_bound tell_collection_bound
  collection-bound-told schema is_reference p (some f) = collection-element-told f p.others
  collection-bound-told schema true p none = collection-named-told schema (name_of p.first) p.others
  collection-bound-told schema false p none = something of_name

-- the text of an `in` value that is a string
unfoldable pub text_of : Value → Text
text_of (constant e type) = []
text_of (number e digits) = []
text_of (string e t) = t
text_of (array e values) = []
text_of (object e pairs) = []

pub collection-told : (schema : Schema) (env : Environment) (v : Value)
    → Told (CollectionSays (text_of v)) (collection schema env v) (tell_collection schema env v)
unfolding collection tell_collection collection_text tell_collection_text text_of
collection-told schema env (constant e type) = something no_string
collection-told schema env (number e digits) = something no_string
collection-told schema env (string e t) =
    collection-bound-told t schema (begins_with_dollar t) (split (behind_first t)) (bound (split (behind_first t)).first env)
collection-told schema env (array e values) = something no_string
collection-told schema env (object e pairs) = something no_string
