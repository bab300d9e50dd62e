-- What is said of a reference that cannot be read, and of an `in` value that names no collection: the walks of validation.rs once more, with the
-- text walked so far, as `validate_reference`, `walk_field_path` and `collection_element` have it. None where nothing is refused.
use Rattle.std.specs.Prelude.{ℕ, Bool, true, false, cond, ◌||◌, List, [], ◌∷◌, ◌++◌, eqb}
use Prim.Native.Char.{code}
use Rattle.std.proofs.Math.Option.{Option, none, some, map}
use Rattle.text.specs.Ascii.{ascii}
use Rattle.sheet.specs.FieldKinds.{array_kind, map_kind}
use Rattle.definition.specs.Tree.{Text, Field, field, Items, absent, element, Holder, Schema, Value, constant, number, string, array, object}
use Rattle.reference.specs.Setting.{Name, name_of, kernel, Setting}
use Rattle.reference.specs.Path.{Segments, split}
use Rattle.reference.specs.Walk.{Step, refuse, leaf, free, into, lookup, member_step, is_empty, content_key, walk_step, field_step}
use Rattle.reference.specs.Reference.{Environment, bound, Root, no_root, missing, root, root_of, behind_first, begins_with_dollar}
use Rattle.message.specs.Words.{in_quotes, dotted_tail, path_text, kind_of, text_in, tag_of, what, allowed, noun_of}

-- what a union carries: its tag, empty where it has none, and the key of its content
unfoldable pub carries : Option Text → Text
carries tag = in_quotes (text_in tag) ++ (ascii " and " ++ in_quotes (content_key tag))

-- three of the sentences about one segment, by what the field says of itself
unfoldable pub no_union_member : (walked s : Text) → Option Text → Text
no_union_member walked s tag =
    in_quotes walked ++ (ascii " is a union field, so " ++ (in_quotes s ++ (ascii " resolves to nothing; it carries " ++ carries tag)))

unfoldable pub no_count : (walked kind : Text) → Text
no_count walked kind =
    in_quotes walked ++ (ascii " is a " ++ (kind ++ ascii " field, so 'count' resolves to nothing; `count` reads a text, an array or a map"))

unfoldable pub no_member : (walked kind s : Text) → Text
no_member walked kind s =
    in_quotes walked ++ (ascii " is a " ++ (kind ++ (ascii " field, so " ++ (in_quotes s ++ ascii " resolves to nothing"))))

-- The rest of a sentence about one segment, by the detail of number 18: `walked` is what was walked to the field, `s` the segment, `path` what
-- follows it.
unfoldable pub step_sentence : (detail : ℕ) (walked s : Text) (path : List Text) → Field → Text
step_sentence d walked s path f =
    cond (eqb d 1) (ascii "the path is empty")
    (cond (eqb d 3) (in_quotes walked ++ (ascii " declares no property " ++ in_quotes s))
    (cond (eqb d 4) (in_quotes walked ++ (ascii " is an array field, so " ++ (in_quotes s ++ ascii " resolves to nothing; an array addresses `count` or an element index")))
    (cond (eqb d 5) (in_quotes walked ++ (ascii " is a map field, so " ++ (in_quotes s ++ ascii " resolves to nothing; a map's keys are not addressable and only `count` reads it")))
    (cond (eqb d 6) (in_quotes (walked ++ (ascii "." ++ s)) ++ (ascii " is a count, so " ++ (in_quotes (path_text path) ++ ascii " resolves to nothing")))
    (cond (eqb d 7) (in_quotes (walked ++ (ascii "." ++ s)) ++ (ascii " is the union's tag, so " ++ (in_quotes (path_text path) ++ ascii " resolves to nothing")))
    (cond (eqb d 8) (no_union_member walked s (tag_of f))
    (cond (eqb d 9) (no_count walked (kind_of f)) (no_member walked (kind_of f) s))))))))

-- a leaf is refused where more segments follow
unfoldable pub last_told : List Text → Option Text → Option Text
last_told [] told = none
last_told (s ∷ path) told = told

-- where a step leads, as `arrive` has it
unfoldable pub arrive_told : (walked s : Text) (path : List Text) → Field → (Field → Option Text) → Step → Option Text
arrive_told walked s path f onward (refuse d) = some (step_sentence d walked s path f)
arrive_told walked s path f onward (leaf d) = last_told path (some (step_sentence d walked s path f))
arrive_told walked s path f onward free = none
arrive_told walked s path f onward (into g) = onward g

-- `walk_field_path`
unfoldable pub tell_walk : (is_service : Bool) (walked : Text) → List Text → Field → Option Text
tell_walk is_service walked [] f = none
tell_walk is_service walked (s ∷ path) f =
    arrive_told walked s path f (λ g. tell_walk is_service (walked ++ (ascii "." ++ s)) path g) (walk_step kernel is_service f s)

unfoldable pub unknown_root : (noun s : Text) → Text
unknown_root noun s = ascii "unknown " ++ (noun ++ (ascii " " ++ in_quotes s))

-- the first segment after a root
unfoldable pub root_told : (is_service : Bool) (noun s : Text) → List Text → Step → Option Text
root_told is_service noun s path (refuse d) = some (unknown_root noun s)
root_told is_service noun s path (leaf d) = none
root_told is_service noun s path free = none
root_told is_service noun s path (into g) = tell_walk is_service s path g

-- `validate_reference_path`
unfoldable pub tell_path : (is_service : Bool) (noun : Text) → Holder → Text → List Text → Option Text
tell_path is_service noun h s path =
    cond (is_empty s) (some (ascii "the path is empty")) (root_told is_service noun s path (member_step (lookup s h.members) h.is_open 2))

module _ (kind : ℕ) (expression : Text) where
  unfoldable pub unresolved : Text → Text
  unresolved detail = in_quotes expression ++ (ascii " cannot resolve: " ++ detail)

  unfoldable pub may_read : Text
  may_read = ascii "; " ++ (what kind ++ (ascii " may read " ++ allowed kind))

  unfoldable pub not_available : Text
  not_available = in_quotes expression ++ (ascii " is not available here" ++ may_read)

  unfoldable pub no_reference : Text
  no_reference = in_quotes expression ++ (ascii " is not a reference available here" ++ may_read)

  unfoldable pub tell_root : Setting → Name → Root → Text → List Text → Option Text
  tell_root setting n no_root s path = some no_reference
  tell_root setting n missing s path = some not_available
  tell_root setting n (root at h) s path =
      cond (setting.may_read n) (map unresolved (tell_path setting.is_service (noun_of n) h s path)) (some not_available)

  unfoldable pub tell_name : Setting → Schema → Option Name → List Text → Option Text
  tell_name setting schema none path = some no_reference
  tell_name setting schema (some n) [] = cond (setting.may_read n) none (some no_reference)
  tell_name setting schema (some n) (s ∷ path) = tell_root setting n (root_of schema n) s path

  unfoldable pub tell_element : (is_service : Bool) (name : Text) → Option Field → List Text → Option Text
  tell_element is_service name none path = none
  tell_element is_service name (some f) path = map unresolved (tell_walk is_service (ascii "$" ++ name) path f)

  unfoldable pub tell_bound : Setting → Schema → Segments → Option (Option Field) → Option Text
  tell_bound setting schema p none = tell_name setting schema (name_of p.first) p.others
  tell_bound setting schema p (some x) = tell_element setting.is_service p.first x p.others

-- `validate_reference`, of the text after the `$`
unfoldable pub tell_reference : (kind : ℕ) → Setting → Schema → Environment → Text → Option Text
tell_reference kind setting schema env t =
    tell_bound kind (ascii "$" ++ t) setting schema (split t) (bound (split t).first env)

-- Collections

unfoldable pub memberless : (kind s : Text) → Text
memberless kind s = ascii "a " ++ (kind ++ (ascii " field has no member " ++ in_quotes s))

unfoldable pub field_sentence : (detail : ℕ) → Text → Field → Text
field_sentence d s f = cond (eqb d 2) (ascii "nothing declares a property " ++ in_quotes s) (memberless (kind_of f) s)

unfoldable pub no_collection : Field → Text
no_collection f = ascii "it is a " ++ (kind_of f ++ ascii " field, and a quantifier walks an array or a map")

-- `element_of`
unfoldable pub tell_last : Field → Option Text
tell_last (field e kind is_open tag items ms) =
    cond (eqb kind array_kind || eqb kind map_kind) none (some (no_collection (field e kind is_open tag items ms)))

unfoldable pub field_told : Text → List Text → Field → (Field → Option Text) → Step → Option Text
field_told s path f onward (refuse d) = some (field_sentence d s f)
field_told s path f onward (leaf d) = last_told path (some (field_sentence d s f))
field_told s path f onward free = none
field_told s path f onward (into g) = onward g

-- `field_at`, then `element_of`
unfoldable pub tell_field : List Text → Field → Option Text
tell_field [] f = tell_last f
tell_field (s ∷ path) f = field_told s path f (λ g. tell_field path g) (field_step f s)

module _ (expression : Text) where
  unfoldable pub no_name : Text
  no_name = in_quotes expression ++ ascii " is not a reference to a collection"

  -- the two sentences that never occur, since the references of an `in` value are checked before it
  unfoldable pub collection_root_told : List Text → Step → Option Text
  collection_root_told path (refuse d) = some (in_quotes expression ++ ascii " names nothing the schema declares")
  collection_root_told path (leaf d) = none
  collection_root_told path free = none
  collection_root_told path (into g) = tell_field path g

  unfoldable pub tell_collection_in : Root → Text → List Text → Option Text
  tell_collection_in no_root s path = some no_name
  tell_collection_in missing s path = some (in_quotes expression ++ ascii " is not available here")
  tell_collection_in (root at h) s path = collection_root_told path (member_step (lookup s h.members) h.is_open 7)

  unfoldable pub tell_collection_named : Schema → Option Name → List Text → Option Text
  tell_collection_named schema none path = some no_name
  tell_collection_named schema (some n) [] = some no_name
  tell_collection_named schema (some n) (s ∷ path) = tell_collection_in (root_of schema n) s path

  unfoldable pub tell_collection_element : Option Field → List Text → Option Text
  tell_collection_element none path = none
  tell_collection_element (some f) [] = none
  tell_collection_element (some f) (s ∷ path) = tell_field (s ∷ path) f

  unfoldable pub tell_collection_bound : Schema → (is_reference : Bool) → Segments → Option (Option Field) → Option Text
  tell_collection_bound schema is_reference p (some f) = tell_collection_element f p.others
  tell_collection_bound schema true p none = tell_collection_named schema (name_of p.first) p.others
  tell_collection_bound schema false p none = some no_name

unfoldable pub tell_collection_text : Schema → Environment → Text → Option Text
tell_collection_text schema env t =
    tell_collection_bound t schema (begins_with_dollar t) (split (behind_first t)) (bound (split (behind_first t)).first env)

-- `collection_element`
unfoldable pub tell_collection : Schema → Environment → Value → Option Text
tell_collection schema env (constant e type) = some (ascii "`in` is a reference to an array or map field")
tell_collection schema env (number e digits) = some (ascii "`in` is a reference to an array or map field")
tell_collection schema env (string e t) = tell_collection_text schema env t
tell_collection schema env (array e vs) = some (ascii "`in` is a reference to an array or map field")
tell_collection schema env (object e pairs) = some (ascii "`in` is a reference to an array or map field")
