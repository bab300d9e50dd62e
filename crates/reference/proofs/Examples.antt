-- Small examples of references and collections, by computation.
use Prim.Native.String.{String}
use mathlib.Core.Bool.{Bool, true, false}
use mathlib.Core.List.{[], ◌∷◌}
use mathlib.Core.Option.{none, some}
use mathlib.Core.Path.{◌≡◌, refl}
use Rattle.text.specs.Ascii.{ascii}
use Rattle.definition.specs.Tree.{Field, field, Items, absent, element, no_members, member, Schema, string}
use Rattle.reference.specs.Setting.{projection, setting_of}
use Rattle.reference.specs.Walk.{Reached, refused, unknown, known}
use Rattle.reference.specs.Reference.{Environment, reference, key_walk, collection}
use Rattle.reference.specs.Computing.{computing}

unfoldable pub integer : Field
integer = field 3 2 false none absent no_members

unfoldable pub object : (is_open : Bool) → Field
object is_open = field 2 7 is_open none absent no_members

unfoldable pub array_of : Items → Field
array_of items = field 2 6 false none items no_members

-- a closed record with one field, `f`, and no arguments
unfoldable pub record_of : Field → Schema
record_of f = record { fields = record { is_open = false; members = member (ascii "f") f no_members }; arguments = none }

-- an Invariant's references under service/1
unfoldable pub reads : Field → Environment → String → Reached
reads f env t = reference (setting_of 1 2) (record_of f) env (ascii t)

unfoldable pub walks : Field → Environment → String → Reached
walks f env t = collection (record_of f) env (string 3 (ascii t))

open-object : reads (object true) [] "fields.f.x.y" ≡ unknown
unfolding computing reads record_of object
open-object = refl

closed-object : reads (object false) [] "fields.f.x.y" ≡ refused 3 2 (ascii "x" ∷ ascii "y" ∷ [])
unfolding computing reads record_of object
closed-object = refl

-- an array says nothing of its elements where items are absent
no_items : reads (array_of absent) [] "fields.f.0.x" ≡ unknown
unfolding computing reads record_of array_of
no_items = refl

no-items-to-walk : walks (array_of absent) [] "$fields.f" ≡ unknown
unfolding computing walks record_of array_of
no-items-to-walk = refl

items-to-walk : walks (array_of (element integer)) [] "$fields.f" ≡ known integer
unfolding computing walks record_of array_of integer
items-to-walk = refl

-- of two binders with one name the innermost wins
unfoldable pub shadowed : Environment
shadowed = record { name = ascii "b"; element = none } ∷ record { name = ascii "b"; element = some integer } ∷ []

innermost-first : reads (object false) shadowed "b.x" ≡ unknown
unfolding computing reads record_of object shadowed integer
innermost-first = refl

unfoldable pub text : Field
text = field 2 1 false none absent no_members

-- a path of the record with that field, as a projection's key
unfoldable pub keys : (is_service : Bool) → Field → String → Reached
keys is_service f t = key_walk projection is_service (record_of f) (ascii t)

-- a text's count: references are read by the kernel; under kernel/1 no text has one
count-read : reads text [] "fields.f.count" ≡ unknown
unfolding computing reads record_of text
count-read = refl

count-key : keys true text "f.count" ≡ refused 13 2 (ascii "count" ∷ [])
unfolding computing keys record_of text
count-key = refl

count-kernel : keys false text "f.count" ≡ refused 10 2 (ascii "count" ∷ [])
unfolding computing keys record_of text
count-kernel = refl
