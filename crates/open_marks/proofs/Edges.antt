-- Sheets by computation: which byte is the mark of which entry. The record holds `home`, an object with `city`, and `tags`, whose elements are objects;
-- the arguments hold the map `by`.
use Prim.Native.Nat.{ℕ}
use mathlib.Core.Bool.{false}
use mathlib.Core.List.{List}
use mathlib.Core.Option.{Option, none, some, map}
use mathlib.Core.Path.{◌≡◌, refl}
use lib.Dec.{eqb}
use Rattle.text.specs.Ascii.{ascii}
use Rattle.definition.specs.Tree.{Schema, field, absent, element, no_members, member}
use Rattle.definition.specs.Decode.{decode_schema}
use Rattle.definition.specs.Computing.{computing}
use Rattle.widening.specs.Opening.{opened_field, opened_items, opened_members, opened_holder, opened_arguments, opened}

-- the schema of a sheet, with that mark open; under `unfolding with_open` it computes
with_open : (entry : ℕ) → List ℕ → Option Schema
unfolding computing opened_field opened_items opened_members opened_holder opened_arguments opened
with_open entry sheet = map (opened (eqb entry)) (decode_schema sheet)

closed : List ℕ
unfolding ascii
closed = ascii "H,0,2,0,1\nF,7,0,0,1,4,-,home\nF,1,0,0,0,4,-,city\nF,6,0,1,0,4,-,tags\nF,7,0,0,0,0,-,\nF,10,0,0,0,2,-,by\n"

-- each with the number of its entry
closed-holds : decode_schema closed
    ≡ some
    (record {
      fields =
          record {
            is_open = false;
            members =
                member (ascii "home") (field 2 7 false none absent (member (ascii "city") (field 3 1 false none absent no_members) no_members))
                (member (ascii "tags") (field 4 6 false none (element (field 5 7 false none absent no_members)) no_members) no_members);
          };
      arguments = some (record { is_open = false; members = member (ascii "by") (field 6 10 false none absent no_members) no_members });
    })
unfolding with_open closed
closed-holds = refl

arguments-mark : with_open 0 closed
    ≡ decode_schema (ascii "H,0,2,1,1\nF,7,0,0,1,4,-,home\nF,1,0,0,0,4,-,city\nF,6,0,1,0,4,-,tags\nF,7,0,0,0,0,-,\nF,10,0,0,0,2,-,by\n")
unfolding with_open closed
arguments-mark = refl

record-mark : with_open 1 closed
    ≡ decode_schema (ascii "H,1,2,0,1\nF,7,0,0,1,4,-,home\nF,1,0,0,0,4,-,city\nF,6,0,1,0,4,-,tags\nF,7,0,0,0,0,-,\nF,10,0,0,0,2,-,by\n")
unfolding with_open closed
record-mark = refl

object-mark : with_open 2 closed
    ≡ decode_schema (ascii "H,0,2,0,1\nF,7,1,0,1,4,-,home\nF,1,0,0,0,4,-,city\nF,6,0,1,0,4,-,tags\nF,7,0,0,0,0,-,\nF,10,0,0,0,2,-,by\n")
unfolding with_open closed
object-mark = refl

element-mark : with_open 5 closed
    ≡ decode_schema (ascii "H,0,2,0,1\nF,7,0,0,1,4,-,home\nF,1,0,0,0,4,-,city\nF,6,0,1,0,4,-,tags\nF,7,1,0,0,0,-,\nF,10,0,0,0,2,-,by\n")
unfolding with_open closed
element-mark = refl

-- a kind of two digits
map-mark : with_open 6 closed
    ≡ decode_schema (ascii "H,0,2,0,1\nF,7,0,0,1,4,-,home\nF,1,0,0,0,4,-,city\nF,6,0,1,0,4,-,tags\nF,7,0,0,0,0,-,\nF,10,1,0,0,2,-,by\n")
unfolding with_open closed
map-mark = refl

past_the_end : with_open 7 closed ≡ decode_schema closed
unfolding with_open closed
past_the_end = refl

-- no arguments, no mark
dash-stays : with_open 0 (ascii "H,0,0,-,0\n") ≡ decode_schema (ascii "H,0,0,-,0\n")
unfolding with_open
dash-stays = refl

open_stays : with_open 1 (ascii "H,1,0,-,0\n") ≡ decode_schema (ascii "H,1,0,-,0\n")
unfolding with_open
open_stays = refl
