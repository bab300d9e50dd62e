-- The numbers of entries in decoded trees, from 1, by computation.
use mathlib.Core.Bool.{false}
use mathlib.Core.List.{[]}
use mathlib.Core.Option.{none, some}
use mathlib.Core.Path.{◌≡◌, refl}
use Rattle.text.specs.Ascii.{ascii}
use Rattle.definition.specs.Tree.{field, absent, element, no_members, member, string, array, value, no_values, object, pair, no_pairs, constant, one, rule, template}
use Rattle.definition.specs.Decode.{decode_schema, decode_rule}
use Rattle.definition.specs.Computing.{computing}

places-of-fields : decode_schema (ascii "H,0,2,-,0\nF,6,0,1,0,1,-,a\nF,2,0,0,0,0,-,\nF,2,0,0,0,1,-,b\n")
    ≡ some
    (record {
      fields =
          record {
            is_open = false;
            members =
                member (ascii "a") (field 2 6 false none (element (field 3 2 false none absent no_members)) no_members)
                (member (ascii "b") (field 4 2 false none absent no_members) no_members);
          };
      arguments = none;
    })
unfolding computing
places-of-fields = refl

places-of-a-rule : decode_rule (ascii "R,-,-,\nC,5,0,\nV,5,3,$id\n") ≡ some (rule none none (one 2 5 (string 3 (ascii "$id"))))
unfolding computing
places-of-a-rule = refl

-- a key is an entry too
places-of-a-template : decode_rule (ascii "T\nV,6,2,\nV,7,1,\nK,1,k\nV,1,0,\nV,5,0,\n")
    ≡ some (template (array 2 (value (object 3 (pair (ascii "k") (constant 5 1) no_pairs)) (value (string 6 []) no_values))))
unfolding computing
places-of-a-template = refl
