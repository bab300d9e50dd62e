-- The keys of an object, by computation: they are in the order given, none twice, next to each other or apart.
use mathlib.Core.Option.{none, some}
use mathlib.Core.Path.{◌≡◌, refl}
use Rattle.text.specs.Ascii.{ascii}
use Rattle.definition.specs.Tree.{constant, object, no_pairs, pair, template}
use Rattle.definition.specs.Decode.{decode_rule}
use Rattle.definition.specs.Computing.{computing}

keys-fall : decode_rule (ascii "T\nV,7,2,\nK,1,b\nV,1,0,\nK,1,a\nV,1,0,\n")
    ≡ some (template (object 2 (pair (ascii "b") (constant 4 1) (pair (ascii "a") (constant 6 1) no_pairs))))
unfolding computing
keys-fall = refl

key-repeated : decode_rule (ascii "T\nV,7,2,\nK,1,a\nV,1,0,\nK,1,a\nV,1,0,\n") ≡ none
unfolding computing
key-repeated = refl

key-repeated-apart : decode_rule (ascii "T\nV,7,3,\nK,1,a\nV,1,0,\nK,1,b\nV,1,0,\nK,1,a\nV,1,0,\n") ≡ none
unfolding computing
key-repeated-apart = refl

-- an object inside another has keys of its own
key-inside : decode_rule (ascii "T\nV,7,1,\nK,1,a\nV,7,1,\nK,1,a\nV,1,0,\n")
    ≡ some (template (object 2 (pair (ascii "a") (object 4 (pair (ascii "a") (constant 6 1) no_pairs)) no_pairs)))
unfolding computing
key-inside = refl
