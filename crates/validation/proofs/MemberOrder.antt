-- Two defects in one object: that of the member written first is found, whatever its key, by computation.
use mathlib.Core.Path.{◌≡◌, refl}
use Rattle.text.specs.Ascii.{ascii}
use Rattle.validation.proofs.Calls.{ask, heard, finds}
use Rattle.validation.proofs.Edges.{empty}

b-written-first : heard (ask 1 2 empty (ascii "T\nV,7,2,\nK,1,b\nV,5,2,$x\nK,1,a\nV,5,2,$y\n")) ≡ finds 18 1 12 4 0 0 3 (ascii "r.b")
unfolding heard empty
b-written-first = refl

a-written-first : heard (ask 1 2 empty (ascii "T\nV,7,2,\nK,1,a\nV,5,2,$y\nK,1,b\nV,5,2,$x\n")) ≡ finds 18 1 12 4 0 0 3 (ascii "r.a")
unfolding heard empty
a-written-first = refl
