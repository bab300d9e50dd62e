-- A field and a line, by the writes that make them up.
use Prim.Native.Nat.{ℕ}
use mathlib.Core.List.{List, [], ◌∷◌}
use Rattle.text.specs.Numeral.{decimal_of}
use Rattle.buffer.specs.Wrote.{Wrote}
use Rattle.buffer.specs.WroteLaws.{wrote_then}
use Rattle.check_file.specs.Line.{field_of, written, line_of, numbers}

pub wrote-field : (n : ℕ) {before middle after : List ℕ} {at m next : ℕ}
    → Wrote before middle at (decimal_of n) m
    → Wrote middle after m (44 ∷ []) next
    → Wrote before after at (field_of n) next
unfolding field_of
wrote-field n u w = wrote_then u w

pub wrote-line : (number family detail place over passed size : ℕ) (path : List ℕ) {l0 l1 l2 l3 l4 l5 l6 l7 l8 : List ℕ} {a b c d e f g next : ℕ}
    → Wrote l0 l1 0 (field_of number) a
    → Wrote l1 l2 a (field_of family) b
    → Wrote l2 l3 b (field_of detail) c
    → Wrote l3 l4 c (field_of place) d
    → Wrote l4 l5 d (field_of over) e
    → Wrote l5 l6 e (field_of passed) f
    → Wrote l6 l7 f path g
    → Wrote l7 l8 g (10 ∷ []) next
    → Wrote l0 l8 0 (line_of (numbers number family detail place over passed size) path) next
unfolding line_of written
wrote-line number family detail place over passed size path w1 w2 w3 w4 w5 w6 w7 w8 =
    wrote_then w1 (wrote_then w2 (wrote_then w3 (wrote_then w4 (wrote_then w5 (wrote_then w6 (wrote_then w7 w8))))))
