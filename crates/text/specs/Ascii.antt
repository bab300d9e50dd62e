-- The bytes of a text that is written out in these definitions; its characters are ASCII, one byte each.
use Rattle.std.specs.Prelude.{ℕ}
use Prim.Native.Char.{code}
use Prim.Native.String.{String, [], ◌∷◌}
use mathlib.Core.List as List

unfoldable pub ascii : String → List.List ℕ
ascii [] = List.[]
ascii (c ∷ t) = List.◌∷◌ (code c) (ascii t)
