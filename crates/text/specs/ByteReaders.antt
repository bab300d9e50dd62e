-- Readers of single bytes, and of so many bytes.
use Rattle.std.specs.Prelude.{ℕ, cond, List, [], ◌∷◌, length, take, drop, leb, eqb}
use Prim.Native.Char.{Char, code}
use Rattle.std.proofs.Math.Option.{none, some}
use Rattle.text.specs.Reader.{Reader}

unfoldable pub byte : ℕ → Reader (List ℕ) (Unit {0})
byte b [] = none
byte b (a ∷ s) = cond (eqb a b) (some (tt, s)) none

abbrev pub letter : Char → Reader (List ℕ) (Unit {0})
letter c = byte (code c)

abbrev pub comma : Reader (List ℕ) (Unit {0})
comma = letter ","

abbrev pub line_end : Reader (List ℕ) (Unit {0})
line_end = byte 10

unfoldable pub bytes : ℕ → Reader (List ℕ) (List ℕ)
bytes n s = cond (leb n (length s)) (some (take n s, drop n s)) none
