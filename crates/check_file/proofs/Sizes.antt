-- A file of 65,536 bytes, the most that a file may have, and one of a byte more, by computation.
use Prim.Native.Nat.{ℕ}
use mathlib.Core.Bool.{Bool, true, false}
use mathlib.Core.List.{List, ◌++◌}
use mathlib.Core.Option.{Option, none, some}
use mathlib.Core.Path.{◌≡◌, refl}
use lib.ListN.{length, replicate}
use Rattle.text.specs.Ascii.{ascii}
use Rattle.validation.specs.Computing.{computing}
use Rattle.check_file.specs.File.{Parts, field, end, texts, whole_file, taken_apart}

-- under `unfolding is_taken_apart` it computes
unfoldable is_some : Option Parts → Bool
is_some none = false
is_some (some p) = true

unfoldable is_taken_apart : List ℕ → Bool
unfolding computing field end texts whole_file taken_apart is_some
is_taken_apart file = is_some (taken_apart file)

-- no label, no schema, and a rule sheet of so many bytes
unfoldable file_of : (head : List ℕ) (size : ℕ) → List ℕ
file_of head size = head ++ replicate size 0x6B

size-65536 : length (file_of (ascii "1,1,0,0,65521,\n") 65521) ≡ 65536
unfolding is_taken_apart ascii file_of
size-65536 = refl

file-65536 : is_taken_apart (file_of (ascii "1,1,0,0,65521,\n") 65521) ≡ true
unfolding is_taken_apart ascii file_of
file-65536 = refl

file-65537 : is_taken_apart (file_of (ascii "1,1,0,0,65522,\n") 65522) ≡ false
unfolding is_taken_apart ascii file_of
file-65537 = refl
