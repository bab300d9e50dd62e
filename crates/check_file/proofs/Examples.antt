-- Files, and what is printed for them.
use Prim.Native.Nat.{ℕ}
use mathlib.Core.List.{List, [], ◌++◌}
use mathlib.Core.Path.{◌≡◌, refl}
use Rattle.text.specs.Ascii.{ascii}
use Rattle.validation.specs.Computing.{computing}
use Rattle.check_file.specs.File.{field, end, texts, whole_file, taken_apart}
use Rattle.check_file.specs.Line.{field_of, written, line_of}
use Rattle.check_file.specs.Output.{call_for, path_in, answered, printed, output_of}

-- under `unfolding shown` what is printed computes
unfoldable shown : List ℕ → List ℕ
unfolding computing field end texts whole_file taken_apart field_of written line_of call_for path_in answered printed output_of
shown = output_of

sheets : List ℕ
sheets =
    ascii
    "H,0,1,-,0\nF,6,0,1,0,4,-,bars\nF,2,0,0,0,0,-,\nR,-,-,\nC,20,1,b\nV,5,12,$fields.bars\nC,12,0,\nV,5,8,$b.count\nV,4,1,9\n"

the-example : shown (ascii "2,2,1,44,67,r\n" ++ sheets) ≡ ascii "18,8,9,5,3,9,r.assert.for_all.that.lt[0]\n"
unfolding shown sheets
the-example = refl

-- The label has as many bytes as its count says, a comma and a line end among them.
label-by-count : shown (ascii "2,2,3,44,67,,\n\n\n" ++ sheets) ≡ ascii "18,8,9,5,3,9,,\n\n.assert.for_all.that.lt[0]\n"
unfolding shown sheets
label-by-count = refl

-- Settings of any length are read, and refused by their value.
kind-past-32-bits : shown (ascii "4294967298,2,1,44,67,r\n" ++ sheets) ≡ ascii "1,0,0,0,0,0,\n"
unfolding shown sheets
kind-past-32-bits = refl

-- Other forms.
leading-zero : shown (ascii "02,2,1,44,67,r\n" ++ sheets) ≡ []
unfolding shown sheets
leading-zero = refl

count-too-small : shown (ascii "2,2,1,44,66,r\n" ++ sheets) ≡ []
unfolding shown sheets
count-too-small = refl

count-past-64-bits : shown (ascii "2,2,1,44,18446744073709551683,r\n" ++ sheets) ≡ []
unfolding shown sheets
count-past-64-bits = refl

no-line-end : shown (ascii "2,2,1,44,67,r," ++ sheets) ≡ []
unfolding shown sheets
no-line-end = refl

empty-file : shown [] ≡ []
unfolding shown
empty-file = refl
