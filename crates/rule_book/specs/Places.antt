-- What the code's readers of a book answer, by cases: what the definitions of Book read from place `at` of the file on, and the place after it.
use Rattle.std.specs.Prelude.{ℕ, List, ◌≡◌, length, Option as Optional, Some, None}
use Rattle.std.proofs.Math.Option.{Option, none, some, map}
use Rattle.text.specs.Parts.{part_of}
use Rattle.text.specs.ReadAt.{ReadsTo, Refuses}
use Rattle.rule_book.specs.Book.{sheet_in, sheets_of}
use Rattle.text.specs.declared.part.Part.{Part}

abbrev pub SheetIs : List ℕ → ℕ → Optional (Part × ℕ) → Type 0
SheetIs s at (Some (p, next)) = ReadsTo sheet_in s at (part_of s p) next
SheetIs s at None = Refuses sheet_in s at

-- how many sheets there are from here on
unfoldable pub sheet_count : List ℕ → Option ℕ
sheet_count s = map length (sheets_of s)

abbrev pub CountIs : List ℕ → Optional ℕ → Type 0
CountIs s (Some n) = sheet_count s ≡ some n
CountIs s None = sheets_of s ≡ none
