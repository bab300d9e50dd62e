-- The wall sheet as the code writes it: the pieces of a line, and a page line by line.
use Rattle.std.specs.Prelude.{ℕ, zero, suc, ◌+◌, ◌-◌, List, [], ◌∷◌, ◌++◌, map, length, take, drop}
use Rattle.text.specs.Ascii.{ascii}
use Rattle.validation.specs.Result.{Answer}
use Rattle.rule_book.specs.Tally.{count_of}
use Rattle.wall.specs.Pages.{blanks, column, shown, cut, result_line, blank_line, foot}

-- a number and the blank after it
unfoldable pub field : (columns n : ℕ) → List ℕ
field columns n = column columns n ++ ascii " "

-- the end of a line that needs so many blanks
unfoldable pub line_end : (missing : ℕ) → List ℕ
line_end missing = blanks missing ++ ascii "\n"

-- the path and the line's end after it
unfoldable pub path_end : (path : List ℕ) → List ℕ
path_end path = map shown (cut 55 path) ++ line_end (55 - length (cut 55 path))

-- the line of the first of these answers; a blank one where there is none
unfoldable pub row_of : (serial : ℕ) → List Answer → List ℕ
row_of serial [] = blank_line
row_of serial (a ∷ others) = result_line serial a

-- what is left of a page with so many rows to come, and so many accepted so far
unfoldable pub rows_from : (rows serial count : ℕ) → List Answer → List (List ℕ)
rows_from zero serial count answers = foot count ∷ []
rows_from (suc rows) serial count answers =
    row_of serial answers ∷ rows_from rows (serial + 1) (count + count_of 0 (take 1 answers)) (drop 1 answers)
