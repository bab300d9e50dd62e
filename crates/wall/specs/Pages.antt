-- The wall sheet: a run over a rule book on pages of 80 columns and 60 lines (docs/FORMAT.md, "The wall sheet").
use Rattle.std.specs.Prelude.{ℕ, zero, suc, ◌+◌, ◌*◌, ◌-◌, ◌/◌, cond, ◌≡◌, leb, length, take, drop, replicate}
use mathlib.Core.List.{List, [], ◌∷◌, ◌++◌, map, flatten}
use Rattle.text.specs.Utf8.{between}
use Rattle.text.specs.Ascii.{ascii}
use Rattle.text.specs.Numeral.{decimal_of}
use Rattle.validation.specs.Result.{Answer, refused, accepted, defect}
use Rattle.rule_book.specs.Tally.{count_of}

-- columns of a line
abbrev pub width : ℕ
width = 80

-- results of a page, between its heading and its foot
abbrev pub per_page : ℕ
per_page = 58

-- 60 lines of 80 columns, each with its line feed
abbrev pub page_bytes : ℕ
page_bytes = 4860

unfoldable pub blanks : ℕ → List ℕ
blanks n = replicate n 32

-- a number right-aligned in its columns: its last digits, as many as there are columns, and blanks in front where it has fewer
unfoldable pub column : (columns n : ℕ) → List ℕ
column columns n = drop (length (decimal_of n)) (blanks columns ++ decimal_of n)

-- numbers in their columns, a blank after each
unfoldable pub in_columns : List (ℕ × ℕ) → List ℕ
in_columns [] = []
in_columns ((columns, n) ∷ more) = column columns n ++ (ascii " " ++ in_columns more)

-- a byte as it is printed
unfoldable pub shown : ℕ → ℕ
shown b = cond (between 32 126 b) b 63

-- a text in so many columns: a longer one is cut, with `>` in the last of them
unfoldable pub cut : (columns : ℕ) → List ℕ → List ℕ
cut columns text = cond (leb (length text) columns) text (take (columns - 1) text ++ ascii ">")

-- a text filled with blanks to 80 columns, and the line's end
unfoldable pub line_of : (text : List ℕ) → List ℕ
line_of text = text ++ (blanks (width - length text) ++ ascii "\n")

-- the path has the columns that are left
unfoldable pub line : (serial number family place passed : ℕ) (path : List ℕ) → List ℕ
line serial number family place passed path =
    line_of (in_columns ((5, serial) ∷ (3, number) ∷ (2, family) ∷ (5, place) ∷ (5, passed) ∷ []) ++ map shown (cut 55 path))

-- the line of a sheet, by what its check answers
unfoldable pub result_line : (serial : ℕ) → Answer → List ℕ
result_line serial (refused n) = line serial n 0 0 0 []
result_line serial (accepted n) = line serial 0 0 0 n []
result_line serial (defect d) = line serial d.number d.family d.place d.passed d.path

-- the lines of these sheets, with serials from this one on
unfoldable pub results : (serial : ℕ) → List Answer → List (List ℕ)
results serial [] = []
results serial (a ∷ others) = result_line serial a ∷ results (serial + 1) others

unfoldable pub blank_line : List ℕ
blank_line = line_of []

unfoldable pub heading : (number : ℕ) → List ℕ
heading number = line_of (ascii "PAGE " ++ column 5 number)

unfoldable pub foot : (count : ℕ) → List ℕ
foot count = line_of (ascii "ACCEPTED " ++ column 2 count)

-- the lines of a page with so many pages before it and these results, 58 or fewer
unfoldable pub page : (before : ℕ) → List Answer → List (List ℕ)
page before answers =
    heading (before + 1)
    ∷ (results (per_page * before + 1) answers
    ++ (replicate (per_page - length answers) blank_line
    ++ (foot (count_of 0 answers) ∷ [])))

-- the lines of so many pages
unfoldable pub pages_from : (before count : ℕ) → List Answer → List (List ℕ)
pages_from before zero answers = []
pages_from before (suc count) answers = page before (take per_page answers) ++ pages_from (before + 1) count (drop per_page answers)

-- how many pages so many sheets fill, the last of them perhaps in part
unfoldable pub page_count : (sheets : ℕ) → ℕ
page_count sheets = (sheets + (per_page - 1)) / per_page

unfoldable pub lines_of : List Answer → List (List ℕ)
lines_of answers = pages_from 0 (page_count (length answers)) answers

-- the pages' bytes
unfoldable pub pages_of : List Answer → List ℕ
pages_of answers = flatten (lines_of answers)

abbrev pub AllLines : List (List ℕ) → Type 0
AllLines [] = Unit {0}
AllLines (l ∷ ls) = (length l ≡ 81) × AllLines ls

-- the accepted count that each page has of its own
unfoldable pub own_counts : (count : ℕ) → List Answer → List ℕ
own_counts zero answers = []
own_counts (suc count) answers = count_of 0 (take per_page answers) ∷ own_counts count (drop per_page answers)
