-- A line: each number has its width, and every line has 81 bytes.
use Rattle.std.specs.Prelude.{ℕ, suc, ◌+◌, ◌-◌, ◌/◌, ◌%◌, ◌≤◌, ◌<◌, List, [], ◌∷◌, ◌++◌, map, ◌≡◌, leb, length, take, drop}
use Rattle.std.proofs.Common.{arith, append_assoc, ap, ◌∙◌, length-append, length-drop, length-take, leb-true}
use Rattle.std.proofs.lemmas.List.{length-map, length-replicate, drop-append-le}
use Rattle.std.proofs.Math.Seq.{drop-length}
use Rattle.text.specs.Ascii.{ascii}
use Rattle.text.specs.Numeral.{decimal_of}
use Rattle.text.specs.NumeralLaws.{decimal_of-one, decimal_of-last}
use Rattle.text.specs.CaseLaws.{by-test}
use Rattle.validation.specs.Result.{Answer, refused, accepted, defect}
use Rattle.wall.specs.Pages.{width, blanks, column, in_columns, shown, cut, line_of, line, result_line, blank_line, heading, foot}

-- A column, digit by digit from the right.

pub column-none : (n : ℕ) → column 0 n ≡ []
unfolding column blanks
column-none n = drop-length (decimal_of n)

pub column-one : (columns d : ℕ) → d < 10 → column (suc columns) d ≡ blanks columns ++ ((48 + d) ∷ [])
unfolding column blanks
column-one columns d small = rw (decimal_of-one d small)

blanks-size : (n : ℕ) → length (blanks n) ≡ n
unfolding blanks
blanks-size n = length-replicate n 32

-- after one more blank and one more digit the same is left, and the digit
more-digits : (b x : ℕ) (bs front d : List ℕ) → d ≡ front ++ (x ∷ []) → drop (length d) ((b ∷ bs) ++ d) ≡ drop (length front) (bs ++ front) ++ (x ∷ [])
more-digits b x bs front d e =
    let size : length d ≡ suc (length front) = ap length e ∙ length-append front (x ∷ []) ∙ omega arith in
    rw (size, e, ← (append_assoc bs front (x ∷ [])))
    (drop-append-le (length front) (bs ++ front) (x ∷ []) (rw (length-append bs front) (omega arith)))

pub column-last : (columns n : ℕ) → 10 ≤ n → column (suc columns) n ≡ column columns (n / 10) ++ ((48 + n % 10) ∷ [])
unfolding column blanks
column-last columns n more = more-digits 32 (48 + n % 10) (blanks columns) (decimal_of (n / 10)) (decimal_of n) (decimal_of-last n more)

-- The widths.

pub column-size : (columns n : ℕ) → length (column columns n) ≡ columns
unfolding column
column-size columns n =
    omega (arith, length-drop (length (decimal_of n)) (blanks columns ++ decimal_of n), length-append (blanks columns) (decimal_of n), blanks-size columns)

pub cut-size : (columns : ℕ) (text : List ℕ) → 1 ≤ columns → length (cut columns text) ≤ columns
unfolding cut ascii
cut-size columns text some =
    by-test (leb (length text) columns)
    (λ e. rw e (leb-true (length text) columns e))
    (λ e. rw (e, length-append (take (columns - 1) text) (62 ∷ [])) (omega (arith, length-take (columns - 1) text)))

pub line-size : (text : List ℕ) → length text ≤ width → length (line_of text) ≡ 81
unfolding line_of ascii
line-size text fits =
    rw (length-append text (blanks (width - length text) ++ (10 ∷ [])), length-append (blanks (width - length text)) (10 ∷ []), blanks-size (width - length text))
    (omega arith)

-- the five numbers take 25 columns
abbrev front : (serial number family place passed : ℕ) → List ℕ
front serial number family place passed = in_columns ((5, serial) ∷ (3, number) ∷ (2, family) ∷ (5, place) ∷ (5, passed) ∷ [])

field-size : (columns n : ℕ) (more : List (ℕ × ℕ)) → length (in_columns ((columns, n) ∷ more)) ≡ columns + 1 + length (in_columns more)
unfolding in_columns ascii
field-size columns n more = omega (arith, length-append (column columns n) (32 ∷ in_columns more), column-size columns n)

pub front-size : (serial number family place passed : ℕ) → length (front serial number family place passed) ≡ 25
unfolding in_columns
front-size serial number family place passed =
    omega (
      arith,
      field-size 5 serial ((3, number) ∷ (2, family) ∷ (5, place) ∷ (5, passed) ∷ []),
      field-size 3 number ((2, family) ∷ (5, place) ∷ (5, passed) ∷ []),
      field-size 2 family ((5, place) ∷ (5, passed) ∷ []),
      field-size 5 place ((5, passed) ∷ []),
      field-size 5 passed [],
    )

-- Every line has 81 bytes.

row-size : (serial number family place passed : ℕ) (path : List ℕ) → length (line serial number family place passed path) ≡ 81
unfolding line
row-size serial number family place passed path =
    line-size _
    (rw (length-append (front serial number family place passed) (map shown (cut 55 path)), length-map (cut 55 path) shown)
    (omega (arith, front-size serial number family place passed, cut-size 55 path (omega arith))))

pub result-size : (serial : ℕ) (a : Answer) → length (result_line serial a) ≡ 81
unfolding result_line
result-size serial (refused n) = row-size serial n 0 0 0 []
result-size serial (accepted n) = row-size serial 0 0 0 n []
result-size serial (defect d) = row-size serial d.number d.family d.place d.passed d.path

pub blank-size : length blank_line ≡ 81
unfolding blank_line
blank-size = line-size [] (omega arith)

pub heading-size : (number : ℕ) → length (heading number) ≡ 81
unfolding heading ascii
heading-size number = line-size _ (omega (arith, column-size 5 number))

pub foot-size : (count : ℕ) → length (foot count) ≡ 81
unfolding foot ascii
foot-size count = line-size _ (omega (arith, column-size 2 count))
