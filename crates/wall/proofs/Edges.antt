-- The wall sheet by computation: lines at the edges of their columns, whole pages, and which refusal is heard.
use Prim.Native.Nat.{ℕ}
use mathlib.Core.List.{List, [], ◌∷◌, ◌++◌, map}
use mathlib.Core.Path.{◌≡◌, refl}
use lib.ListN.{length, get_or, replicate}
use Rattle.text.specs.Ascii.{ascii}
use Rattle.validation.proofs.Edges.{empty}
use Rattle.validation.proofs.Bounds.{met}
use Rattle.validation.proofs.TableEdges.{changed, old_alone}
use Rattle.reference.proofs.Tables.{stock_text}
use Rattle.call.specs.Call.{EachDue, all_shown, by}
use Rattle.validation.specs.Result.{Answer, refused, accepted, defect}
use Rattle.rule_book.specs.Book.{write_book}
use Rattle.rule_book.specs.Tally.{BookCall}
use Rattle.rule_book.proofs.Edges.{hollow, lost, under, labelled}
use Rattle.wall.specs.Pages.{column, cut, shown, result_line, heading, foot, page_count, lines_of, pages_of}
use Rattle.wall.specs.Wall.{WallCall, wall_answers, wall_refusals, wall_refusal_numbers, wall_answer, wall_numbers}
use Rattle.wall.specs.Computing.{computing}

-- a defect with that path
unfoldable pub found : List ℕ → Answer
found path = defect (record { number = 18; family = 1; detail = 2; place = 2048; over_place = 0; passed = 12345; path = path })

-- 54 bytes
unfoldable pub long : List ℕ
long = ascii "r.assert.for_all.that.all[12].not.any[3].equals.left.x"

unfoldable pub blank : ℕ → List ℕ
blank n = replicate n 32

-- a call that lends so many bytes for the pages
unfoldable pub lending : (pages : ℕ) → BookCall → WallCall
lending pages c = record { run = c; pages = pages }

-- what is heard of it; under `unfolding heard` it computes
unfoldable pub heard : WallCall → List ℕ
unfolding computing under
heard c = wall_numbers (wall_answer c)

-- a sheet that is accepted, two defects, a refusal
unfoldable pub four : BookCall
unfolding under
four = under [] empty (write_book (met ∷ hollow ∷ lost ∷ [] ∷ [])) 4096

-- a column
pub record Columns : Type 0 where
  pub one : column 5 1 ≡ ascii "    1"
  pub last-short : column 5 99999 ≡ ascii "99999"
  pub first-long : column 5 100000 ≡ ascii "00000"
  pub next-long : column 5 100001 ≡ ascii "00001"
  pub zero_right : column 2 0 ≡ ascii " 0"
  pub fifty-eight : column 2 58 ≡ ascii "58"
  pub fits : cut 3 (ascii "abc") ≡ ascii "abc"
  pub is_cut : cut 3 (ascii "abcd") ≡ ascii "ab>"
  pub bytes-shown : map shown (31 ∷ 32 ∷ 126 ∷ 127 ∷ 195 ∷ 169 ∷ []) ≡ ascii "? ~???"

pub columns : Columns
unfolding computing
columns =
    record {
      one = refl;
      last-short = refl;
      first-long = refl;
      next-long = refl;
      zero_right = refl;
      fifty-eight = refl;
      fits = refl;
      is_cut = refl;
      bytes-shown = refl;
    }

-- lines
pub record Lines : Type 0 where
  pub is-accepted : result_line 7 (accepted 4) ≡ ascii "    7   0  0     0     4 " ++ (blank 55 ++ ascii "\n")
  pub is-refused : result_line 58 (refused 5) ≡ ascii "   58   5  0     0     0 " ++ (blank 55 ++ ascii "\n")
  pub path-54 : result_line 99999 (found long) ≡ ascii "99999  18  1  2048 12345 " ++ (long ++ ascii " \n")
  pub path-55 : result_line 100000 (found (long ++ ascii "s")) ≡ ascii "00000  18  1  2048 12345 " ++ (long ++ ascii "s\n")
  pub path-56 : result_line 100001 (found (long ++ ascii "st")) ≡ ascii "00001  18  1  2048 12345 " ++ (long ++ ascii ">\n")
  pub unshown : result_line 1 (found (195 ∷ 169 ∷ 10 ∷ [])) ≡ ascii "    1  18  1  2048 12345 ???" ++ (blank 52 ++ ascii "\n")
  pub first-heading : heading 1 ≡ ascii "PAGE     1" ++ (blank 70 ++ ascii "\n")
  pub late-heading : heading 100001 ≡ ascii "PAGE 00001" ++ (blank 70 ++ ascii "\n")
  pub no-foot : foot 0 ≡ ascii "ACCEPTED  0" ++ (blank 69 ++ ascii "\n")
  pub full-foot : foot 58 ≡ ascii "ACCEPTED 58" ++ (blank 69 ++ ascii "\n")

pub lines : Lines
unfolding computing found long blank
lines =
    record {
      is-accepted = refl;
      is-refused = refl;
      path-54 = refl;
      path-55 = refl;
      path-56 = refl;
      unshown = refl;
      first-heading = refl;
      late-heading = refl;
      no-foot = refl;
      full-foot = refl;
    }

-- pages
pub record Pages : Type 0 where
  pub none-for-none : page_count 0 ≡ 0
  pub one-for-one : page_count 1 ≡ 1
  pub one-for-58 : page_count 58 ≡ 1
  pub two-for-59 : page_count 59 ≡ 2
  pub no-sheet : pages_of [] ≡ []
  -- one page of one sheet
  pub one-page : lines_of (refused 4 ∷ [])
      ≡ (ascii "PAGE     1" ++ (blank 70 ++ ascii "\n"))
      ∷ (ascii "    1   4  0     0     0 " ++ (blank 55 ++ ascii "\n"))
      ∷ (replicate 57 (blank 80 ++ ascii "\n") ++ ((ascii "ACCEPTED  0" ++ (blank 69 ++ ascii "\n")) ∷ []))
  pub sixty-lines : map length (lines_of (refused 4 ∷ [])) ≡ replicate 60 81
  -- the second page of 59 sheets: its heading, its one line, its foot
  pub second-heading : get_or (lines_of (replicate 59 (accepted 3))) 60 [] ≡ heading 2
  pub first-there : get_or (lines_of (replicate 59 (accepted 3))) 61 [] ≡ result_line 59 (accepted 3)
  pub first-foot : get_or (lines_of (replicate 59 (accepted 3))) 59 [] ≡ foot 58
  pub second-foot : get_or (lines_of (replicate 59 (accepted 3))) 119 [] ≡ foot 1

pub pages : Pages
unfolding computing blank
pages =
    record {
      none-for-none = refl;
      one-for-one = refl;
      one-for-58 = refl;
      two-for-59 = refl;
      no-sheet = refl;
      one-page = refl;
      sixty-lines = refl;
      second-heading = refl;
      first-there = refl;
      first-foot = refl;
      second-foot = refl;
    }

-- whole calls
pub record Calls : Type 0 where
  pub four-lines : map (λ (k : ℕ). get_or (lines_of (wall_answers four)) k []) (1 ∷ 2 ∷ 3 ∷ 4 ∷ [])
      ≡ (ascii "    1   0  0     0     4 " ++ (blank 55 ++ ascii "\n"))
      ∷ (ascii "    2  16  1     2     4 r.assert" ++ (blank 47 ++ ascii "\n"))
      ∷ (ascii "    3  18  1     2     0 r" ++ (blank 54 ++ ascii "\n"))
      ∷ (ascii "    4   5  0     0     0 " ++ (blank 55 ++ ascii "\n"))
      ∷ []
  pub one-page-told : heard (lending 4860 four) ≡ 0 ∷ 1 ∷ []
  pub longer : heard (lending 5000 four) ≡ 0 ∷ 1 ∷ []
  pub too_short : heard (lending 4859 four) ≡ 33 ∷ 0 ∷ []
  pub nothing-needed : heard (lending 0 (under [] empty [] 4096)) ≡ 0 ∷ 0 ∷ []
  -- the refusals in their order: 3, 34, 33, 37
  pub form-34 : heard (lending 0 (under [] empty (ascii "01,a") 4096)) ≡ 34 ∷ 0 ∷ []
  pub width-before-form : heard (lending 0 (under [] empty (ascii "01,a") 4095)) ≡ 3 ∷ 0 ∷ []
  pub pages-before-table : heard (lending 4859 (under (78 ∷ []) empty (ascii "0,") 4096)) ≡ 33 ∷ 0 ∷ []
  pub table-behind-pages : heard (lending 4860 (under (78 ∷ []) empty (ascii "0,") 4096)) ≡ 37 ∷ 0 ∷ []

pub calls : Calls
unfolding heard four lending empty met hollow lost blank
calls =
    record {
      four-lines = refl;
      one-page-told = refl;
      longer = refl;
      too_short = refl;
      nothing-needed = refl;
      form-34 = refl;
      width-before-form = refl;
      pages-before-table = refl;
      table-behind-pages = refl;
    }

-- each refusal is heard by some call: 1, 2, 3, 34, 33, 37, 38
pub each-due : EachDue wall_refusals wall_refusal_numbers
unfolding heard lending labelled empty changed old_alone stock_text wall_refusal_numbers
each-due =
    by (lending 0 (labelled 9 [])) refl
    (by (lending 0 (labelled 1 (255 ∷ []))) refl
    (by (lending 0 (under [] empty [] 4095)) refl
    (by (lending 0 (under [] empty (ascii "1") 4096)) refl
    (by (lending 4859 (under [] empty (ascii "0,") 4096)) refl
    (by (lending 0 (under (ascii "N") empty [] 4096)) refl
    (by (lending 0 (under old_alone empty [] 4096)) refl all_shown))))))
