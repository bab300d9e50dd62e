-- The call that prints a rule book's run: its refusals, its answer, and what it leaves in each buffer (docs/FORMAT.md, "The wall sheet").
use Rattle.std.specs.Prelude.{ℕ, ◌*◌, ◌≤◌, not, List, [], ◌∷◌, ◌++◌, ◌≡◌, leb, length}
use Rattle.std.proofs.Math.Option.{some}
use Rattle.validation.specs.Result.{Answer, Refusal, of_table, of_settings, path_bytes, scratch_words}
use Rattle.call.specs.Call.{Reply, Left, holding, if_told, free_if_told, Shape, reply_to, result_numbers, Run, Meets, told}
use Rattle.rule_book.specs.Book.{sheets_of}
use Rattle.rule_book.specs.Tally.{BookCall, asked_of, of_form, answers_of, or_no_sheets, tally_of, book_answer}
use Rattle.wall.specs.Pages.{page_bytes, page_count, pages_of}

-- a call as for a tally, and how many bytes are lent for the pages
pub record WallCall : Type 0 where
  pub run : BookCall
  pub pages : ℕ

-- the answers to the book's sheets, each checked alone
unfoldable pub wall_answers : BookCall → List Answer
wall_answers c = answers_of c (or_no_sheets (sheets_of c.book))

-- of a buffer too short for the pages
abbrev pub of_pages : WallCall → Refusal
of_pages c = record { number = 33; is_due = not (leb (page_bytes * page_count (length (wall_answers c.run))) c.pages) }

-- the refusals in the order in which they are tried
unfoldable pub wall_refusals : WallCall → List Refusal
wall_refusals c = of_settings (asked_of c.run []) c.run.lent ++ (of_form c.run.book ∷ of_pages c ∷ of_table c.run.table)

unfoldable pub wall_refusal_numbers : List ℕ
wall_refusal_numbers = 1 ∷ 2 ∷ 3 ∷ 34 ∷ 33 ∷ 37 ∷ 38 ∷ []

-- the pages lie at the start of their buffer
abbrev pub pages_left : Reply (List Answer) → Left
pages_left = if_told (λ answers. holding (pages_of answers))

-- path buffer, pages and scratch
abbrev pub wall_leaves : Reply (List Answer) → List Left
wall_leaves a = free_if_told path_bytes a ∷ pages_left a ∷ free_if_told scratch_words a ∷ []

-- a result has two numbers, the second that of the pages
unfoldable pub wall_figures : List Answer → List ℕ
wall_figures answers = page_count (length answers) ∷ []

abbrev pub wall_shape : Shape WallCall (List Answer)
wall_shape =
    record { refusals = wall_refusals; tells = λ (c : WallCall). wall_answers c.run; size = 1; figures = wall_figures; leaves = wall_leaves }

-- the whole answer: the first refusal that is due, or the answers that are printed
abbrev pub wall_answer : WallCall → Reply (List Answer)
wall_answer = reply_to wall_shape

abbrev pub wall_numbers : Reply (List Answer) → List ℕ
wall_numbers = result_numbers wall_shape

abbrev pub MeetsWall : Run WallCall → Type 0
MeetsWall = Meets wall_shape

pub record IsPrinted (c : WallCall) (answers : List Answer) : Type 0 where
  pub sheets : List (List ℕ)
  pub form : sheets_of c.run.book ≡ some sheets
  pub checked : answers ≡ answers_of c.run sheets
  pub room : page_bytes * page_count (length answers) ≤ c.pages
  -- the same run tallies
  pub tally : book_answer c.run ≡ told (tally_of answers)
