-- Printing as the code does it: a row for each sheet, a page of rows, all pages; what each may rely on and what it leaves.
use Rattle.std.specs.Prelude.{ℕ, ◌≤◌, ◌≡◌, length, take, drop, Option}
use mathlib.Core.List.{List, [], ◌∷◌, flatten}
use Rattle.std.proofs.Math.Option.{some}
use Rattle.std.proofs.lemmas.List.Edits.{sets}
use Rattle.buffer.specs.Wrote.{Wrote}
use Rattle.reference.specs.Setting.{Setting}
use Rattle.validation.specs.Result.{max_label_bytes, path_bytes, scratch_words, KeptFrom}
use Rattle.call.specs.Call.{Run}
use Rattle.single_check.specs.Sheets.{FrontOnly}
use Rattle.rule_book.specs.Book.{sheets_of}
use Rattle.rule_book.specs.Tally.{count_of}
use Rattle.rule_book.specs.Tallying.{answers_in, Ready, book_run_of}
use Rattle.wall.specs.Pages.{per_page, page, pages_from}
use Rattle.wall.specs.Wall.{WallCall}
use Rattle.wall.specs.Writing.{row_of}
use Rattle.wall.specs.declared.page.Row.{Row}
use Rattle.wall.specs.declared.page.PageEnd.{PageEnd}
use Rattle.schema.specs.declared.read.Schema.{Schema}

-- the file is of the form, and there is room, before the schema is read
pub record Given (label book path words : List ℕ) : Type 0 where
  pub sheets : List (List ℕ)
  pub form : sheets_of book ≡ some sheets
  pub small : length label ≤ max_label_bytes
  pub room : path_bytes ≤ length path
  pub enough : scratch_words ≤ length words

-- the next n sheets were checked, from place `from` of the book to place `to`, and all is ready for the one after them
pub record Advanced (label schema : List ℕ) (read : Option Schema) (book path_before path before after : List ℕ) (from n to : ℕ) : Type 0 where
  pub ready : Ready label schema read (drop to book) path after
  pub left : (sheets : List (List ℕ)) → sheets_of (drop from book) ≡ some sheets → sheets_of (drop to book) ≡ some (drop n sheets)
  pub kept : KeptFrom path_bytes path_before path
  pub front : FrontOnly before after

-- the line of the next sheet, or a blank one after the last
pub record RowPut (setting : Setting) (label schema : List ℕ) (read : Option Schema) (book : List ℕ) (at serial to : ℕ) (path_before path before after pages_before pages : List ℕ) (r : Row) : Type 0 where
  pub advanced : Advanced label schema read book path_before path before after at 1 r.sheet
  pub written : (sheets : List (List ℕ)) → sheets_of (drop at book) ≡ some sheets
      → Wrote pages_before pages to (row_of serial (answers_in setting label schema sheets)) r.line
  pub counted : (sheets : List (List ℕ)) → sheets_of (drop at book) ≡ some sheets
      → r.accepted ≡ count_of 0 (take 1 (answers_in setting label schema sheets))

pub record PagePut (setting : Setting) (label schema : List ℕ) (read : Option Schema) (book : List ℕ) (at number to : ℕ) (path_before path before after pages_before pages : List ℕ) (r : PageEnd) : Type 0 where
  pub advanced : Advanced label schema read book path_before path before after at per_page r.sheet
  pub written : (sheets : List (List ℕ)) → sheets_of (drop at book) ≡ some sheets
      → Wrote pages_before pages to (flatten (page number (take per_page (answers_in setting label schema sheets)))) r.line

pub record PagesPut (setting : Setting) (label schema book : List ℕ) (count : ℕ) (path_before path before after pages_before pages : List ℕ) : Type 0 where
  pub written : (sheets : List (List ℕ)) → sheets_of book ≡ some sheets
      → pages ≡ sets pages_before 0 (flatten (pages_from 0 count (answers_in setting label schema sheets)))
  pub kept : KeptFrom path_bytes path_before path
  pub front : FrontOnly before after

-- A call of the code as a run of the definitions.
abbrev pub wall_run_of : (kind semantics : ℕ) (label table schema book path_before pages_before scratch_before r path pages scratch : List ℕ) → Run WallCall
wall_run_of kind semantics label table schema book path_before pages_before scratch_before r path pages scratch =
    record {
      call =
          record {
            run = (book_run_of kind semantics label table schema book path_before scratch_before r path scratch).call;
            pages = length pages_before;
          };
      result = r;
      buffers =
          record { before = path_before; after = path }
          ∷ record { before = pages_before; after = pages }
          ∷ record { before = scratch_before; after = scratch }
          ∷ [];
    }
