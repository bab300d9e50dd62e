-- The tally as the code takes it: what it may rely on before the first sheet, and what it has after the last.
use Rattle.std.specs.Prelude.{ℕ, ◌≤◌, List, [], ◌∷◌, map, ◌≡◌, length, get_or, Option}
use Rattle.std.proofs.Math.Option.{some}
use Rattle.reference.specs.Setting.{Setting}
use Rattle.schema.specs.Read.{SchemaIs}
use Rattle.validation.specs.Result.{any, Answer, max_label_bytes, path_bytes, scratch_words, KeptFrom}
use Rattle.call.specs.Call.{told, Run}
use Rattle.single_check.specs.Sheets.{sheet_answer, FrontOnly}
use Rattle.rule_book.specs.Book.{sheets_of}
use Rattle.rule_book.specs.Tally.{BookCall, tally_of, tally_numbers}
use Rattle.schema.specs.declared.read.Schema.{Schema}

-- what the check list says of each sheet, under a setting
unfoldable pub answers_in : Setting → (label schema : List ℕ) → List (List ℕ) → List Answer
answers_in setting label schema sheets = map (λ (sheet : List ℕ). sheet_answer any setting label schema sheet) sheets

-- the eighteen numbers of a tally, from how often each number came
unfoldable pub numbers_in : (counts : List ℕ) (read passed : ℕ) → List ℕ
numbers_in counts read passed =
    0
    ∷ read
    ∷ get_or counts 0 0
    ∷ get_or counts 4 0
    ∷ get_or counts 5 0
    ∷ get_or counts 11 0
    ∷ get_or counts 12 0
    ∷ get_or counts 13 0
    ∷ get_or counts 14 0
    ∷ get_or counts 15 0
    ∷ get_or counts 16 0
    ∷ get_or counts 17 0
    ∷ get_or counts 18 0
    ∷ get_or counts 19 0
    ∷ get_or counts 20 0
    ∷ get_or counts 21 0
    ∷ get_or counts 22 0
    ∷ passed
    ∷ []

-- the file is of the form, the schema has been read, and there is room
pub record Ready (label schema : List ℕ) (read : Option Schema) (book path words : List ℕ) : Type 0 where
  pub sheets : List (List ℕ)
  pub form : sheets_of book ≡ some sheets
  pub indexed : SchemaIs schema words read
  pub small : length label ≤ max_label_bytes
  pub room : path_bytes ≤ length path
  pub enough : scratch_words ≤ length words

-- every sheet was checked
pub record SheetsTallied (setting : Setting) (label schema book path_before path before after r : List ℕ) : Type 0 where
  pub numbers : (sheets : List (List ℕ)) → sheets_of book ≡ some sheets → r ≡ tally_numbers (told (tally_of (answers_in setting label schema sheets)))
  pub kept : KeptFrom path_bytes path_before path
  pub front : FrontOnly before after

-- A call of the code as a run of the definitions.
abbrev pub book_run_of : (kind semantics : ℕ) (label table schema book path_before scratch_before r path scratch : List ℕ) → Run BookCall
book_run_of kind semantics label table schema book path_before scratch_before r path scratch =
    record {
      call =
          record {
            kind = kind;
            semantics = semantics;
            label = label;
            table = table;
            schema = schema;
            book = book;
            lent = record { path = length path_before; scratch = length scratch_before };
          };
      result = r;
      buffers = record { before = path_before; after = path } ∷ record { before = scratch_before; after = scratch } ∷ [];
    }
