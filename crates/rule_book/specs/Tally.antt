-- The tally of a rule book: how often each answer came when each of its sheets was checked alone (docs/FORMAT.md, "Rule books").
use Rattle.std.specs.Prelude.{ℕ, ◌+◌, cond, List, [], ◌∷◌, ◌++◌, map, ◌≡◌, length, eqb}
use Rattle.std.proofs.Math.Option.{Option, none, some}
use Rattle.validation.specs.Check.{is_none}
use Rattle.validation.specs.Result.{any, Asked, Widths, Call, Answer, Refusal, of_table, of_settings, numbers_of, result_of, path_bytes, scratch_words, mark_bytes, early, first_refusal}
use Rattle.call.specs.Call.{Reply, Left, free_if_told, Shape, reply_to, result_numbers, Run, Meets}
use Rattle.rule_book.specs.Book.{sheets_of}

pub record BookCall : Type 0 where
  pub kind : ℕ
  pub semantics : ℕ
  pub label : List ℕ
  pub table : List ℕ
  pub schema : List ℕ
  pub book : List ℕ
  pub lent : Widths

-- one of its sheets, whether a rule or a template
unfoldable pub asked_of : BookCall → (sheet : List ℕ) → Asked
asked_of c sheet = record { takes = any; kind = c.kind; semantics = c.semantics; label = c.label; rule = sheet }

-- the call that checks that sheet alone; no mark list is lent, so none is too short
unfoldable pub single : BookCall → (sheet : List ℕ) → Call
single c sheet =
    record {
      asked = asked_of c sheet;
      table = c.table;
      schema = c.schema;
      lent = record { widths = c.lent; marks = mark_bytes };
    }

-- of a file that is not of the form
abbrev pub of_form : (book : List ℕ) → Refusal
of_form book = record { number = 34; is_due = is_none (sheets_of book) }

-- the refusals in the order in which they are tried; settings, label and widths are the same for every sheet
unfoldable pub book_refusals : BookCall → List Refusal
book_refusals c = of_settings (asked_of c []) c.lent ++ (of_form c.book ∷ of_table c.table)

unfoldable pub book_refusal_numbers : List ℕ
book_refusal_numbers = 1 ∷ 2 ∷ 3 ∷ 34 ∷ 37 ∷ 38 ∷ []

unfoldable pub answers_of : BookCall → List (List ℕ) → List Answer
answers_of c sheets = map (λ (sheet : List ℕ). result_of (single c sheet)) sheets

-- how many answers have that number
unfoldable pub count_of : ℕ → List Answer → ℕ
count_of n [] = 0
count_of n (a ∷ others) = cond (eqb (numbers_of a).number n) 1 0 + count_of n others

unfoldable pub sum : List ℕ → ℕ
sum [] = 0
sum (n ∷ ns) = n + sum ns

-- the checks that passed, under all answers together
unfoldable pub passed_in : List Answer → ℕ
passed_in answers = sum (map (λ (a : Answer). (numbers_of a).passed) answers)

pub record Tally : Type 0 where
  pub read : ℕ
  pub accepted : ℕ
  -- by 4 and by 5
  pub schema_refused : ℕ
  pub rule_refused : ℕ
  -- 11 to 22
  pub found : List ℕ
  pub passed : ℕ

unfoldable pub defect_numbers : List ℕ
defect_numbers = 11 ∷ 12 ∷ 13 ∷ 14 ∷ 15 ∷ 16 ∷ 17 ∷ 18 ∷ 19 ∷ 20 ∷ 21 ∷ 22 ∷ []

unfoldable pub tally_of : List Answer → Tally
tally_of answers =
    record {
      read = length answers;
      accepted = count_of 0 answers;
      schema_refused = count_of 4 answers;
      rule_refused = count_of 5 answers;
      found = map (λ (n : ℕ). count_of n answers) defect_numbers;
      passed = passed_in answers;
    }

unfoldable pub or_no_sheets : Option (List (List ℕ)) → List (List ℕ)
or_no_sheets none = []
or_no_sheets (some sheets) = sheets

unfoldable pub tally_in : BookCall → Tally
tally_in c = tally_of (answers_of c (or_no_sheets (sheets_of c.book)))

-- read, accepted, by 4, by 5, 11 to 22, passed; a result's first number is in front of them
unfoldable pub tally_figures : Tally → List ℕ
tally_figures t = t.read ∷ t.accepted ∷ t.schema_refused ∷ t.rule_refused ∷ (t.found ++ (t.passed ∷ []))

-- path buffer and scratch
abbrev pub tally_leaves : Reply Tally → List Left
tally_leaves a = free_if_told path_bytes a ∷ free_if_told scratch_words a ∷ []

abbrev pub tally_shape : Shape BookCall Tally
tally_shape = record { refusals = book_refusals; tells = tally_in; size = 17; figures = tally_figures; leaves = tally_leaves }

-- the whole answer: the first refusal that is due, or the tally
abbrev pub book_answer : BookCall → Reply Tally
book_answer = reply_to tally_shape

-- the eighteen numbers of a result
abbrev pub tally_numbers : Reply Tally → List ℕ
tally_numbers = result_numbers tally_shape

abbrev pub MeetsBook : Run BookCall → Type 0
MeetsBook = Meets tally_shape

abbrev pub setting_refusal : BookCall → Option ℕ
setting_refusal c = first_refusal (of_settings (asked_of c []) c.lent)

pub record IsTallied (c : BookCall) (t : Tally) : Type 0 where
  pub sheets : List (List ℕ)
  pub form : sheets_of c.book ≡ some sheets
  pub tally : t ≡ tally_of (answers_of c sheets)
  pub unrefused : (sheet : List ℕ) → first_refusal (early (single c sheet)) ≡ none
