-- The whole call: each way to its end gives what the definitions say of it.
use Rattle.std.specs.Prelude.{Option as Optional, Ok, Err}
use Prim.Native.Nat.{ℕ}
use native.Mathlib.Omega.{arith}
use mathlib.Core.List.{List, [], map}
use mathlib.Core.Option
use mathlib.Core.Option.{Option, none, some, none-ne-some}
use mathlib.Core.Path.{◌≡◌, refl, sym, ap, ◌∙◌}
use lib.ListN.{length}
use Rattle.schema.specs.Read.{SchemaAnswer}
use Rattle.validation.specs.Result.{any, Answer, accepted, of_settings, first_refusal, kept_scratch, result_of}
use Rattle.validation.proofs.RefusalLaws.{number-some, settings-none, table-decides}
use Rattle.single_check.specs.Settings.{setting_by, asked_by, widths_by, EarlyIs, SettledIs}
use Rattle.single_check.specs.Sheets.{sheet_answer}
use Rattle.single_check.specs.SheetLaws.{roomy, front-schema, front-both, front-scratch, sheets-decide}
use Rattle.single_check.specs.declared.settings.Setting.{Setting as CodeSetting}
use Rattle.call.specs.Call.{refused_by, told, if_told}
use Rattle.rule_book.specs.Book.{sheets_of}
use Rattle.rule_book.specs.Places.{sheet_count}
use Rattle.rule_book.specs.Tally.{BookCall, asked_of, single, answers_of, tally_of, book_answer, tally_numbers, MeetsBook, setting_refusal}
use Rattle.rule_book.proofs.TallyLaws.{settings-first, form-refused, table-refused, book-tallied}
use Rattle.rule_book.specs.Tallying.{answers_in, Ready, SheetsTallied, book_run_of}
use Rattle.schema.specs.declared.read.Schema.{Schema}

pub counted-some : (o : Option (List (List ℕ))) (n : ℕ) → Option.map length o ≡ some n → (sheets : List (List ℕ)) × (o ≡ some sheets)
counted-some none n e = absurd (none-ne-some n e)
counted-some (some sheets) n e = (sheets, refl)

module _ (kind semantics : ℕ) (label table schema book path_before before : List ℕ) where
  abbrev pub call : BookCall
  call =
      record {
        kind = kind;
        semantics = semantics;
        label = label;
        table = table;
        schema = schema;
        book = book;
        lent = widths_by (length path_before) (length before);
      }

  meets-refused : {n : ℕ} {r : List ℕ} → book_answer call ≡ refused_by n → r ≡ tally_numbers (refused_by n)
      → MeetsBook (book_run_of kind semantics label table schema book path_before before r path_before before)
  unfolding if_told
  meets-refused a e = record { result = rw a e; buffers = rw a (refl, (refl, tt)) }

  pub meets-settings : {n : ℕ} {r : List ℕ} → EarlyIs kind semantics label (length path_before) (length before) n → (n ≡ 0 → ⊥)
      → r ≡ tally_numbers (refused_by n)
      → MeetsBook (book_run_of kind semantics label table schema book path_before before r path_before before)
  unfolding asked_of
  meets-settings {n} e h q = meets-refused (settings-first call n (number-some n _ (e.first any []) h)) q

  module _ {n : ℕ} (e : EarlyIs kind semantics label (length path_before) (length before) n) (z : n ≡ 0) where
    pub not-due : (sheet : List ℕ) → first_refusal (of_settings (asked_by any kind semantics label sheet) (widths_by (length path_before) (length before))) ≡ none
    not-due sheet = settings-none _ _ (sym z ∙ e.first any sheet)

    pub settings-pass : setting_refusal call ≡ none
    unfolding asked_of
    settings-pass = not-due []

    pub meets-form : {r : List ℕ} → sheets_of book ≡ none → r ≡ tally_numbers (refused_by 34)
        → MeetsBook (book_run_of kind semantics label table schema book path_before before r path_before before)
    meets-form f q = meets-refused (form-refused call settings-pass f) q

    module _ {k : ℕ} (count : sheet_count book ≡ some k) where
      pub all : (sheets : List (List ℕ)) × (sheets_of book ≡ some sheets)
      unfolding sheet_count
      all = counted-some (sheets_of book) k count

      pub meets-table : {m : ℕ} {r : List ℕ} → SettledIs kind semantics table (Err m) → r ≡ tally_numbers (refused_by m)
          → MeetsBook (book_run_of kind semantics label table schema book path_before before r path_before before)
      meets-table {m} t q = meets-refused (table-refused call settings-pass all.0 all.1 m t) q

      pub ready : {middle : List ℕ} {q : Optional Schema} → SchemaAnswer schema before middle q → Ready label schema q book path_before middle
      ready p =
          let room = roomy _ _ (not-due []) in
          record {
            sheets = all.0;
            form = all.1;
            indexed = p.answer;
            small = room.small;
            room = room.room;
            enough = omega (arith, room.words, p.kept.size);
          }

      module _ (s : CodeSetting) (t : SettledIs kind semantics table (Ok s)) where
        same_answer : (sheet : List ℕ) → result_of (single call sheet) ≡ sheet_answer any (setting_by s) label schema sheet
        unfolding single asked_of
        same_answer sheet =
            rw t.1 (sheets-decide (single call sheet) (table-decides (single call sheet) (not-due sheet) (omega arith) ∙ t.0))

        pub same-answers : (sheets : List (List ℕ)) → answers_of call sheets ≡ answers_in (setting_by s) label schema sheets
        unfolding answers_of answers_in
        same-answers sheets = ap (λ (f : List ℕ → Answer). map f sheets) (λ i sheet. same_answer sheet i)

        pub meets-tally : {middle after path r : List ℕ} {q : Optional Schema} → SchemaAnswer schema before middle q
            → SheetsTallied (setting_by s) label schema book path_before path middle after r
            → MeetsBook (book_run_of kind semantics label table schema book path_before before r path after)
        unfolding if_told kept_scratch
        meets-tally p done =
            let answer : book_answer call ≡ told (tally_of (answers_in (setting_by s) label schema all.0)) = book-tallied call settings-pass all.0 all.1 t.0 ∙ ap (λ (answers : List Answer). told (tally_of answers)) (same-answers all.0) in
            record {
              result = rw answer (done.numbers all.0 all.1);
              buffers = rw answer (done.kept, (front-scratch (accepted 0) (front-both (front-schema p.kept) done.front) refl, tt));
            }
