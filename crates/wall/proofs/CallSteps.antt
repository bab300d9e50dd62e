-- The whole call: each way to its end gives what the definitions say of it.
use Rattle.std.specs.Prelude.{Ok, Err}
use Prim.Native.Nat.{ℕ, ◌*◌, ◌/◌, ◌^◌, ◌≤◌, ◌<◌}
use native.Mathlib.Omega.{arith}
use mathlib.Core.List.{List, [], ◌∷◌, flatten}
use mathlib.Core.Option.{Option, none, some, map, some-injective}
use mathlib.Core.Path.{◌≡◌, refl, sym, ap, ◌∙◌}
use lib.ListN.{length, length-map}
use lib.Seq.{sets}
use Rattle.validation.specs.Result.{any, Answer, accepted, numbers_of, kept_scratch}
use Rattle.validation.proofs.RefusalLaws.{number-some}
use Rattle.single_check.specs.Settings.{setting_by, EarlyIs, SettledIs}
use Rattle.single_check.specs.SheetLaws.{roomy, front-scratch}
use Rattle.single_check.specs.declared.settings.Setting.{Setting as CodeSetting}
use Rattle.rule_book.specs.Book.{sheets_of}
use Rattle.rule_book.proofs.BookLaws.{book-round-trip}
use Rattle.rule_book.specs.Places.{sheet_count}
use Rattle.rule_book.specs.Tally.{asked_of, setting_refusal}
use Rattle.rule_book.proofs.TallyLaws.{tally-bytes}
use Rattle.rule_book.specs.Tallying.{answers_in}
use Rattle.rule_book.proofs.CallSteps as Book
use Rattle.wall.specs.Pages.{per_page, page_bytes, page_count, pages_from, lines_of, pages_of}
use Rattle.call.specs.Call.{refused_by, told, if_told, numbers_with}
use Rattle.wall.specs.Wall.{WallCall, wall_figures, wall_answer, wall_numbers, MeetsWall}
use Rattle.wall.specs.WallLaws.{settings-first, form-refused, pages-refused, table-refused, wall-printed}
use Rattle.wall.specs.Printing.{Given, PagesPut, wall_run_of}

counted-sheets : (o : Option (List (List ℕ))) (n : ℕ) (sheets : List (List ℕ)) → map length o ≡ some n → o ≡ some sheets → n ≡ length sheets
counted-sheets o n sheets e f = some-injective n (length sheets) (sym e ∙ ap (λ (o : Option (List (List ℕ))). map length o) f)

module _ (kind semantics : ℕ) (label table schema book path_before pages_before before : List ℕ) where
  abbrev wall_call : WallCall
  wall_call = record { run = Book.call kind semantics label table schema book path_before before; pages = length pages_before }

  meets-refused : {n : ℕ} {r : List ℕ} → wall_answer wall_call ≡ refused_by n → r ≡ wall_numbers (refused_by n)
      → MeetsWall (wall_run_of kind semantics label table schema book path_before pages_before before r path_before pages_before before)
  unfolding if_told
  meets-refused a e = record { result = rw a e; buffers = rw a (refl, (refl, (refl, tt))) }

  pub meets-settings : {n : ℕ} {r : List ℕ} → EarlyIs kind semantics label (length path_before) (length before) n → (n ≡ 0 → ⊥)
      → r ≡ wall_numbers (refused_by n)
      → MeetsWall (wall_run_of kind semantics label table schema book path_before pages_before before r path_before pages_before before)
  unfolding asked_of
  meets-settings {n} e h q = meets-refused (settings-first wall_call n (number-some n _ (e.first any []) h)) q

  module _ {n : ℕ} (e : EarlyIs kind semantics label (length path_before) (length before) n) (z : n ≡ 0) where
    pass : setting_refusal wall_call.run ≡ none
    pass = Book.settings-pass kind semantics label table schema book path_before before e z

    pub meets-form : {r : List ℕ} → sheets_of book ≡ none → r ≡ wall_numbers (refused_by 34)
        → MeetsWall (wall_run_of kind semantics label table schema book path_before pages_before before r path_before pages_before before)
    meets-form f q = meets-refused (form-refused wall_call pass f) q

    module _ {k count : ℕ} (counted : sheet_count book ≡ some k) (c : count ≡ page_count k) where
      all : (sheets : List (List ℕ)) × (sheets_of book ≡ some sheets)
      all = Book.all kind semantics label table schema book path_before before e z counted

      sheets-are : k ≡ length all.0
      unfolding sheet_count
      sheets-are = counted-sheets (sheets_of book) k all.0 counted all.1

      pages-are : count ≡ page_count (length all.0)
      pages-are = c ∙ ap page_count sheets-are

      pub meets-room : {r : List ℕ} → length pages_before / 4860 < count → r ≡ wall_numbers (refused_by 33)
          → MeetsWall (wall_run_of kind semantics label table schema book path_before pages_before before r path_before pages_before before)
      meets-room short q = meets-refused (pages-refused wall_call pass all.0 all.1 (omega (arith, pages-are))) q

      pub given : Given label book path_before before
      given =
          let room = roomy _ _ (Book.not-due kind semantics label table schema book path_before before e z []) in
          record { sheets = all.0; form = all.1; small = room.small; room = room.room; enough = room.words }

      -- a sheet has two bytes or more in the book, so there are few pages
      pub few : length book < 2 ^ 64 → per_page * count < 2 ^ 64
      unfolding page_count numbers_of
      few small =
          let bytes = tally-bytes (λ sheet. accepted 0) (λ sheet. omega arith) all.0 in
          let same = ap length ((book-round-trip book all.0).0 all.1) in
          omega (arith, pages-are, same, bytes)

      module _ (room : count ≤ length pages_before / 4860) where
        fits : page_bytes * page_count (length all.0) ≤ length pages_before
        fits = omega (arith, pages-are)

        pub meets-table : {m : ℕ} {r : List ℕ} → SettledIs kind semantics table (Err m) → r ≡ wall_numbers (refused_by m)
            → MeetsWall (wall_run_of kind semantics label table schema book path_before pages_before before r path_before pages_before before)
        meets-table {m} t q = meets-refused (table-refused wall_call pass all.0 all.1 fits m t) q

        pub meets-printed : (s : CodeSetting) → SettledIs kind semantics table (Ok s) → {after path pages r : List ℕ}
            → PagesPut (setting_by s) label schema book count path_before path before after pages_before pages
            → r ≡ 0 ∷ count ∷ []
            → MeetsWall (wall_run_of kind semantics label table schema book path_before pages_before before r path pages after)
        unfolding numbers_with wall_figures if_told pages_of lines_of kept_scratch answers_in
        meets-printed s t put q =
            let answers = answers_in (setting_by s) label schema all.0 in
            let same = Book.same-answers kind semantics label table schema book path_before before e z counted s t all.0 in
            let answer : wall_answer wall_call ≡ told answers = wall-printed wall_call pass all.0 all.1 fits t.0 ∙ ap (λ (l : List Answer). told l) same in
            let size : count ≡ page_count (length answers) = pages-are ∙ ap page_count (sym (length-map all.0 _)) in
            record {
              result = rw answer (q ∙ ap (λ (n : ℕ). 0 ∷ n ∷ []) size);
              buffers =
                  rw answer (
                    put.kept,
                    (
                      put.written all.0 all.1 ∙ ap (λ (n : ℕ). sets pages_before 0 (flatten (pages_from 0 n answers))) size,
                      (front-scratch (accepted 0) put.front refl, tt),
                    ),
                  );
            }
