-- What a call for the wall promises: which refusal is heard, that nothing changes under one, and that the pages are those of the tally's run.
use Prim.Native.Nat.{ℕ, ◌+◌, ◌*◌, ◌/◌, ◌%◌, ◌≤◌, ◌<◌}
use Rattle.std.proofs.Common.{arith, sym, ◌∙◌, leb-true, leb-false, le-leb}
use Rattle.std.specs.Prelude.{true, ◌↔◌, ◌≡◌, refl, leb, get_or}
use mathlib.Core.List.{List, [], ◌∷◌, ◌++◌, map}
use Rattle.std.proofs.Math.Option.{Option, none, some, some-injective}
use Rattle.std.proofs.Math.Path.{ap}
use Rattle.std.proofs.Math.ListN.{length, length-map, get_or-map}
use Rattle.std.proofs.lemmas.Bool.{lt-leb, not-true}
use Rattle.reference.specs.Setting.{one_of}
use Rattle.validation.specs.Check.{is_none}
use Rattle.validation.specs.Result.{Widths, are_wide, Answer, Refusal, of_table, of_settings, early, of_sheets, refusals, first_refusal, result_of, path_bytes, scratch_words}
use Rattle.validation.proofs.RefusalLaws.{every, present, absent, are-wide, is_set, none-due, first-none}
use Rattle.call.specs.Call.{refused_by, told, heard_by, tried, if_told, Run, Untouched, is_written}
use Rattle.call.proofs.CallLaws.{told-injective, heard-refused, heard-told, nothing-due, front-due, front-passes, first-due, first_passes, only-tried, of-heard, heard-at, numbers-size, first-low, AllWithin, numbers-within, refused-untouched, if-told-written, same_answer}
use Rattle.single_check.specs.Settings.{widths_by}
use Rattle.rule_book.specs.Book.{sheets_of}
use Rattle.rule_book.specs.Tally.{BookCall, asked_of, single, of_form, answers_of, sum, Tally, tally_of, or_no_sheets, book_answer, setting_refusal}
use Rattle.rule_book.proofs.TallyLaws.{no-room-due, book-tallied, capped_book, capped_same, read-bound, lending}
use Rattle.wall.specs.Pages.{page_bytes, result_line, page_count, pages_of, own_counts}
use Rattle.wall.specs.PageLaws.{pages-size, line_at, result-line, feet-add-up}
use Rattle.wall.specs.Wall.{WallCall, wall_answers, of_pages, wall_refusals, wall_refusal_numbers, wall_figures, wall_shape, wall_answer, wall_numbers, MeetsWall, IsPrinted}
use Rattle.wall.specs.Printing.{wall_run_of}

-- The refusals: 1 to 3 as in a single check, then 34, then 33, then those of the table.

abbrev behind_settings : WallCall → List Refusal
behind_settings c = of_form c.run.book ∷ of_pages c ∷ of_table c.run.table

pub settings-first : (c : WallCall) (n : ℕ) → setting_refusal c.run ≡ some n → wall_answer c ≡ refused_by n
unfolding wall_refusals
settings-first c n e = front-due (of_settings (asked_of c.run []) c.run.lent) (behind_settings c) (wall_answers c.run) n e

-- how many pages the sheets of a book fill
pub count-sheets : (c : BookCall) (sheets : List (List ℕ)) → sheets_of c.book ≡ some sheets → length (wall_answers c) ≡ length sheets
unfolding wall_answers answers_of or_no_sheets
count-sheets c sheets form = rw form (length-map sheets _)

module _ (c : WallCall) (h : setting_refusal c.run ≡ none) where
  then-form : wall_answer c ≡ heard_by (behind_settings c) (wall_answers c.run)
  unfolding wall_refusals
  then-form = front-passes (of_settings (asked_of c.run []) c.run.lent) (behind_settings c) (wall_answers c.run) h

  pub form-refused : sheets_of c.run.book ≡ none → wall_answer c ≡ refused_by 34
  unfolding is_none
  form-refused e = then-form ∙ first-due _ (of_pages c ∷ of_table c.run.table) (wall_answers c.run) (rw e)

  module _ (sheets : List (List ℕ)) (form : sheets_of c.run.book ≡ some sheets) where
    then-pages : wall_answer c ≡ heard_by (of_pages c ∷ of_table c.run.table) (wall_answers c.run)
    unfolding is_none
    then-pages = then-form ∙ first_passes _ (of_pages c ∷ of_table c.run.table) (wall_answers c.run) (rw form)

    pub pages-refused : c.pages < page_bytes * page_count (length sheets) → wall_answer c ≡ refused_by 33
    pages-refused short =
        let less : c.pages < page_bytes * page_count (length (wall_answers c.run)) = rw (count-sheets c.run sheets form) short in
        then-pages ∙ first-due (of_pages c) (of_table c.run.table) (wall_answers c.run) (rw (lt-leb _ c.pages less))

    module _ (room : page_bytes * page_count (length sheets) ≤ c.pages) where
      then-table : wall_answer c ≡ heard_by (of_table c.run.table) (wall_answers c.run)
      then-table =
          let fits : page_bytes * page_count (length (wall_answers c.run)) ≤ c.pages = rw (count-sheets c.run sheets form) room in
          then-pages ∙ first_passes (of_pages c) (of_table c.run.table) (wall_answers c.run) (rw (le-leb _ c.pages fits))

      pub table-refused : (n : ℕ) → first_refusal (of_table c.run.table) ≡ some n → wall_answer c ≡ refused_by n
      table-refused n e = then-table ∙ (heard-refused (of_table c.run.table) (wall_answers c.run) n).1 e

      pub wall-printed : first_refusal (of_table c.run.table) ≡ none → wall_answer c ≡ told (answers_of c.run sheets)
      unfolding wall_answers or_no_sheets
      wall-printed e = then-table ∙ nothing-due (of_table c.run.table) (wall_answers c.run) e ∙ rw form

-- What was printed: the file is of the form, and no refusal is due.

pub is-printed : (c : WallCall) (answers : List Answer) → wall_answer c ≡ told answers → IsPrinted c answers
unfolding wall_refusals wall_answers of_settings or_no_sheets
is-printed c answers e =
    let (unrefused, same) = heard-told (wall_refusals c) (wall_answers c.run) answers e in
    let (settings, (label, (widths, (book, (pages, table))))) = none-due (wall_refusals c) unrefused in
    let (sheets, form) = present (sheets_of c.run.book) book in
    let checked : answers ≡ answers_of c.run sheets = sym same ∙ ap (λ (o : Option (List (List ℕ))). answers_of c.run (or_no_sheets o)) form in
    record {
      sheets = sheets;
      form = form;
      checked = checked;
      room = rw same at (leb-true _ c.pages (is_set _ pages));
      tally =
          book-tallied c.run (first-none (of_settings (asked_of c.run []) c.run.lent) (settings, (label, (widths, tt)))) sheets form
          (first-none (of_table c.run.table) table)
          ∙ ap (λ (l : List Answer). told (tally_of l)) (sym checked);
    }

module _ (c : WallCall) (answers : List Answer) (e : wall_answer c ≡ told answers) where
  -- the k-th result line is what the check of the k-th sheet alone answers
  pub line-of-sheet : (sheets : List (List ℕ)) → sheets_of c.run.book ≡ some sheets → (k : ℕ) → k < length sheets
      → line_at answers (k / 58) (k % 58 + 1) ≡ result_line (k + 1) (result_of (single c.run (get_or sheets k [])))
  unfolding answers_of
  line-of-sheet sheets form k less =
      let is = is-printed c answers e in
      let same = some-injective is.sheets sheets (sym is.form ∙ form) in
      let f : List ℕ → Answer = λ sheet. result_of (single c.run sheet) in
      let checked : answers ≡ map f sheets = is.checked ∙ ap (map f) same in
      let size = ap length checked ∙ length-map sheets f in
      result-line answers k (f []) (omega (arith, size))
      ∙ ap (λ (l : List Answer). result_line (k + 1) (get_or l k (f []))) checked
      ∙ ap (result_line (k + 1)) (get_or-map f sheets k [])

  -- the feet add up to the tally's accepted
  pub feet-tally : (t : Tally) → book_answer c.run ≡ told t → sum (own_counts (page_count (length answers)) answers) ≡ t.accepted
  feet-tally t f =
      let same : tally_of answers ≡ t = told-injective (sym (is-printed c answers e).tally ∙ f) in
      feet-add-up answers ∙ ap (λ (x : Tally). x.accepted) same

  -- the pages fit: all of them are at the start of the buffer
  pub pages-fit : length (pages_of answers) ≤ c.pages
  pages-fit = omega (arith, pages-size answers, (is-printed c answers e).room)

  pub few-pages : page_count (length answers) ≤ length c.run.book
  unfolding page_count tally_of
  few-pages = omega (arith, read-bound c.run (tally_of answers) (is-printed c answers e).tally)

-- 34 is heard exactly where 1 to 3 are not due and the file is not of the form; 33 where it is and the buffer is too short for its pages.

pub wall-34 : (c : WallCall) → (wall_answer c ≡ refused_by 34) ↔ ((setting_refusal c.run ≡ none) × (sheets_of c.run.book ≡ none))
unfolding wall_refusals of_settings tried one_of
wall-34 c =
    let at = heard-at (of_settings (asked_of c.run []) c.run.lent) (of_form c.run.book) (of_pages c ∷ of_table c.run.table) (wall_answers c.run) refl refl in
    (λ e. let h = at.0 e in (h.0, absent (sheets_of c.run.book) h.1), λ h. form-refused c h.0 h.1)

pub wall-33 : (c : WallCall) → (wall_answer c ≡ refused_by 33)
    ↔ ((setting_refusal c.run ≡ none) × (sheets : List (List ℕ)) × (sheets_of c.run.book ≡ some sheets) × (c.pages < page_bytes * page_count (length sheets)))
unfolding wall_refusals of_settings tried one_of
wall-33 c =
    let front = of_settings (asked_of c.run []) c.run.lent in
    let at = heard-at (front ++ (of_form c.run.book ∷ [])) (of_pages c) (of_table c.run.table) (wall_answers c.run) refl refl in (
      λ e.
          let (before, due) = at.0 e in
          let (settings, (label, (widths, (book, done)))) = none-due (front ++ (of_form c.run.book ∷ [])) before in
          let (sheets, form) = present (sheets_of c.run.book) book in
          let short = leb-false _ c.pages (not-true _ due) in
          (first-none front (settings, (label, (widths, tt))), sheets, form, rw (count-sheets c.run sheets form) at short),
      λ h. pages-refused c h.0 h.1 h.2 h.3,
    )

-- the refusals are tried in the order of the list, and no other number is heard
pub wall-tries : (c : WallCall) → tried (wall_refusals c) ≡ wall_refusal_numbers
unfolding wall_refusals wall_refusal_numbers of_settings tried
wall-tries c = refl

pub wall-refusal-listed : (c : WallCall) (n : ℕ) → wall_answer c ≡ refused_by n → one_of n wall_refusal_numbers ≡ true
wall-refusal-listed c n e = only-tried (wall_refusals c) (wall_answers c.run) n wall_refusal_numbers (wall-tries c) e

-- a path buffer without room is refused, whatever else the call holds
pub no-room-refused : (c : WallCall) → c.run.lent.path < path_bytes → (n : ℕ) × (wall_answer c ≡ refused_by n)
no-room-refused c short = let (n, e) = no-room-due c.run short in (n, settings-first c n e)

-- a number beyond kinds and semantics may stand for every larger one
pub capped-wall : (most : ℕ) (c : BookCall) (pages : ℕ) → 8 < most
    → wall_answer (record { run = capped_book most c; pages = pages }) ≡ wall_answer (record { run = c; pages = pages })
capped-wall most c pages =
    capped_same (λ (run : BookCall). wall_answer (record { run = run; pages = pages })) (refused_by 1)
    (λ run e. settings-first (record { run = run; pages = pages }) 1 e) most c

-- A refusal changes nothing; what path buffer and scratch held never matters, nor how long they are, if both have room or neither has.

pub refused-unchanged : (r : Run WallCall) (n : ℕ) → MeetsWall r → wall_answer r.call ≡ refused_by n → Untouched r.buffers
unfolding if_told
refused-unchanged r n m e = refused-untouched wall_shape r n m e (refl, (refl, (refl, tt)))

-- the same call with other widths
unfoldable pub lending_wall : Widths → WallCall → WallCall
lending_wall w c = record { run = lending w c.run; pages = c.pages }

pub lending-wall : (c : WallCall) (w : Widths) → are_wide w ≡ are_wide c.run.lent → wall_answer (lending_wall w c) ≡ wall_answer c
unfolding lending_wall lending wall_refusals wall_answers answers_of of_settings asked_of single result_of refusals early of_sheets
lending-wall c w room = rw room refl

module _ (kind semantics : ℕ) (label table schema book pages : List ℕ) {path scratch r path_now pages_now scratch_now path' scratch' r' path_now' pages_now' scratch_now' : List ℕ}
    (m : MeetsWall (wall_run_of kind semantics label table schema book path pages scratch r path_now pages_now scratch_now))
    (m' : MeetsWall (wall_run_of kind semantics label table schema book path' pages scratch' r' path_now' pages_now' scratch_now')) where
  pub any-buffers : are_wide (widths_by (length path) (length scratch)) ≡ are_wide (widths_by (length path') (length scratch')) → (r ≡ r') × (pages_now ≡ pages_now')
  unfolding lending_wall lending is_written
  any-buffers room =
      let same = same_answer wall_shape _ _ m m' (lending-wall (wall_run_of kind semantics label table schema book path' pages scratch' r' path_now' pages_now' scratch_now').call _ room) in
      (same.result, same.buffers.1.0 (if-told-written _ (λ answers. refl) _) refl)

  -- so 4,096 elements serve as well as more
  pub lean-buffers : path_bytes ≤ length path → scratch_words ≤ length scratch → path_bytes ≤ length path' → scratch_words ≤ length scratch' → (r ≡ r') × (pages_now ≡ pages_now')
  lean-buffers p s p' s' = any-buffers (are-wide _ p s ∙ sym (are-wide _ p' s'))

-- The two numbers of a result.

pub wall-size : (c : WallCall) → length (wall_numbers (wall_answer c)) ≡ 2
unfolding wall_figures
wall-size c = numbers-size 1 wall_figures (wall_answer c) (λ answers e. refl)

refusal-low : (c : WallCall) (n : ℕ) → wall_answer c ≡ refused_by n → n ≤ 38
unfolding wall_refusal_numbers every
refusal-low c n e = leb-true n 38 (of-heard (λ (m : ℕ). leb m 38) (wall_refusals c) (wall_answers c.run) n wall_refusal_numbers (wall-tries c) refl e)

-- the first is small, and none is beyond the book's length and a refusal's number, so eight bytes hold each
pub wall-first : (c : WallCall) → get_or (wall_numbers (wall_answer c)) 0 0 ≤ 38
wall-first c = first-low 38 1 wall_figures (wall_answer c) (refusal-low c)

pub wall-within : (c : WallCall) → AllWithin (38 + length c.run.book) (wall_numbers (wall_answer c))
unfolding wall_figures
wall-within c =
    numbers-within (38 + length c.run.book) 1 wall_figures (wall_answer c) (λ n e. omega (arith, refusal-low c n e))
    (λ answers e. (omega (arith, few-pages c answers e), tt))
