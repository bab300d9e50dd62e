-- What a tally promises: every sheet of the book is counted once, under the number that its own check answers.
use Rattle.std.specs.Prelude.{ℕ, zero, suc, ◌+◌, ◌*◌, ◌≤◌, ◌<◌, min, Bool, true, false, cond, ◌↔◌, ◌≡◌, refl, leb, eqb, get_or}
use Rattle.std.proofs.Common.{arith, sym, subst, ◌∙◌, eqb-true, leb-true}
use mathlib.Core.List.{List, [], ◌∷◌, ◌++◌, map, map-map}
use Rattle.std.proofs.Math.Option.{Option, none, some, some-injective}
use Rattle.std.proofs.Math.Path.{ap}
use Rattle.std.proofs.Math.ListN.{length, length-map}
use Rattle.std.proofs.lemmas.Bool.{eqb-false}
use Rattle.text.specs.CaseLaws.{by-test}
use Rattle.definition.specs.Decode.{decode_schema}
use Rattle.reference.specs.Setting.{one_of}
use Rattle.validation.specs.Check.{is_none, IsDefect}
use Rattle.validation.specs.Result.{Widths, are_wide, Call, Answer, refused, Heard, refusal, acceptance, finding, of_table, of_settings, early, of_sheets, refusals, first_refusal, numbers_of, result_of, path_bytes, scratch_words}
use Rattle.validation.specs.Result as Result
use Rattle.validation.proofs.RefusalLaws.{every, present, absent, are-wide, none-due, first-none, of-listed, of-first, sheets-first, capped-settings}
use Rattle.call.specs.Call.{refused_by, told, heard_by, tried, if_told, Run, Untouched}
use Rattle.call.proofs.CallLaws.{heard-refused, heard-told, nothing-due, front-due, front-passes, first-due, first_passes, only-tried, of-heard, heard-at, numbers-size, first-low, AllWithin, numbers-within, refused-untouched, same_answer}
use Rattle.single_check.specs.Settings.{widths_by}
use Rattle.single_check.specs.SheetLaws.{roomy}
use Rattle.validation.proofs.DemandLaws.{NotRefused, heard, unrefused-answer}
use Rattle.rule_book.specs.Book.{sheets_of, write_book}
use Rattle.rule_book.proofs.BookLaws.{sheet-bytes, book-first, book-round-trip}
use Rattle.rule_book.proofs.ByteLaws.{passed-bytes}
use Rattle.rule_book.specs.Tally.{BookCall, asked_of, single, of_form, book_refusals, book_refusal_numbers, answers_of, count_of, sum, passed_in, Tally, defect_numbers, tally_of, or_no_sheets, tally_in, tally_figures, tally_shape, book_answer, tally_numbers, MeetsBook, setting_refusal, IsTallied}
use Rattle.rule_book.specs.Tallying.{book_run_of}

-- A book that is tallied: it is of the form, and no check of a sheet is refused before its sheets are read.

pub is-tallied : (c : BookCall) (t : Tally) → book_answer c ≡ told t → IsTallied c t
unfolding book_refusals of_settings early single asked_of tally_in or_no_sheets
is-tallied c t e =
    let (unrefused, same) = heard-told (book_refusals c) (tally_in c) t e in
    let (settings, (label, (widths, (book, table)))) = none-due (book_refusals c) unrefused in
    let (sheets, form) = present (sheets_of c.book) book in
    record {
      sheets = sheets;
      form = form;
      tally = sym same ∙ ap (λ (o : Option (List (List ℕ))). tally_of (answers_of c (or_no_sheets o))) form;
      unrefused = λ sheet. first-none (early (single c sheet)) (settings, (label, (widths, (refl, table))));
    }

-- Every sheet is counted once.

-- how often a number occurs among these
unfoldable hits : List ℕ → ℕ → ℕ
hits [] n = 0
hits (m ∷ ms) n = cond (eqb n m) 1 0 + hits ms n

unfoldable counted : List ℕ → List Answer → ℕ
counted ns answers = sum (map (λ (n : ℕ). count_of n answers) ns)

counted_none : (ns : List ℕ) → counted ns [] ≡ 0
unfolding counted sum count_of
counted_none [] = refl
counted_none (n ∷ ns) = omega (arith, counted_none ns)

counted-more : (ns : List ℕ) (a : Answer) (others : List Answer) → counted ns (a ∷ others) ≡ hits ns (numbers_of a).number + counted ns others
unfolding counted sum count_of hits
counted-more [] a others = refl
counted-more (n ∷ ns) a others = let more = counted-more ns a others in omega arith

-- acceptance, the refusals of the sheets, the defects
unfoldable heads : List ℕ
heads = 0 ∷ 4 ∷ 5 ∷ defect_numbers

unfoldable is_once : ℕ → Bool
is_once n = eqb (hits heads n) 1

unfoldable numbers_from : (low count : ℕ) → List ℕ
numbers_from low zero = []
numbers_from low (suc count) = low ∷ numbers_from (low + 1) count

from-listed : (low count n : ℕ) → low ≤ n → n < low + count → one_of n (numbers_from low count) ≡ true
unfolding numbers_from one_of
from-listed low zero n h k = absurd (omega arith)
from-listed low (suc count) n h k =
    by-test (eqb n low) (λ e. rw e)
    (λ e.
    let other = eqb-false n low e in
    rw e (from-listed (low + 1) count n (omega arith) (omega arith)))

defect-listed : (n : ℕ) → IsDefect n → one_of n defect_numbers ≡ true
unfolding numbers_from defect_numbers
defect-listed n d = from-listed 11 12 n d.low (omega (arith, d.high))

once-heard : {a : Answer} → Heard a → ((n : ℕ) → a ≡ refused n → is_once n ≡ true) → is_once (numbers_of a).number ≡ true
unfolding numbers_of is_once heads hits defect_numbers every
once-heard (refusal {n} p) refusals = refusals n refl
once-heard acceptance refusals = refl
once-heard (finding {d} f) refusals = of-listed is_once d.number defect_numbers refl (defect-listed d.number f)

-- where nothing is refused before the sheets are read, only they are
refused-once : (c : Call) → first_refusal (early c) ≡ none → (n : ℕ) → result_of c ≡ refused n → is_once n ≡ true
unfolding result_of Result.refused_or of_sheets every is_once heads hits defect_numbers
refused-once c h n e = go (first_refusal (refusals c)) refl
  where
    go : (o : Option ℕ) → first_refusal (refusals c) ≡ o → is_once n ≡ true
    go none f = absurd (subst NotRefused e (unrefused-answer c f))
    go (some m) f =
        let same : refused m ≡ refused n = rw f at e in
        let number : m ≡ n = cc in
        rw number at (of-first is_once m (of_sheets c) refl (sym (sheets-first c h) ∙ f))

once : (c : Call) → first_refusal (early c) ≡ none → hits heads (numbers_of (result_of c)).number ≡ 1
unfolding is_once
once c h = eqb-true _ 1 (once-heard (heard c) (refused-once c h))

all-counted : (c : BookCall) (sheets : List (List ℕ)) → ((sheet : List ℕ) → first_refusal (early (single c sheet)) ≡ none)
    → counted heads (answers_of c sheets) ≡ length (answers_of c sheets)
unfolding answers_of
all-counted c [] h = counted_none heads
all-counted c (s ∷ others) h =
    counted-more heads (result_of (single c s)) (answers_of c others) ∙ omega (arith, once (single c s) (h s), all-counted c others h)

-- Under a schema that is not well formed every sheet is counted under 4.

schema-refused : (c : Call) → first_refusal (early c) ≡ none → decode_schema c.schema ≡ none → (numbers_of (result_of c)).number ≡ 4
unfolding result_of Result.refused_or numbers_of of_sheets first_refusal is_none
schema-refused c h e = rw (sheets-first c h, e)

all-refused : (c : BookCall) (sheets : List (List ℕ)) → ((sheet : List ℕ) → first_refusal (early (single c sheet)) ≡ none)
    → decode_schema c.schema ≡ none
    → count_of 4 (answers_of c sheets) ≡ length (answers_of c sheets)
unfolding answers_of count_of single
all-refused c [] h e = refl
all-refused c (s ∷ others) h e =
    rw (schema-refused (single c s) (h s) e) (omega (arith, all-refused c others h e))

-- No number comes more often than there are answers.

pub counts-within : (n : ℕ) (answers : List Answer) → count_of n answers ≤ length answers
unfolding count_of
counts-within n [] = omega arith
counts-within n (a ∷ others) = go (eqb (numbers_of a).number n) (counts-within n others)
  where
    go : (b : Bool) → count_of n others ≤ length others → cond b 1 0 + count_of n others ≤ suc (length others)
    go true h = omega arith
    go false h = omega arith

-- The book is longer than the total: a sheet's length and its comma take two bytes, and no check passes more than its sheet has bytes.

pub tally-bytes : (f : List ℕ → Answer) → ((sheet : List ℕ) → (numbers_of (f sheet)).passed ≤ length sheet) → (sheets : List (List ℕ))
    → 2 * length sheets + passed_in (map f sheets) ≤ length (write_book sheets)
unfolding passed_in sum
tally-bytes f small [] = omega arith
tally-bytes f small (s ∷ others) =
    omega (arith, sheet-bytes _ s (write_book others) (book-first s others), small s, tally-bytes f small others)

-- The promises.

module _ (c : BookCall) (t : Tally) (e : book_answer c ≡ told t) where
  is : IsTallied c t
  is = is-tallied c t e

  same-sheets : (sheets : List (List ℕ)) → sheets_of c.book ≡ some sheets → is.sheets ≡ sheets
  same-sheets sheets f = some-injective is.sheets sheets (sym is.form ∙ f)

  -- as many are read as there are in the file
  pub reads_all : (sheets : List (List ℕ)) → sheets_of c.book ≡ some sheets → t.read ≡ length sheets
  unfolding tally_of answers_of
  reads_all sheets f = rw (is.tally, same-sheets sheets f) (length-map sheets _)

  -- the other counts add up to it
  pub adds-up : t.read ≡ t.accepted + t.schema_refused + t.rule_refused + sum t.found
  unfolding tally_of counted heads sum
  adds-up = rw is.tally (omega (arith, all-counted c is.sheets is.unrefused))

  -- what passed is the total of what the single checks pass
  pub passed-total : (sheets : List (List ℕ)) → sheets_of c.book ≡ some sheets
      → t.passed ≡ sum (map (λ (sheet : List ℕ). (numbers_of (result_of (single c sheet))).passed) sheets)
  unfolding tally_of passed_in answers_of
  passed-total sheets f = rw (is.tally, same-sheets sheets f) (ap sum (map-map _ _ sheets))

  -- no count and no total is beyond the book's length
  in_bytes : 2 * t.read + t.passed ≤ length c.book
  unfolding tally_of answers_of single asked_of
  in_bytes =
      let written = ap length ((book-round-trip c.book is.sheets).0 is.form) in
      let answered = length-map is.sheets (λ (sheet : List ℕ). result_of (single c sheet)) in
      rw is.tally
      (omega (arith, written, answered, tally-bytes (λ (sheet : List ℕ). result_of (single c sheet)) (λ sheet. passed-bytes (single c sheet)) is.sheets))

  pub read-bound : t.read ≤ length c.book
  read-bound = omega (arith, in_bytes)

  pub passed-bound : t.passed ≤ length c.book
  passed-bound = omega (arith, in_bytes)

  pub bad-schema-counts : decode_schema c.schema ≡ none → t.schema_refused ≡ t.read
  unfolding tally_of
  bad-schema-counts f = rw is.tally (all-refused c is.sheets is.unrefused f)

-- The refusals: 1 to 3 as in a single check, then 34, then those of the table.

pub settings-first : (c : BookCall) (n : ℕ) → setting_refusal c ≡ some n → book_answer c ≡ refused_by n
unfolding book_refusals
settings-first c n e = front-due (of_settings (asked_of c []) c.lent) (of_form c.book ∷ of_table c.table) (tally_in c) n e

module _ (c : BookCall) (h : setting_refusal c ≡ none) where
  then-form : book_answer c ≡ heard_by (of_form c.book ∷ of_table c.table) (tally_in c)
  unfolding book_refusals
  then-form = front-passes (of_settings (asked_of c []) c.lent) (of_form c.book ∷ of_table c.table) (tally_in c) h

  pub form-refused : sheets_of c.book ≡ none → book_answer c ≡ refused_by 34
  unfolding is_none
  form-refused e = then-form ∙ first-due _ (of_table c.table) (tally_in c) (rw e)

  module _ (sheets : List (List ℕ)) (form : sheets_of c.book ≡ some sheets) where
    then-table : book_answer c ≡ heard_by (of_table c.table) (tally_in c)
    unfolding is_none
    then-table = then-form ∙ first_passes _ (of_table c.table) (tally_in c) (rw form)

    pub table-refused : (n : ℕ) → first_refusal (of_table c.table) ≡ some n → book_answer c ≡ refused_by n
    table-refused n e = then-table ∙ (heard-refused (of_table c.table) (tally_in c) n).1 e

    pub book-tallied : first_refusal (of_table c.table) ≡ none → book_answer c ≡ told (tally_of (answers_of c sheets))
    unfolding tally_in or_no_sheets
    book-tallied e = then-table ∙ nothing-due (of_table c.table) (tally_in c) e ∙ rw form

-- 34 is heard exactly where 1 to 3 are not due and the file is not of the form
pub book-34 : (c : BookCall) → (book_answer c ≡ refused_by 34) ↔ ((setting_refusal c ≡ none) × (sheets_of c.book ≡ none))
unfolding book_refusals of_settings tried one_of
book-34 c =
    let at = heard-at (of_settings (asked_of c []) c.lent) (of_form c.book) (of_table c.table) (tally_in c) refl refl in
    (λ e. let h = at.0 e in (h.0, absent (sheets_of c.book) h.1), λ h. form-refused c h.0 h.1)

-- a book of one sheet tallies what its single check answers
pub one-sheet : (c : BookCall) (sheet : List ℕ) (t : Tally) → sheets_of c.book ≡ some (sheet ∷ []) → book_answer c ≡ told t
    → t ≡ tally_of (result_of (single c sheet) ∷ [])
unfolding answers_of
one-sheet c sheet t form e =
    let is = is-tallied c t e in
    let same = some-injective is.sheets (sheet ∷ []) (sym is.form ∙ form) in
    is.tally ∙ ap (λ (sheets : List (List ℕ)). tally_of (answers_of c sheets)) same

-- the refusals are tried in the order of the list, and no other number is heard
pub book-tries : (c : BookCall) → tried (book_refusals c) ≡ book_refusal_numbers
unfolding book_refusals book_refusal_numbers of_settings tried
book-tries c = refl

pub book-refusal-listed : (c : BookCall) (n : ℕ) → book_answer c ≡ refused_by n → one_of n book_refusal_numbers ≡ true
book-refusal-listed c n e = only-tried (book_refusals c) (tally_in c) n book_refusal_numbers (book-tries c) e

-- a path buffer without room is refused, whatever else the call holds
pub no-room-due : (c : BookCall) → c.lent.path < path_bytes → (n : ℕ) × (setting_refusal c ≡ some n)
unfolding asked_of
no-room-due c short = go (setting_refusal c) refl
  where
    go : (o : Option ℕ) → setting_refusal c ≡ o → (n : ℕ) × (setting_refusal c ≡ some n)
    go none e = absurd (omega (arith, short, (roomy (asked_of c []) c.lent e).room))
    go (some n) e = (n, e)

pub no-room-refused : (c : BookCall) → c.lent.path < path_bytes → (n : ℕ) × (book_answer c ≡ refused_by n)
no-room-refused c short = let (n, e) = no-room-due c short in (n, settings-first c n e)

-- A kind or semantics beyond its range is refusal 1, so a number beyond both may stand for every larger one.

unfoldable pub capped_book : (most : ℕ) → BookCall → BookCall
capped_book most c =
    record {
      kind = min c.kind most;
      semantics = min c.semantics most;
      label = c.label;
      table = c.table;
      schema = c.schema;
      book = c.book;
      lent = c.lent;
    }

-- of every answer that refusal 1 decides
pub capped_same : {A : Type 0} (f : BookCall → A) (a : A) → ((c : BookCall) → setting_refusal c ≡ some 1 → f c ≡ a) → (most : ℕ) (c : BookCall) → 8 < most
    → f (capped_book most c) ≡ f c
unfolding capped_book of_settings first_refusal asked_of
capped_same f a decides most c =
    capped-settings
    (λ kind semantics.
    f (record { kind = kind; semantics = semantics; label = c.label; table = c.table; schema = c.schema; book = c.book; lent = c.lent }))
    a (λ kind semantics e. decides _ (rw e)) most c.kind c.semantics

pub capped-book : (most : ℕ) (c : BookCall) → 8 < most → book_answer (capped_book most c) ≡ book_answer c
capped-book = capped_same book_answer (refused_by 1) (λ c e. settings-first c 1 e)

-- The eighteen numbers.

abbrev is-tally : (c : BookCall) (t : Tally) → book_answer c ≡ told t → tally_in c ≡ t
is-tally c t e = (heard-told (book_refusals c) (tally_in c) t e).1

pub tally-size : (c : BookCall) → length (tally_numbers (book_answer c)) ≡ 18
unfolding tally_figures tally_in tally_of defect_numbers
tally-size c = numbers-size 17 tally_figures (book_answer c) (λ t e. rw (← (is-tally c t e)) refl)

-- the first of them is small: the number of a refusal, or 0
refusal-low : (c : BookCall) (n : ℕ) → book_answer c ≡ refused_by n → n ≤ 38
unfolding book_refusal_numbers every
refusal-low c n e = leb-true n 38 (of-heard (λ (m : ℕ). leb m 38) (book_refusals c) (tally_in c) n book_refusal_numbers (book-tries c) refl e)

pub tally-first : (c : BookCall) → get_or (tally_numbers (book_answer c)) 0 0 ≤ 38
tally-first c = first-low 38 17 tally_figures (book_answer c) (refusal-low c)

-- and none is beyond the book's length and a refusal's number, so eight bytes hold each
counts-then : (most : ℕ) (answers : List Answer) (last : ℕ) (ns : List ℕ) → length answers ≤ most → last ≤ most
    → AllWithin most (map (λ (n : ℕ). count_of n answers) ns ++ (last ∷ []))
counts-then most answers last [] h l = (l, tt)
counts-then most answers last (n ∷ ns) h l = (omega (arith, counts-within n answers), counts-then most answers last ns h l)

pub tally-within : (c : BookCall) → AllWithin (38 + length c.book) (tally_numbers (book_answer c))
unfolding tally_figures tally_of
tally-within c =
    numbers-within (38 + length c.book) 17 tally_figures (book_answer c) (λ n e. omega (arith, refusal-low c n e))
    (λ t e.
    let answers = answers_of c (is-tallied c t e).sheets in
    let same = (is-tallied c t e).tally in
    let read : length answers ≤ length c.book = rw same at (read-bound c t e) in
    let passed : passed_in answers ≤ length c.book = rw same at (passed-bound c t e) in
    rw same (omega (arith, read), counts-then _ answers _ (0 ∷ 4 ∷ 5 ∷ defect_numbers) (omega (arith, read)) (omega (arith, passed))))

-- A refusal changes nothing; what path buffer and scratch held never matters, nor how long they are, if both have room or neither has.

pub refused-unchanged : (r : Run BookCall) (n : ℕ) → MeetsBook r → book_answer r.call ≡ refused_by n → Untouched r.buffers
unfolding if_told
refused-unchanged r n m e = refused-untouched tally_shape r n m e (refl, (refl, tt))

-- the same call with other widths
unfoldable pub lending : Widths → BookCall → BookCall
lending w c =
    record { kind = c.kind; semantics = c.semantics; label = c.label; table = c.table; schema = c.schema; book = c.book; lent = w }

pub lending-same : (c : BookCall) (w : Widths) → are_wide w ≡ are_wide c.lent → book_answer (lending w c) ≡ book_answer c
unfolding lending book_refusals tally_in answers_of of_settings asked_of single result_of refusals early of_sheets
lending-same c w room = rw room refl

module _ (kind semantics : ℕ) (label table schema book : List ℕ) {path scratch r path_now scratch_now path' scratch' r' path_now' scratch_now' : List ℕ}
    (m : MeetsBook (book_run_of kind semantics label table schema book path scratch r path_now scratch_now))
    (m' : MeetsBook (book_run_of kind semantics label table schema book path' scratch' r' path_now' scratch_now')) where
  pub any-buffers : are_wide (widths_by (length path) (length scratch)) ≡ are_wide (widths_by (length path') (length scratch')) → r ≡ r'
  unfolding lending
  any-buffers room = (same_answer tally_shape _ _ m m' (lending-same (book_run_of kind semantics label table schema book path' scratch' r' path_now' scratch_now').call _ room)).result

  -- so 4,096 elements serve as well as more
  pub lean-buffers : path_bytes ≤ length path → scratch_words ≤ length scratch → path_bytes ≤ length path' → scratch_words ≤ length scratch' → r ≡ r'
  lean-buffers p s p' s' = any-buffers (are-wide _ p s ∙ sym (are-wide _ p' s'))
