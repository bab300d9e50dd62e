-- The tally, sheet by sheet: what is counted and what is left to count make the whole.
use Rattle.std.specs.Prelude.{Option as Optional}
use Prim.Native.Nat.{ℕ, zero, suc, ◌+◌, ◌*◌, ◌<◌, ◌≤◌}
use native.Mathlib.Omega.{arith}
use mathlib.Core.Bool.{cond}
use mathlib.Core.List.{List, [], ◌∷◌, map}
use mathlib.Core.Option
use mathlib.Core.Option.{Option, none, some, none-ne-some, some-injective}
use mathlib.Core.Path.{◌≡◌, refl, sym, ap, ◌∙◌}
use lib.Dec.{eqb}
use lib.ListN.{length, drop, get_or, set, replicate, length-map, length-set, length-drop, drop_of_length-le}
use lib.Seq.{get_or-set_same, get_or-set_other}
use borrow.Author.Tests.{eqb-true, eqb-false, eq-eqb}
use Rattle.text.specs.CaseLaws.{by-test}
use Rattle.text.specs.ReadAt.{ReadsTo, Refuses}
use Rattle.reference.specs.Setting.{Setting}
use Rattle.schema.specs.Read.{SchemaIs}
use Rattle.validation.specs.Result.{any, Answer, max_label_bytes, path_bytes, Numbers, numbers_of, KeptFrom}
use Rattle.validation.proofs.KeptLaws.{kept-both}
use Rattle.single_check.specs.Answers.{Tells}
use Rattle.single_check.specs.Sheets.{takes_of, sheet_answer, FrontOnly, SheetChecked}
use Rattle.single_check.specs.SheetLaws.{still_read, front-rule, front-both}
use Rattle.single_check.specs.declared.sheets.Takes.TheVariants.{Any}
use Rattle.single_check.specs.declared.outcome.Outcome.{Outcome}
use Rattle.rule_book.specs.Book.{sheet_in, sheets_of}
use Rattle.rule_book.proofs.BookLaws.{sheets-end, sheets-more, sheets-none, book-round-trip}
use Rattle.call.specs.Call.{told, numbers_with}
use Rattle.rule_book.specs.Tally.{count_of, passed_in, sum, tally_of, tally_numbers, tally_figures, defect_numbers}
use Rattle.rule_book.proofs.TallyLaws.{counts-within, tally-bytes}
use Rattle.rule_book.proofs.AnswerLaws.{sheet-number, sheet-passed, sheet-path}
use Rattle.rule_book.specs.Tallying.{answers_in, numbers_in, Ready, SheetsTallied}
use Rattle.schema.specs.declared.read.Schema.{Schema}

-- The numbers. The sheets before place `at` are counted.
pub record Counting (f : List ℕ → Answer) (book counts : List ℕ) (read passed at : ℕ) : Type 0 where
  pub sheets : List (List ℕ)
  pub whole : sheets_of book ≡ some sheets
  pub rest : List (List ℕ)
  pub form : sheets_of (drop at book) ≡ some rest
  pub counted : (n : ℕ) → n < 23 → get_or counts n 0 + count_of n (map f rest) ≡ count_of n (map f sheets)
  pub reads : read + length rest ≡ length sheets
  pub passes : passed + passed_in (map f rest) ≡ passed_in (map f sheets)

no-counts : (k n : ℕ) → ◌≡◌ {A = ℕ} (get_or (replicate k 0) n 0) 0
no-counts zero n = refl
no-counts (suc k) zero = refl
no-counts (suc k) (suc n) = no-counts k n

pub counting-start : (f : List ℕ → Answer) (book : List ℕ) (sheets : List (List ℕ)) → sheets_of book ≡ some sheets → Counting f book (replicate 23 0) 0 0 0
counting-start f book sheets e =
    record {
      sheets = sheets;
      whole = e;
      rest = sheets;
      form = e;
      counted = λ n h. omega (arith, no-counts 23 n);
      reads = omega arith;
      passes = omega arith;
    }

-- the first sheet, and those after it
pub first_of : (x : List ℕ) (o : Option (List (List ℕ))) (rest : List (List ℕ)) → Option.map (λ (others : List (List ℕ)). x ∷ others) o ≡ some rest
    → (others : List (List ℕ)) × (o ≡ some others) × (rest ≡ x ∷ others)
first_of x none rest e = absurd (none-ne-some rest e)
first_of x (some others) rest e = (others, refl, sym (some-injective (x ∷ others) rest e))

within : {f : List ℕ → Answer} {book counts : List ℕ} {read passed at : ℕ} (c : Counting f book counts read passed at)
    → ((sheet : List ℕ) → (numbers_of (f sheet)).passed ≤ length sheet)
    → 2 * length c.sheets + passed_in (map f c.sheets) ≤ length book
within {f} {book} c small = rw ((book-round-trip book c.sheets).0 c.whole) (tally-bytes f small c.sheets)

module _ {f : List ℕ → Answer} {book counts : List ℕ} {read passed at : ℕ} (c : Counting f book counts read passed at) where
  -- the file is of the form, so a sheet is there
  pub counting-some : at < length book → Refuses sheet_in book at → ⊥
  counting-some h e =
      none-ne-some c.rest (sym (sheets-none (drop at book) (omega (arith, length-drop at book)) e) ∙ c.form)

  module _ {x : List ℕ} {next : ℕ} (r : ReadsTo sheet_in book at x next) where
    others : (others : List (List ℕ)) × (sheets_of (drop next book) ≡ some others) × (c.rest ≡ x ∷ others)
    others = first_of x (sheets_of (drop next book)) c.rest (sym (sheets-more (drop at book) x (drop next book) r.reads) ∙ c.form)

    read-rest : read + suc (length others.0) ≡ length c.sheets
    read-rest = rw others.2 at c.reads

    passed-rest : passed + ((numbers_of (f x)).passed + passed_in (map f others.0)) ≡ passed_in (map f c.sheets)
    unfolding passed_in sum
    passed-rest = rw others.2 at c.passes

    counted-rest : (n : ℕ) → n < 23
        → get_or counts n 0 + (cond (eqb (numbers_of (f x)).number n) 1 0 + count_of n (map f others.0)) ≡ count_of n (map f c.sheets)
    unfolding count_of
    counted-rest n h = rw others.2 at (c.counted n h)

    pub counting-step : (number p : ℕ)
        → number ≡ (numbers_of (f x)).number
        → p ≡ (numbers_of (f x)).passed
        → number < length counts
        → Counting f book (set counts number (get_or counts number 0 + 1)) (read + 1) (passed + p) next
    counting-step number p e g low =
        record {
          sheets = c.sheets;
          whole = c.whole;
          rest = others.0;
          form = others.1;
          counted = λ n h.
              by-test (eqb (numbers_of (f x)).number n)
              (λ same.
              let here : number ≡ n = e ∙ eqb-true _ n same in
              let all = rw same at (counted-rest n h) in
              let there : n < length counts = rw here at low in
              rw here (omega (arith, all, get_or-set_same counts n (get_or counts n 0 + 1) 0 there)))
              (λ differs.
              let all = rw differs at (counted-rest n h) in
              omega (arith, all, get_or-set_other counts number n (get_or counts number 0 + 1) 0 (λ q. eqb-false _ n differs (sym e ∙ sym q))));
          reads = omega (arith, read-rest);
          passes = omega (arith, passed-rest);
        }

    -- nothing is counted beyond the book's length
    module _ (small : (sheet : List ℕ) → (numbers_of (f sheet)).passed ≤ length sheet) where
      pub read_fits : read + 1 ≤ length book
      read_fits = omega (arith, read-rest, within c small)

      pub passed-fits : passed + (numbers_of (f x)).passed ≤ length book
      passed-fits = omega (arith, passed-rest, within c small)

      pub count_fits : (number : ℕ) → number ≡ (numbers_of (f x)).number → number < 23 → get_or counts number 0 + 1 ≤ length book
      count_fits number e low =
          let all = rw (eq-eqb (numbers_of (f x)).number number (sym e)) at (counted-rest number low) in
          omega (arith, all, counts-within number (map f c.sheets), length-map c.sheets f, within c small)

  -- after the last sheet
  module _ (end : length book ≤ at) where
    none_left : c.rest ≡ []
    none_left =
        let form : sheets_of [] ≡ some c.rest = rw (drop_of_length-le book end) at c.form in
        some-injective c.rest [] (sym form ∙ sheets-end)

    each : (n : ℕ) → n < 23 → get_or counts n 0 ≡ count_of n (map f c.sheets)
    unfolding count_of
    each n h = omega (arith, rw none_left at (c.counted n h))

    all_read : read ≡ length (map f c.sheets)
    all_read = omega (arith, rw none_left at c.reads, length-map c.sheets f)

    all-passed : passed ≡ passed_in (map f c.sheets)
    unfolding passed_in sum
    all-passed = omega (arith, rw none_left at c.passes)

    pub counting-end : numbers_in counts read passed ≡ tally_numbers (told (tally_of (map f c.sheets)))
    unfolding numbers_in numbers_with tally_figures tally_of defect_numbers
    counting-end =
        rw (
          ← all_read,
          ← all-passed,
          each 0 (omega arith),
          each 4 (omega arith),
          each 5 (omega arith),
          each 11 (omega arith),
          each 12 (omega arith),
          each 13 (omega arith),
          each 14 (omega arith),
          each 15 (omega arith),
          each 16 (omega arith),
          each 17 (omega arith),
          each 18 (omega arith),
          each 19 (omega arith),
          each 20 (omega arith),
          each 21 (omega arith),
          each 22 (omega arith),
        )

-- The numbers and the buffers. The schema's index stays.

pub record Tallying (setting : Setting) (label schema : List ℕ) (read : Optional Schema) (book path_before before path words counts : List ℕ) (sheets passed at : ℕ) : Type 0 where
  pub numbers : Counting (sheet_answer any setting label schema) book counts sheets passed at
  pub size : length counts ≡ 23
  pub place : at ≤ length book
  pub indexed : SchemaIs schema words read
  pub kept : KeptFrom path_bytes path_before path
  pub front : FrontOnly before words

pub tallying-start : {label schema : List ℕ} {read : Optional Schema} {book path words : List ℕ} (setting : Setting) → Ready label schema read book path words
    → Tallying setting label schema read book path words path words (replicate 23 0) 0 0 0
tallying-start {label} {schema} {read} {book} setting r =
    record {
      numbers = counting-start (sheet_answer any setting label schema) book r.sheets r.form;
      size = refl;
      place = omega arith;
      indexed = r.indexed;
      kept = record { size = refl; kept = refl };
      front = record { size = refl; kept = λ i h. refl };
    }

module _ {setting : Setting} {label schema : List ℕ} {read : Optional Schema} {book path_before before path words counts : List ℕ} {sheets passed at : ℕ}
    (t : Tallying setting label schema read book path_before before path words counts sheets passed at) where
  module _ (small : length label ≤ max_label_bytes) (room : path_bytes ≤ length path_before) {sheet x path' words' : List ℕ} {next : ℕ} {o : Outcome}
      (r : ReadsTo sheet_in book at x next) (e : sheet ≡ x) (k : SheetChecked Any setting label schema read sheet path path' words words' o) where
    told-one : Tells (sheet_answer any setting label schema x) path path' o
    unfolding takes_of
    told-one = rw e at (k.tells t.indexed small (omega (arith, t.kept.size)))

    number-told : o.number ≡ (numbers_of (sheet_answer any setting label schema x)).number
    number-told = ap (λ (n : Numbers). n.number) told-one.result

    passed-told : o.passed ≡ (numbers_of (sheet_answer any setting label schema x)).passed
    passed-told = ap (λ (n : Numbers). n.passed) told-one.result

    pub number-low : o.number < 23
    number-low = omega (arith, number-told, sheet-number any setting label schema x)

    pub step_counts : get_or counts o.number 0 + 1 ≤ length book
    step_counts = count_fits t.numbers r (sheet-passed any setting label schema) o.number number-told number-low

    pub step-passes : passed + o.passed ≤ length book
    step-passes = omega (arith, passed-told, passed-fits t.numbers r (sheet-passed any setting label schema))

    pub step-reads : sheets + 1 ≤ length book
    step-reads = read_fits t.numbers r (sheet-passed any setting label schema)

    pub tallying-step : Tallying setting label schema read book path_before before path' words' (set counts o.number (get_or counts o.number 0 + 1)) (sheets + 1) (passed + o.passed) next
    tallying-step =
        record {
          numbers = counting-step t.numbers r o.number o.passed number-told passed-told (omega (arith, number-low, t.size));
          size = length-set counts o.number (get_or counts o.number 0 + 1) ∙ t.size;
          place = r.within;
          indexed = still_read schema read k.kept t.indexed;
          kept = kept-both t.kept (rw told-one.path (sheet-path label path small (omega (arith, t.kept.size)) any setting schema x));
          front = front-both t.front (front-rule k.kept);
        }

  pub tallying-end : {r : List ℕ} → length book ≤ at → r ≡ numbers_in counts sheets passed → SheetsTallied setting label schema book path_before path before words r
  unfolding answers_in
  tallying-end end e =
      record {
        numbers = λ all form.
            let same = some-injective t.numbers.sheets all (sym t.numbers.whole ∙ form) in
            e ∙ counting-end t.numbers end ∙ ap (λ (l : List (List ℕ)). tally_numbers (told (tally_of (map (sheet_answer any setting label schema) l)))) same;
        kept = t.kept;
        front = t.front;
      }
