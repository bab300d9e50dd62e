-- The pages, row by row and page by page: what is written and what is left to write make the whole.
use Rattle.std.specs.Prelude.{Option}
use Prim.Native.Nat.{ℕ, zero, suc, ◌+◌, ◌*◌, ◌-◌, ◌≤◌, ◌<◌}
use native.Mathlib.Omega.{arith}
use mathlib.Core.Bool.{cond}
use mathlib.Core.List.{List, [], ◌∷◌, ◌++◌, map, flatten, append_assoc, append-nil}
use mathlib.Core.Option.{none, some, none-ne-some, some-injective}
use mathlib.Core.Path.{◌≡◌, refl, sym, ap, ◌∙◌}
use lib.Dec.{eqb}
use lib.ListN.{length, take, drop, replicate, length-take}
use lib.Seq.{drop-drop}
use borrow.Author.Tests.{eq-eqb, ne_eqb}
use Rattle.text.specs.ReadAt.{ReadsTo, Refuses}
use Rattle.buffer.specs.Wrote.{Wrote}
use Rattle.buffer.specs.WroteLaws.{wrote_nothing, wrote_then, wrote_kept, sets-front}
use Rattle.reference.specs.Setting.{Setting}
use Rattle.schema.specs.Read.{SchemaAnswer}
use Rattle.validation.specs.Result.{any, Answer, refused, accepted, defect, path_bytes, Numbers, numbers_of, path_after, KeptFrom}
use Rattle.validation.proofs.KeptLaws.{kept-both}
use Rattle.single_check.specs.Answers.{Tells}
use Rattle.single_check.specs.Sheets.{takes_of, sheet_answer, SheetChecked}
use Rattle.single_check.specs.SheetLaws.{still_read, front-schema, front-rule, front-both}
use Rattle.single_check.specs.declared.sheets.Takes.TheVariants.{Any}
use Rattle.single_check.specs.declared.outcome.Outcome.{Outcome}
use Rattle.rule_book.specs.Book.{sheet_in, sheets_of}
use Rattle.rule_book.proofs.BookLaws.{sheets-end, sheets-more, sheets-none}
use Rattle.rule_book.specs.Tally.{count_of}
use Rattle.rule_book.proofs.TallyLaws.{counts-within}
use Rattle.rule_book.proofs.AnswerLaws.{sheet-short, sheet-path}
use Rattle.rule_book.proofs.TallySteps.{first_of}
use Rattle.rule_book.specs.Tallying.{answers_in, Ready}
use Rattle.wall.specs.Pages.{per_page, line, result_line, results, blank_line, heading, foot, page, pages_from}
use Rattle.wall.specs.Writing.{row_of, rows_from}
use Rattle.wall.specs.Printing.{Given, Advanced, RowPut, PagePut, PagesPut}
use Rattle.wall.specs.declared.page.Row.{Row}
use Rattle.wall.specs.declared.page.PageEnd.{PageEnd}
use Rattle.schema.specs.declared.read.Schema.{Schema}

-- What is written so far, of a whole of which that rest is left.

pub record Begun (before after : List ℕ) (at next : ℕ) (whole rest : List ℕ) : Type 0 where
  pub done : List ℕ
  pub wrote : Wrote before after at done next
  pub parts : whole ≡ done ++ rest

pub begun-start : (l : List ℕ) (at : ℕ) (whole : List ℕ) → Begun l l at at whole whole
begun-start l at whole = record { done = []; wrote = wrote_nothing l at; parts = refl }

pub begun_more : {before middle after : List ℕ} {at m next : ℕ} {whole : List ℕ} (x rest : List ℕ)
    → Begun before middle at m whole (x ++ rest)
    → Wrote middle after m x next
    → Begun before after at next whole rest
begun_more x rest b w =
    record {
      done = b.done ++ x;
      wrote = wrote_then b.wrote w;
      parts = b.parts ∙ sym (append_assoc b.done x rest);
    }

pub begun-end : {before after : List ℕ} {at next : ℕ} {whole : List ℕ} → Begun before after at next whole [] → Wrote before after at whole next
begun-end b = rw (b.parts, append-nil) b.wrote

-- The sheets of a book.

module _ {label schema : List ℕ} {read : Option Schema} {book : List ℕ} where
  pub advanced-start : {path words : List ℕ} {at : ℕ} → Ready label schema read (drop at book) path words
      → Advanced label schema read book path path words words at 0 at
  advanced-start r =
      record {
        ready = r;
        left = λ sheets e. e;
        kept = record { size = refl; kept = refl };
        front = record { size = refl; kept = λ i h. refl };
      }

  pub advanced-then : {path₀ path₁ path₂ words₀ words₁ words₂ : List ℕ} {from m middle n to : ℕ}
      → Advanced label schema read book path₀ path₁ words₀ words₁ from m middle
      → Advanced label schema read book path₁ path₂ words₁ words₂ middle n to
      → Advanced label schema read book path₀ path₂ words₀ words₂ from (m + n) to
  advanced-then {m = m} {n = n} a b =
      record {
        ready = b.ready;
        left = λ sheets e. b.left (drop m sheets) (a.left sheets e) ∙ ap (λ (l : List (List ℕ)). some l) (drop-drop n m sheets);
        kept = kept-both a.kept b.kept;
        front = front-both a.front b.front;
      }

answers-drop : (setting : Setting) (label schema : List ℕ) (n : ℕ) (sheets : List (List ℕ))
    → answers_in setting label schema (drop n sheets) ≡ drop n (answers_in setting label schema sheets)
unfolding answers_in
answers-drop setting label schema n sheets = map-drop n sheets
  where
    map-drop : (n : ℕ) (sheets : List (List ℕ))
        → map (sheet_answer any setting label schema) (drop n sheets) ≡ drop n (map (sheet_answer any setting label schema) sheets)
    map-drop zero sheets = refl
    map-drop (suc n) [] = refl
    map-drop (suc n) (s ∷ sheets) = map-drop n sheets

-- a file of the form that has no sheet at a place ends there
none_here : (s : List ℕ) (sheets : List (List ℕ)) → sheet_in s ≡ none → sheets_of s ≡ some sheets → sheets ≡ []
none_here [] sheets e form = some-injective sheets [] (sym form ∙ sheets-end)
none_here (b ∷ s) sheets e form = absurd (none-ne-some sheets (sym (sheets-none (b ∷ s) (omega arith) e) ∙ form))

-- One row.

pub one-accepted : (n : ℕ) → n ≡ 0 → ◌≡◌ {A = ℕ} 1 (cond (eqb n 0) 1 0)
one-accepted n e = rw (eq-eqb n 0 e)

pub none-accepted : (n : ℕ) → (n ≡ 0 → ⊥) → ◌≡◌ {A = ℕ} 0 (cond (eqb n 0) 1 0)
none-accepted n e = rw (ne_eqb n 0 e)

answer-line : (serial : ℕ) (a : Answer) (before : List ℕ) → (numbers_of a).path_length ≤ length before
    → line serial (numbers_of a).number (numbers_of a).family (numbers_of a).place (numbers_of a).passed (take (numbers_of a).path_length (path_after a before))
    ≡ result_line serial a
unfolding numbers_of path_after result_line
answer-line serial (refused n) before fits = refl
answer-line serial (accepted n) before fits = refl
answer-line serial (defect d) before fits =
    ap (line serial d.number d.family d.place d.passed) (sets-front d.path before fits)

-- what was told of a sheet makes its line
told_line : (serial : ℕ) (a : Answer) (before after : List ℕ) (o : Outcome) → Tells a before after o → (numbers_of a).path_length ≤ length before
    → line serial o.number o.family o.place o.passed (take o.path_length after) ≡ result_line serial a
told_line serial a before after o t fits =
    ap (λ (n : Numbers). line serial n.number n.family n.place n.passed (take n.path_length after)) t.result
    ∙ ap (λ (l : List ℕ). line serial (numbers_of a).number (numbers_of a).family (numbers_of a).place (numbers_of a).passed (take (numbers_of a).path_length l)) t.path
    ∙ answer-line serial a before fits

module _ {setting : Setting} {label schema : List ℕ} {read : Option Schema} {book : List ℕ} {at to : ℕ} {path words pages : List ℕ} (serial : ℕ)
    (ready : Ready label schema read (drop at book) path words) where
  -- after the last sheet
  pub row-blank : {after : List ℕ} {next : ℕ} → Refuses sheet_in book at → Wrote pages after to blank_line next
      → RowPut setting label schema read book at serial to path path words words pages after (record { sheet = at; line = next; accepted = 0 })
  unfolding row_of answers_in count_of
  row-blank gone w =
      record {
        advanced =
            record {
              ready = ready;
              left = λ sheets e. e ∙ ap (λ (l : List (List ℕ)). some l) (let z = none_here (drop at book) sheets gone e in rw z);
              kept = record { size = refl; kept = refl };
              front = record { size = refl; kept = λ i h. refl };
            };
        written = λ sheets e. let z = none_here (drop at book) sheets gone e in rw z w;
        counted = λ sheets e. let z = none_here (drop at book) sheets gone e in rw z;
      }

  module _ {sheet x path' words' pages' : List ℕ} {next behind one : ℕ} {o : Outcome}
      (r : ReadsTo sheet_in book at x next) (same : sheet ≡ x) (k : SheetChecked Any setting label schema read sheet path path' words words' o)
      (w : Wrote pages pages' to (line serial o.number o.family o.place o.passed (take o.path_length path')) behind)
      (c : one ≡ cond (eqb o.number 0) 1 0) where
    abbrev answer : Answer
    answer = sheet_answer any setting label schema x

    told : Tells answer path path' o
    unfolding takes_of
    told = rw same at (k.tells ready.indexed ready.small ready.room)

    kept : KeptFrom path_bytes path path'
    kept = rw told.path (sheet-path label path ready.small ready.room any setting schema x)

    there : (sheets : List (List ℕ)) → sheets_of (drop at book) ≡ some sheets
        → (others : List (List ℕ)) × (sheets_of (drop next book) ≡ some others) × (sheets ≡ x ∷ others)
    there sheets form = first_of x (sheets_of (drop next book)) sheets (sym (sheets-more (drop at book) x (drop next book) r.reads) ∙ form)

    pub row_line : RowPut setting label schema read book at serial to path path' words words' pages pages' (record { sheet = next; line = behind; accepted = one })
    unfolding row_of answers_in count_of
    row_line =
        record {
          advanced =
              record {
                ready =
                    record {
                      sheets = (there ready.sheets ready.form).0;
                      form = (there ready.sheets ready.form).1;
                      indexed = still_read schema read k.kept ready.indexed;
                      small = ready.small;
                      room = omega (arith, ready.room, kept.size);
                      enough = omega (arith, ready.enough, k.kept.len);
                    };
                left = λ sheets e. let (others, form, is) = there sheets e in form ∙ ap (λ (l : List (List ℕ)). some (drop 1 l)) (sym is);
                kept = kept;
                front = front-rule k.kept;
              };
          written = λ sheets e.
              let (others, form, is) = there sheets e in
              let short = sheet-short label ready.small any setting schema x in
              let text = told_line serial answer path path' o told (omega (arith, short, ready.room)) in
              rw is (rw text at w);
          counted = λ sheets e.
              let (others, form, is) = there sheets e in
              let number : o.number ≡ (numbers_of answer).number = ap (λ (n : Numbers). n.number) told.result in
              rw is (c ∙ ap (λ (n : ℕ). cond (eqb n 0) 1 0) number ∙ omega arith);
        }

-- A page by its rows.

rows-blank : (rows serial count : ℕ) → rows_from rows serial count [] ≡ replicate rows blank_line ++ (foot count ∷ [])
unfolding rows_from row_of count_of
rows-blank zero serial count = refl
rows-blank (suc rows) serial count =
    let same : count + 0 ≡ count = omega arith in
    rw same (ap (λ (l : List (List ℕ)). blank_line ∷ l) (rows-blank rows (serial + 1) count))

rows-page : (rows serial count : ℕ) (answers : List Answer)
    → rows_from rows serial count answers
    ≡ results serial (take rows answers) ++ (replicate (rows - length (take rows answers)) blank_line ++ (foot (count + count_of 0 (take rows answers)) ∷ []))
unfolding rows_from row_of results count_of
rows-page zero serial count answers = ap (λ (n : ℕ). foot n ∷ []) (omega arith)
rows-page (suc rows) serial count [] =
    let missing : suc rows - 0 ≡ suc rows = omega arith in
    let total : count + 0 ≡ count = omega arith in
    rw (missing, total) (ap (λ (l : List (List ℕ)). blank_line ∷ l) (rows-blank rows (serial + 1) count))
rows-page (suc rows) serial count (a ∷ others) =
    let one : ℕ = cond (eqb (numbers_of a).number 0) 1 0 in
    let missing : suc rows - suc (length (take rows others)) ≡ rows - length (take rows others) = omega arith in
    let total : count + (one + count_of 0 (take rows others)) ≡ count + (one + 0) + count_of 0 (take rows others) = omega arith in
    rw (missing, total) (ap (λ (l : List (List ℕ)). result_line serial a ∷ l) (rows-page rows (serial + 1) (count + (one + 0)) others))

page-rows : (before : ℕ) (answers : List Answer) → page before (take per_page answers) ≡ heading (before + 1) ∷ rows_from per_page (per_page * before + 1) 0 answers
unfolding page
page-rows before answers =
    let total : count_of 0 (take per_page answers) ≡ 0 + count_of 0 (take per_page answers) = omega arith in
    rw total (ap (λ (l : List (List ℕ)). heading (before + 1) ∷ l) (sym (rows-page per_page (per_page * before + 1) 0 answers)))

-- The rows of a page after its heading, one after the other.

pub record Paging (setting : Setting) (label schema : List ℕ) (read : Option Schema) (book : List ℕ) (from before line₀ : ℕ) (path₀ words₀ pages₀ path words pages : List ℕ) (sheet line accepted row : ℕ) : Type 0 where
  pub advanced : Advanced label schema read book path₀ path words₀ words from row sheet
  pub rows : row ≤ per_page
  pub few : accepted ≤ row
  pub size : length pages ≡ length pages₀
  pub begun : (sheets : List (List ℕ)) → sheets_of (drop from book) ≡ some sheets
      → Begun pages₀ pages line₀ line (flatten (rows_from per_page (per_page * before + 1) 0 (answers_in setting label schema sheets)))
      (flatten (rows_from (per_page - row) (per_page * before + 1 + row) accepted (drop row (answers_in setting label schema sheets))))

module _ {setting : Setting} {label schema : List ℕ} {read : Option Schema} {book : List ℕ} {from before line₀ : ℕ} {path₀ words₀ pages₀ : List ℕ} where
  pub paging-start : Ready label schema read (drop from book) path₀ words₀
      → Paging setting label schema read book from before line₀ path₀ words₀ pages₀ path₀ words₀ pages₀ from line₀ 0 0
  paging-start ready =
      record {
        advanced = advanced-start ready;
        rows = omega arith;
        few = omega arith;
        size = refl;
        begun = λ sheets e.
            let serial : per_page * before + 1 + 0 ≡ per_page * before + 1 = omega arith in
            rw serial (begun-start pages₀ line₀ _);
      }

  module _ {path words pages path' words' pages' : List ℕ} {sheet line accepted row serial : ℕ} {r : Row}
      (p : Paging setting label schema read book from before line₀ path₀ words₀ pages₀ path words pages sheet line accepted row)
      (put : RowPut setting label schema read book sheet serial line path path' words words' pages pages' r) where
    pub one_at_most : r.accepted ≤ 1
    one_at_most =
        let ready = p.advanced.ready in
        let answers = answers_in setting label schema ready.sheets in
        omega (arith, put.counted ready.sheets ready.form, counts-within 0 (take 1 answers), length-take 1 answers)

    pub paging-step : row < per_page → serial ≡ per_page * before + 1 + row
        → Paging setting label schema read book from before line₀ path₀ words₀ pages₀ path' words' pages' r.sheet r.line (accepted + r.accepted) (row + 1)
    unfolding flatten rows_from
    paging-step less is =
        record {
          advanced = advanced-then p.advanced put.advanced;
          rows = omega arith;
          few = omega (arith, p.few, one_at_most);
          size = wrote_kept (put.written p.advanced.ready.sheets p.advanced.ready.form) ∙ p.size;
          begun = λ sheets e.
              let answers = answers_in setting label schema sheets in
              let here = p.advanced.left sheets e in
              let same = answers-drop setting label schema row sheets in
              let wrote = rw (same, is) at (put.written (drop row sheets) here) in
              let counted = rw same at (put.counted (drop row sheets) here) in
              let left : per_page - row ≡ suc (per_page - (row + 1)) = omega arith in
              let next : per_page * before + 1 + (row + 1) ≡ per_page * before + 1 + row + 1 = omega arith in
              let begun = rw (left, drop-drop 1 row answers) at (p.begun sheets e) in
              rw (next, counted) (begun_more (row_of (per_page * before + 1 + row) (drop row answers)) _ begun wrote);
        }

  pub paging-end : {first path words pages after : List ℕ} {to sheet line count row next : ℕ}
      → Wrote first pages₀ to (heading (before + 1)) line₀
      → Paging setting label schema read book from before line₀ path₀ words₀ pages₀ path words pages sheet line count row
      → per_page ≤ row
      → Wrote pages after line (foot count) next
      → PagePut setting label schema read book from before to path₀ path words₀ words first after (record { sheet = sheet; line = next })
  unfolding flatten rows_from
  paging-end {count = count} {row = row} h p end w =
      let full : row ≡ per_page = omega (arith, p.rows) in
      record {
        advanced = rw full at p.advanced;
        written = λ sheets e.
            let begun = rw full at (p.begun sheets e) in
            let rows = begun-end (begun_more (foot count) [] begun w) in
            rw (page-rows before (answers_in setting label schema sheets)) (wrote_then h rows);
      }

-- The pages, one after the other.

pub given-ready : {label schema book path words middle : List ℕ} {read : Option Schema} → Given label book path words → SchemaAnswer schema words middle read
    → Ready label schema read book path middle
given-ready g a =
    record {
      sheets = g.sheets;
      form = g.form;
      indexed = a.answer;
      small = g.small;
      room = g.room;
      enough = omega (arith, g.enough, a.kept.size);
    }

flat_append : (xs ys : List (List ℕ)) → flatten (xs ++ ys) ≡ flatten xs ++ flatten ys
unfolding flatten
flat_append [] ys = refl
flat_append (x ∷ xs) ys = rw (flat_append xs ys, append_assoc)

pub record Printing (setting : Setting) (label schema : List ℕ) (read : Option Schema) (book : List ℕ) (count : ℕ) (path₀ words₀ pages₀ path words pages : List ℕ) (sheet line done : ℕ) : Type 0 where
  pub advanced : Advanced label schema read book path₀ path words₀ words 0 (per_page * done) sheet
  pub some_left : done ≤ count
  pub size : length pages ≡ length pages₀
  pub begun : (sheets : List (List ℕ)) → sheets_of book ≡ some sheets
      → Begun pages₀ pages 0 line (flatten (pages_from 0 count (answers_in setting label schema sheets)))
      (flatten (pages_from done (count - done) (drop (per_page * done) (answers_in setting label schema sheets))))

module _ {setting : Setting} {label schema : List ℕ} {read : Option Schema} {book : List ℕ} {count : ℕ} {path₀ words₀ pages₀ : List ℕ} where
  pub printing-start : Ready label schema read book path₀ words₀
      → Printing setting label schema read book count path₀ words₀ pages₀ path₀ words₀ pages₀ 0 0 0
  printing-start ready =
      record {
        advanced = advanced-start ready;
        some_left = omega arith;
        size = refl;
        begun = λ sheets e. let all : count - 0 ≡ count = omega arith in rw all (begun-start pages₀ 0 _);
      }

  pub printing-step : {path words pages path' words' pages' : List ℕ} {sheet line done : ℕ} {r : PageEnd}
      → Printing setting label schema read book count path₀ words₀ pages₀ path words pages sheet line done
      → done < count
      → PagePut setting label schema read book sheet done line path path' words words' pages pages' r
      → Printing setting label schema read book count path₀ words₀ pages₀ path' words' pages' r.sheet r.line (done + 1)
  unfolding pages_from
  printing-step {done = done} p less put =
      let places : per_page * (done + 1) ≡ per_page * done + per_page = omega arith in
      record {
        advanced = rw places (advanced-then p.advanced put.advanced);
        some_left = omega arith;
        size = wrote_kept (put.written p.advanced.ready.sheets p.advanced.ready.form) ∙ p.size;
        begun = λ sheets e.
            let answers = answers_in setting label schema sheets in
            let wrote = rw (answers-drop setting label schema (per_page * done) sheets) at (put.written (drop (per_page * done) sheets) (p.advanced.left sheets e)) in
            let left : count - done ≡ suc (count - (done + 1)) = omega arith in
            let begun = rw (left, flat_append, drop-drop per_page (per_page * done) answers) at (p.begun sheets e) in
            rw places (begun_more (flatten (page done (take per_page (drop (per_page * done) answers)))) _ begun wrote);
      }

  pub printing-end : {path words pages first : List ℕ} {sheet line done : ℕ}
      → SchemaAnswer schema first words₀ read
      → Printing setting label schema read book count path₀ words₀ pages₀ path words pages sheet line done
      → count ≤ done
      → PagesPut setting label schema book count path₀ path first words pages₀ pages
  unfolding flatten pages_from
  printing-end {done = done} a p end =
      record {
        written = λ sheets e.
            let none_left : count - done ≡ 0 = omega arith in
            let begun = rw none_left at (p.begun sheets e) in
            (begun-end begun).stands;
        kept = p.advanced.kept;
        front = front-both (front-schema a.kept) p.advanced.front;
      }
