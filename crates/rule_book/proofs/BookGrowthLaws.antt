-- Under a widened schema a tally accepts no fewer sheets and passes no fewer checks, and each sheet fares as demand 3 says.
use Rattle.std.specs.Prelude.{ℕ, suc, ◌+◌, ◌≤◌, Bool, ◌≡◌, length, get_or}
use native.Mathlib.Omega.{arith}
use Rattle.std.proofs.Math.Bool.{true, false, cond}
use mathlib.Core.List.{List, [], ◌∷◌}
use Rattle.std.proofs.Math.Option.{Option, none, some, some-injective}
use Rattle.std.proofs.Math.Path.{refl, sym}
use Rattle.std.proofs.Common.{ap, ◌∙◌}
use Rattle.std.proofs.Math.Dec.{eqb}
use borrow.Author.Tests.{eqb-true, eqb-false, eq-eqb, ne_eqb}
use Rattle.definition.specs.Tree.{Schema, Rule}
use Rattle.definition.specs.Decode.{decode_schema, decode_rule}
use Rattle.widening.specs.Widening.{Level, marks}
use Rattle.validation.specs.Check.{is_none, IsDefect}
use Rattle.validation.specs.Result.{any, Call, Defect, Answer, refused, accepted, defect, Heard, refusal, acceptance, finding, is_taken, early, of_sheets, first_refusal, Unrefused, refused_or, numbers_of, result_of, mark_bytes}
use Rattle.validation.proofs.RefusalLaws.{first-none, sheets-first}
use Rattle.validation.specs.Growth.{against_by, Widens, SameDefect}
use Rattle.validation.proofs.DemandLaws.{NotRefused, passed, heard, unrefused-answer, number-accepted, number-defect, passed-number, AnswersFare, results-fare}
use Rattle.call.specs.Call.{told}
use Rattle.rule_book.specs.Book.{sheets_of}
use Rattle.rule_book.specs.Tally.{BookCall, asked_of, single, answers_of, count_of, sum, passed_in, Tally, tally_of, book_answer}
use Rattle.rule_book.proofs.TallyLaws.{is-tallied, adds-up}
use Rattle.rule_book.specs.BookGrowth.{SameButBookSchema, SheetFares, BookFares}

-- Two answers that are verdicts.

not-5 : {a : Answer} → Heard a → NotRefused a → (numbers_of a).number ≡ 5 → ⊥
unfolding numbers_of
not-5 (refusal p) n e = n
not-5 acceptance n e = omega arith
not-5 (finding f) n e = omega (arith, f.low)

-- a verdict that is not acceptance is a defect
verdict-found : {a : Answer} → Heard a → NotRefused a → ((numbers_of a).number ≡ 0 → ⊥) → IsDefect (numbers_of a).number
unfolding numbers_of
verdict-found (refusal p) n other = absurd n
verdict-found acceptance n other = absurd (other refl)
verdict-found (finding f) n other = f

passes-as-many : {l : Level} {a' : Answer} (a : Answer) → NotRefused a → AnswersFare l a a' → passed a ≤ passed a'
passes-as-many (refused n) h f = absurd h
passes-as-many {a' = a'} (accepted n) h f = let same : passed a' ≡ n = ap passed (f.accepts n refl) in omega arith
passes-as-many (defect d) h f = f.passes d refl

both-accepted : {a a' : Answer} (k : ℕ) → a ≡ accepted k → a' ≡ accepted k → ((numbers_of a').number ≡ 0) × ((numbers_of a').passed ≡ (numbers_of a).passed)
unfolding numbers_of
both-accepted k e e' = rw (e, e') (refl, refl)

both_found : {a a' : Answer} (d d' : Defect) → a ≡ defect d → a' ≡ defect d' → d'.detail ≡ d.detail → (numbers_of a').detail ≡ (numbers_of a).detail
unfolding numbers_of
both_found d d' e e' same = rw (e, e') same

module _ {l : Level} {a a' : Answer} (h : Heard a) (h' : Heard a') (n : NotRefused a) (n' : NotRefused a') (f : AnswersFare l a a') where
  accepts : (numbers_of a).number ≡ 0 → ((numbers_of a').number ≡ 0) × ((numbers_of a').passed ≡ (numbers_of a).passed)
  accepts e = let (k, same) = number-accepted h e in both-accepted k same (f.accepts k same)

  passes : (numbers_of a).passed ≤ (numbers_of a').passed
  passes = rw (passed-number a, passed-number a') (passes-as-many a n f)

  as_many : (d : Defect) → a ≡ defect d → (numbers_of a').passed ≡ (numbers_of a).passed → passed a' ≡ d.passed
  as_many d same e = sym (passed-number a') ∙ e ∙ passed-number a ∙ ap passed same

  repeats : IsDefect (numbers_of a).number → (numbers_of a').passed ≡ (numbers_of a).passed → (d : Defect) × (d' : Defect) × (a ≡ defect d) × (a' ≡ defect d') × SameDefect d d'
  repeats found e =
      let (d, same) = number-defect h found in
      let (d', same', alike) = f.repeats d same (as_many d same e) in
      (d, d', same, same', alike)

  explains : l ≡ marks → IsDefect (numbers_of a).number → (numbers_of a').passed ≡ (numbers_of a).passed → (numbers_of a').detail ≡ (numbers_of a).detail
  explains m found e =
      let (d, d', same, same', alike) = repeats found e in
      let count : d'.passed ≡ d.passed = sym (ap passed same') ∙ as_many d same e in
      both_found d d' same same' (f.explains m d d' same same' count)

  brings : IsDefect (numbers_of a').number → IsDefect (numbers_of a).number
  brings there = by (eqb (numbers_of a).number 0) refl
    where
      by : (b : Bool) → eqb (numbers_of a).number 0 ≡ b → IsDefect (numbers_of a).number
      by true e = absurd (omega (arith, there.low, (accepts (eqb-true _ 0 e)).0))
      by false e = verdict-found h n (eqb-false _ 0 e)

  verdicts-fare : SheetFares l a a'
  verdicts-fare =
      record {
        accepts = accepts;
        passes = passes;
        repeats = repeats;
        explains = explains;
        refuses = (λ e. absurd (not-5 h n e), λ e. absurd (not-5 h' n' e));
        brings = brings;
      }

-- Two that are 5.

both-5 : {l : Level} {a a' : Answer} → a ≡ refused 5 → a' ≡ refused 5 → SheetFares l a a'
unfolding numbers_of
both-5 e e' =
    rw (e, e')
    (record {
      accepts = λ z. absurd (omega arith);
      passes = omega arith;
      repeats = λ d z. absurd (omega (arith, d.low));
      explains = λ m d z. refl;
      refuses = (λ z. refl, λ z. refl);
      brings = λ d. d;
    })

-- A sheet of the book: by its own check under either schema.

module _ (c : Call) (h : first_refusal (early c) ≡ none) (s : Schema) (e : decode_schema c.schema ≡ some s) where
  sheet-5 : decode_rule c.asked.rule ≡ none → result_of c ≡ refused 5
  unfolding result_of refused_or of_sheets first_refusal is_none is_taken
  sheet-5 none-there = rw (sheets-first c h, e, none-there)

  sheet-unrefused : (r : Rule) → decode_rule c.asked.rule ≡ some r → c.asked.takes ≡ any → Unrefused c
  unfolding of_sheets is_none is_taken
  sheet-unrefused r there takes = sheets-first c h ∙ first-none (of_sheets c) (rw e refl, (rw (takes, there) refl, tt))

module _ {l : Level} (c c' : BookCall) (s : SameButBookSchema c c') (w : Widens l c.schema c'.schema)
    (early-none : (sheet : List ℕ) → first_refusal (early (single c sheet)) ≡ none)
    (early-none' : (sheet : List ℕ) → first_refusal (early (single c' sheet)) ≡ none)
  where
    second_call : (sheet : List ℕ)
        → single c' sheet ≡ against_by any (single c sheet) c'.table c'.schema (record { widths = c'.lent; marks = mark_bytes })
    unfolding single asked_of against_by
    second_call sheet = λ i.
        record {
          asked = record { takes = any; kind = sym s.kind i; semantics = sym s.semantics i; label = sym s.label i; rule = sheet };
          table = c'.table;
          schema = c'.schema;
          lent = record { widths = c'.lent; marks = mark_bytes };
        }

    sheet-fares : (sheet : List ℕ) → SheetFares l (result_of (single c sheet)) (result_of (single c' sheet))
    unfolding single asked_of
    sheet-fares sheet = by (decode_rule sheet) refl
      where
        by : (o : Option Rule) → decode_rule sheet ≡ o → SheetFares l (result_of (single c sheet)) (result_of (single c' sheet))
        by none e =
            both-5 (sheet-5 (single c sheet) (early-none sheet) w.first w.decodes_first e)
            (sheet-5 (single c' sheet) (early-none' sheet) w.second w.decodes_second e)
        by (some r) e =
            let n = unrefused-answer (single c sheet) (sheet-unrefused (single c sheet) (early-none sheet) w.first w.decodes_first r e refl) in
            let n' = unrefused-answer (single c' sheet) (sheet-unrefused (single c' sheet) (early-none' sheet) w.second w.decodes_second r e refl) in
            let same = second_call sheet in
            let fares = results-fare any (single c sheet) c'.table c'.schema (record { widths = c'.lent; marks = mark_bytes }) s.table w n (rw same at n') in
            verdicts-fare (heard (single c sheet)) (heard (single c' sheet)) n n' (rw (← same) at fares)

    -- All of them.

    accepted-grows : (sheets : List (List ℕ)) → count_of 0 (answers_of c sheets) ≤ count_of 0 (answers_of c' sheets)
    unfolding answers_of count_of
    accepted-grows [] = omega arith
    accepted-grows (x ∷ others) =
        by (eqb (numbers_of (result_of (single c x))).number 0) refl (accepted-grows others)
      where
        by : (b : Bool) → eqb (numbers_of (result_of (single c x))).number 0 ≡ b → count_of 0 (answers_of c others) ≤ count_of 0 (answers_of c' others)
            → cond b 1 0 + count_of 0 (answers_of c others) ≤ cond (eqb (numbers_of (result_of (single c' x))).number 0) 1 0 + count_of 0 (answers_of c' others)
        by true e more =
            let zero-there = ((sheet-fares x).accepts (eqb-true _ 0 e)).0 in
            rw (eq-eqb _ 0 zero-there) (omega (arith, more))
        by false e more = omega (arith, more)

    refused-same : (sheets : List (List ℕ)) → count_of 5 (answers_of c' sheets) ≡ count_of 5 (answers_of c sheets)
    unfolding answers_of count_of
    refused-same [] = refl
    refused-same (x ∷ others) =
        by (eqb (numbers_of (result_of (single c x))).number 5) refl (refused-same others)
      where
        by : (b : Bool) → eqb (numbers_of (result_of (single c x))).number 5 ≡ b → count_of 5 (answers_of c' others) ≡ count_of 5 (answers_of c others)
            → cond (eqb (numbers_of (result_of (single c' x))).number 5) 1 0 + count_of 5 (answers_of c' others) ≡ cond b 1 0 + count_of 5 (answers_of c others)
        by true e more =
            let five-there = (sheet-fares x).refuses.0 (eqb-true _ 5 e) in
            rw (eq-eqb _ 5 five-there) (omega (arith, more))
        by false e more =
            let not_there : (numbers_of (result_of (single c' x))).number ≡ 5 → ⊥ = λ z. eqb-false _ 5 e ((sheet-fares x).refuses.1 z) in
            rw (ne_eqb _ 5 not_there) (omega (arith, more))

    passed-grows : (sheets : List (List ℕ)) → passed_in (answers_of c sheets) ≤ passed_in (answers_of c' sheets)
    unfolding answers_of passed_in sum
    passed-grows [] = omega arith
    passed-grows (x ∷ others) = omega (arith, (sheet-fares x).passes, passed-grows others)

-- none is refused by 4 where the schema is well formed
not-4 : {a : Answer} → Heard a → NotRefused a → (numbers_of a).number ≡ 4 → ⊥
unfolding numbers_of
not-4 (refusal p) n e = n
not-4 acceptance n e = omega arith
not-4 (finding f) n e = omega (arith, f.low)

none-by-4 : (c : BookCall) (s : Schema) → decode_schema c.schema ≡ some s → ((sheet : List ℕ) → first_refusal (early (single c sheet)) ≡ none)
    → (sheets : List (List ℕ))
    → count_of 4 (answers_of c sheets) ≡ 0
unfolding answers_of count_of single asked_of numbers_of
none-by-4 c s reads early-none [] = refl
none-by-4 c s reads early-none (x ∷ others) = by (decode_rule x) refl (none-by-4 c s reads early-none others)
  where
    by : (o : Option Rule) → decode_rule x ≡ o → count_of 4 (answers_of c others) ≡ 0 → count_of 4 (answers_of c (x ∷ others)) ≡ 0
    by none e more = rw (sheet-5 (single c x) (early-none x) s reads e) (omega (arith, more))
    by (some r) e more =
        let n = unrefused-answer (single c x) (sheet-unrefused (single c x) (early-none x) s reads r e refl) in
        rw (ne_eqb _ 4 (not-4 (heard (single c x)) n)) (omega (arith, more))

answers-count : (c : BookCall) (sheets : List (List ℕ)) → length (answers_of c sheets) ≡ length sheets
unfolding answers_of
answers-count c [] = refl
answers-count c (x ∷ others) = ap suc (answers-count c others)

-- neither call refused
pub book-demand-3 : {l : Level} (c c' : BookCall) (t t' : Tally)
    → SameButBookSchema c c'
    → Widens l c.schema c'.schema
    → book_answer c ≡ told t
    → book_answer c' ≡ told t'
    → BookFares l c c' t t'
unfolding tally_of
book-demand-3 {l} c c' t t' s w e e' =
    let is = is-tallied c t e in
    let is' = is-tallied c' t' e' in
    let form' : sheets_of c'.book ≡ some is.sheets = ap sheets_of (sym s.book) ∙ is.form in
    let same : is'.sheets ≡ is.sheets = some-injective _ _ (sym is'.form ∙ form') in
    let tally : t ≡ tally_of (answers_of c is.sheets) = is.tally in
    let tally' : t' ≡ tally_of (answers_of c' is.sheets) = is'.tally ∙ ap (λ (x : List (List ℕ)). tally_of (answers_of c' x)) same in
    let read : t'.read ≡ t.read = rw (tally, tally') (answers-count c' is.sheets ∙ sym (answers-count c is.sheets)) in
    let accepted : t.accepted ≤ t'.accepted = rw (tally, tally') (accepted-grows c c' s w is.unrefused is'.unrefused is.sheets) in
    let refused : t'.rule_refused ≡ t.rule_refused = rw (tally, tally') (refused-same c c' s w is.unrefused is'.unrefused is.sheets) in
    let none-by : t.schema_refused ≡ 0 = rw tally (none-by-4 c w.first w.decodes_first is.unrefused is.sheets) in
    let none-by' : t'.schema_refused ≡ 0 = rw tally' (none-by-4 c' w.second w.decodes_second is'.unrefused is.sheets) in
    record {
      sheets = is.sheets;
      form = is.form;
      form' = form';
      fares = λ k less. sheet-fares c c' s w is.unrefused is'.unrefused (get_or is.sheets k []);
      read = read;
      accepted = accepted;
      rule_refused = refused;
      schema_refused = (none-by, none-by');
      found = omega (arith, adds-up c t e, adds-up c' t' e', read, accepted, refused, none-by, none-by');
      passed = rw (tally, tally') (passed-grows c c' s w is.unrefused is'.unrefused is.sheets);
    }
