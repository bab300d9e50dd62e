-- The calls: each way to an end of one gives what the definitions say of it.
use Prim.Native.Nat.{ℕ, zero, suc, ◌+◌, ◌*◌, ◌/◌, ◌≤◌, ◌<◌}
use native.Mathlib.Omega.{arith}
use mathlib.Core.Bool.{Bool, true, false, not, cond, ◌&&◌, ◌||◌, false≢true}
use mathlib.Core.List.{List, [], ◌∷◌, ◌++◌}
use mathlib.Core.Option.{Option, none, some, or_else}
use mathlib.Core.Path.{◌≡◌, refl, sym, ap, ap₂, ◌∙◌}
use lib.Dec.{leb, eqb}
use lib.ListN.{length, take, drop, replicate}
use lib.Seq.{sets, sets-eq}
use borrow.Author.Tests.{leb-true, eqb-false, not-true}
use Rattle.text.proofs.Bools.{and-true-0, and-true-1}
use Rattle.definition.specs.Limits.{max_sheet_bytes}
use Rattle.definition.specs.Tree.{Text, Schema}
use Rattle.definition.specs.Decode.{decode_schema, decode_rule}
use Rattle.definition.proofs.RoundTrip.{schema-round-trip}
use Rattle.call.specs.Call.{Refusal, first_refusal, number_in, refused_by, told, refused_or, heard_by, if_told, numbers_with}
use Rattle.validation.specs.Check.{is_none}
use Rattle.validation.specs.Result.{accepted, are_wide, path_bytes, scratch_words, early, of_settings, of_table, result_of, KeptFrom}
use Rattle.validation.proofs.RefusalLaws.{NoneDue, every, present, is_set, none-due, first-none, first-append, number-some, number-none, of-first}
use Rattle.single_check.specs.Sheets.{FrontOnly, sheet_answer}
use Rattle.single_check.specs.SheetLaws.{front-scratch, front-both, sheets-decide}
use Rattle.validation.specs.Result as Result
use Rattle.drafts.specs.Lent.{LentRule, rules_lent, is_any}
use Rattle.drafts.specs.DraftCalls.{DraftCall, sheet_in, schema_in, record_bytes, is_unset, is_mislabelled, is_malformed, has_room, early_refusals, of_rules, start_refusals, single, seven_of, record_of, record_for, all_records, mentions_in, stepped_records, Drafted, start_tells, draft_figures, start_answer, draft_numbers, MeetsStart}
use Rattle.drafts.specs.Drafting.{draft_of, start_run_of}
use Rattle.drafts.specs.Reading.{EarlyOf, mark_of, marks_of, record_in, marked_records, sheet_refusals, SheetsRead, SheetsChecked}
use Rattle.drafts.proofs.LentSteps.{lent-count}

-- Records.

or-false : (x y : Bool) → (x || y) ≡ false → (x ≡ false) × (y ≡ false)
or-false true y e = absurd (false≢true (sym e))
or-false false y e = (refl, e)

any-first : (p : LentRule → Bool) (r : LentRule) (rules : List LentRule) → is_any p (r ∷ rules) ≡ false → (p r ≡ false) × (is_any p rules ≡ false)
unfolding is_any
any-first p r rules e = or-false _ _ e

by-mark : (b : Bool) (old : List ℕ) {x y : List ℕ} → x ≡ y → cond (eqb (mark_of b) 0) old x ≡ cond b y old
unfolding mark_of
by-mark true old e = e
by-mark false old e = refl

module _ (c : DraftCall) (wide : are_wide c.lent ≡ true) (table : NoneDue (of_table c.table)) where
  record-in : (schema : List ℕ) (r : LentRule) → is_unset r ≡ false → is_mislabelled r ≡ false → record_in c.table schema r ≡ record_for c schema r
  unfolding record_in record_for record_of single early of_settings is_unset is_mislabelled
  record-in schema r set labelled =
      let due : not (are_wide c.lent) ≡ false = rw wide refl in
      let unrefused = first-none (early (single c schema r)) (set, (labelled, (due, (refl, (table.0, (table.1.0, tt)))))) in
      ap record_of (sym (sheets-decide (single c schema r) unrefused))

  -- where all are marked
  pub marked_all : (schema : List ℕ) (rules : List LentRule) (n : ℕ) (records : List ℕ)
      → length rules ≤ n
      → is_any is_unset rules ≡ false
      → is_any is_mislabelled rules ≡ false
      → marked_records c.table schema rules (replicate n 1) records ≡ all_records c schema rules
  unfolding marked_records all_records
  marked_all schema [] n records few set labelled = refl
  marked_all schema (r ∷ rules) zero records few set labelled = absurd (omega arith)
  marked_all schema (r ∷ rules) (suc n) records few set labelled =
      let (set₁, sets₁) = any-first is_unset r rules set in
      let (labelled₁, labels) = any-first is_mislabelled r rules labelled in
      ap₂ ◌++◌ (record-in schema r set₁ labelled₁) (marked_all schema rules n (drop record_bytes records) (omega arith) sets₁ labels)

  -- where those are that mention a field
  pub marked-stepped : (name schema : List ℕ) (rules : List LentRule) (rest records : List ℕ)
      → is_any is_unset rules ≡ false
      → is_any is_mislabelled rules ≡ false
      → marked_records c.table schema rules (marks_of name rules ++ rest) records ≡ stepped_records c name schema rules records
  unfolding marked_records stepped_records marks_of
  marked-stepped name schema [] rest records set labelled = refl
  marked-stepped name schema (r ∷ rules) rest records set labelled =
      let (set₁, sets₁) = any-first is_unset r rules set in
      let (labelled₁, labels) = any-first is_mislabelled r rules labelled in
      ap₂ ◌++◌ (by-mark (mentions_in name (decode_rule r.sheet)) (take record_bytes records) (record-in schema r set₁ labelled₁)) (marked-stepped name schema rules rest (drop record_bytes records) sets₁ labels)

-- What is refused early.

pub record PassedEarly (c : DraftCall) : Type 0 where
  pub unrefused : first_refusal (early_refusals c) ≡ none
  pub set : is_any is_unset c.rules ≡ false
  pub labelled : is_any is_mislabelled c.rules ≡ false
  pub few : length c.rules ≤ 16
  pub wide : are_wide c.lent ≡ true
  pub path : path_bytes ≤ c.lent.path
  pub words : scratch_words ≤ c.lent.scratch
  pub records : record_bytes * length c.rules ≤ length c.records
  pub buffer : max_sheet_bytes ≤ length c.buffer
  pub table : NoneDue (of_table c.table)

pub passed-early : (c : DraftCall) → 0 ≡ number_in (first_refusal (early_refusals c)) → PassedEarly c
unfolding early_refusals has_room every
passed-early c z =
    let unrefused = number-none (first_refusal (early_refusals c)) (λ n e. eqb-false n 0 (not-true (eqb n 0) (of-first (λ (m : ℕ). not (eqb m 0)) n (early_refusals c) refl e))) z in
    let (set, (labelled, (room, (few, (malformed, (unsound, done)))))) = none-due (early_refusals c) unrefused in
    let enough = is_set _ room in
    let records = leb (record_bytes * length c.rules) (length c.records) in
    let buffer = leb max_sheet_bytes (length c.buffer) in
    let wide = and-true-0 (are_wide c.lent) (records && buffer) enough in
    let others = and-true-1 (are_wide c.lent) (records && buffer) enough in
    record {
      unrefused = unrefused;
      set = set;
      labelled = labelled;
      few = leb-true (length c.rules) 16 (is_set _ few);
      wide = wide;
      path = leb-true _ _ (and-true-0 (leb path_bytes c.lent.path) (leb scratch_words c.lent.scratch) wide);
      words = leb-true _ _ (and-true-1 (leb path_bytes c.lent.path) (leb scratch_words c.lent.scratch) wide);
      records = leb-true _ _ (and-true-0 records buffer others);
      buffer = leb-true _ _ (and-true-1 records buffer others);
      table = (malformed, (unsound, tt));
    }

-- in front of others
pub heard-front : {A : Type 0} (rs ss : List Refusal) (d : A) (n : ℕ) → first_refusal rs ≡ some n → heard_by (rs ++ ss) d ≡ refused_by n
unfolding heard_by refused_or or_else
heard-front rs ss d n e = rw (first-append rs ss, e) refl

pub heard-behind : {A : Type 0} (rs ss : List Refusal) (d : A) → first_refusal rs ≡ none → heard_by (rs ++ ss) d ≡ heard_by ss d
unfolding heard_by or_else
heard-behind rs ss d e = rw (first-append rs ss, e) refl

pub same_kept : (n : ℕ) (l : List ℕ) → KeptFrom n l l
same_kept n l = record { size = refl; kept = refl }

pub front_kept : {before after : List ℕ} → FrontOnly before after → KeptFrom scratch_words before after
unfolding Result.kept_scratch
front_kept f = front-scratch (accepted 0) f refl

-- a sheet that is well formed is within its limit
pub sheet-short : (s : List ℕ) (t : Schema) → decode_schema s ≡ some t → length s ≤ max_sheet_bytes
sheet-short s t e = let (written, w) = (schema-round-trip s t).0 e in rw written w.bytes

pub schema-there : (schema : List ℕ) (rules : List LentRule) → 0 ≡ number_in (first_refusal (sheet_refusals schema rules)) → (t : Schema) × (decode_schema schema ≡ some t) × (is_any is_malformed rules ≡ false)
unfolding every
schema-there schema rules z =
    let unrefused = number-none (first_refusal (sheet_refusals schema rules)) (λ n e. eqb-false n 0 (not-true (eqb n 0) (of-first (λ (m : ℕ). not (eqb m 0)) n (sheet_refusals schema rules) refl e))) z in
    let (schema-due, (rules-due, done)) = none-due (sheet_refusals schema rules) unrefused in
    let (t, reads) = present (decode_schema schema) schema-due in
    (t, reads, rules-due)

-- The start.

module _ (heads texts table buffer : List ℕ) (size : ℕ) (records₀ path₀ before : List ℕ) where
  abbrev call : DraftCall
  call = draft_of heads texts table buffer size records₀ path₀ before

  abbrev Early : ℕ → Type 0
  Early n = EarlyOf heads texts table (length buffer) (length records₀) (length path₀) (length before) n

  pub start-early : {n : ℕ} {r : List ℕ} → Early n → (n ≡ 0 → ⊥) → r ≡ draft_numbers (refused_by n)
      → MeetsStart (start_run_of heads texts table buffer size records₀ path₀ before r records₀ path₀ before)
  unfolding start_refusals if_told
  start-early {n} e h q =
      let a : start_answer call ≡ refused_by n = heard-front (early_refusals call) _ _ n (number-some n _ (e.first call refl refl refl refl refl) h) in
      record { result = rw a q; buffers = rw a (refl, (same_kept path_bytes path₀, (same_kept scratch_words before, tt))) }

  module _ {n : ℕ} (e : Early n) (z : n ≡ 0) where
    pub passes : PassedEarly call
    passes = passed-early call (sym z ∙ e.first call refl refl refl refl refl)

    pub count-few : length heads / 16 ≤ 16
    count-few = omega (arith, passes.few, lent-count heads texts)

    pub records-room : 28 * (length heads / 16) ≤ length records₀
    records-room = omega (arith, passes.records, lent-count heads texts)

    module _ {sheet : List ℕ} (is : sheet ≡ take size buffer) {marks₀ marks middle : List ℕ} {m : ℕ} (s : SheetsRead [] (rules_lent heads texts) sheet marks₀ marks before middle m) where
      answer : start_answer call ≡ heard_by (sheet_refusals sheet (rules_lent heads texts)) (start_tells call)
      unfolding start_refusals schema_in sheet_in
      answer = heard-behind (early_refusals call) _ _ passes.unrefused ∙ rw is refl

      pub start-sheets : {r : List ℕ} → (m ≡ 0 → ⊥) → r ≡ draft_numbers (refused_by m)
          → MeetsStart (start_run_of heads texts table buffer size records₀ path₀ before r records₀ path₀ middle)
      unfolding if_told heard_by refused_or
      start-sheets {r} h q =
          let due = number-some m _ s.heard h in
          let a : start_answer call ≡ refused_by m = answer ∙ rw due refl in
          record { result = rw a q; buffers = rw a (refl, (same_kept path_bytes path₀, (front_kept s.front, tt))) }

      module _ (y : m ≡ 0) where
        pub sheet-small : length sheet ≤ max_sheet_bytes
        sheet-small = let (t, reads, formed) = schema-there sheet (rules_lent heads texts) (sym y ∙ s.heard) in sheet-short sheet t reads

        pub start-done : {records path after : List ℕ}
            → SheetsChecked (rules_lent heads texts) table sheet (replicate 16 1) records₀ records path₀ path middle after
            → MeetsStart (start_run_of heads texts table buffer size records₀ path₀ before (0 ∷ length sheet ∷ []) records path after)
        unfolding if_told heard_by refused_or first_refusal is_none start_tells sheet_in draft_figures numbers_with
        start-done {records} {path} {after} k =
            let (t, reads, formed) = schema-there sheet (rules_lent heads texts) (sym y ∙ s.heard) in
            let p = passes in
            let put = k.put (first-none (of_table table) p.table) p.path p.labelled in
            let all = marked_all call p.wide p.table sheet (rules_lent heads texts) 16 records₀ p.few p.set p.labelled in
            let a : start_answer call ≡ told (record { schema = sheet; records = all_records call sheet (rules_lent heads texts) }) = answer ∙ rw (reads, formed, is) refl in
            record {
              result = rw a refl;
              buffers = rw a (put.0 ∙ ap (sets records₀ 0) all, (put.1, (front_kept (front-both s.front k.front), tt)));
            }
