-- The whole call: each way to its end gives what the definitions say of the call.
use Rattle.std.specs.Prelude.{Option, Some, None, Ok, Err}
use Prim.Native.Nat.{ℕ, ◌≤◌, ◌<◌}
use native.Mathlib.Omega.{arith}
use mathlib.Core.List.{List, []}
use mathlib.Core.Option.{none, some}
use mathlib.Core.Path.{◌≡◌, refl, ap, sym, ◌∙◌}
use lib.ListN.{length}
use Rattle.definition.specs.Tree.{Rule}
use Rattle.definition.specs.Decode.{decode_rule}
use Rattle.reference.specs.Setting as Reference
use Rattle.reference.specs.Table.{table_in, setting_under, or_stock}
use Rattle.schema.specs.Read.{SchemaIs, SchemaAnswer}
use Rattle.rule.specs.Index.{RuleAt}
use Rattle.validation.specs.Result as Result
use Rattle.validation.specs.Result.{Call, Heard, refusal, scratch_words, mark_bytes, Numbers, of_table, of_settings, early, first_refusal, judged, numbers_of, path_after, result_of, call_of}
use Rattle.validation.proofs.RefusalLaws.{refusal-some, early-refused, settings-refused, settings-none, marks-refused, table-decides}
use Rattle.validation.proofs.DemandLaws.{heard, number-accepted}
use Rattle.validation.specs.Marking.{MeetsMarked}
use Rattle.validation.proofs.MarkingLaws.{accepted-rule, accepted-marks, unaccepted-marks}
use Rattle.buffer.specs.Bytes.{bytes_of}
use Rattle.constants.specs.Marks.{RuleMarked}
use Rattle.single_check.specs.Outcomes.{numbers_by}
use Rattle.single_check.specs.Settings.{setting_by, asked_by, widths_by, call_by, EarlyIs, SettledIs}
use Rattle.single_check.specs.Sheets.{takes_of, sheet_answer, RuleStands, SheetChecked}
use Rattle.single_check.specs.SheetLaws.{front-schema, front-rule, front-both, sheet-scratch, roomy, sheets-decide, single-told}
use Rattle.single_check.specs.Runs.{lent_run_of, marked_run_of, MeetsIndexed}
use Rattle.single_check.specs.declared.settings.Setting.{Setting as CodeSetting}
use Rattle.single_check.specs.declared.sheets.Takes.{Takes}
use Rattle.single_check.specs.declared.outcome.Outcome.{Outcome}
use Rattle.schema.specs.declared.read.Schema.{Schema}

not-due : {n : ℕ} (takes : Result.Takes) (kind semantics : ℕ) (label sheet : List ℕ) (path scratch : ℕ) → EarlyIs kind semantics label path scratch n → n ≡ 0
    → first_refusal (of_settings (asked_by takes kind semantics label sheet) (widths_by path scratch)) ≡ none
not-due takes kind semantics label sheet path scratch e z = settings-none _ _ (sym z ∙ e.first takes sheet)

pub words-enough : (kind semantics : ℕ) (label : List ℕ) (path scratch : ℕ) {n : ℕ} → EarlyIs kind semantics label path scratch n → n ≡ 0 → scratch_words ≤ scratch
words-enough kind semantics label path scratch e z = (roomy _ _ (not-due Result.any kind semantics label [] path scratch e z)).words

by_number : {o : Outcome} {n : Numbers} → numbers_by o ≡ n → o.number ≡ n.number
by_number e = ap (λ (n : Numbers). n.number) e

-- a refusal is no acceptance
refused-some : {n : ℕ} → Heard (Result.refused n) → n ≡ 0 → ⊥
refused-some (refusal {n} p) z = refusal-some n p z

-- a rule that was accepted was read, so its index stays
index-stands : (setting : Reference.Setting) (takes : Result.Takes) (label schema sheet middle after : List ℕ) (q : Option Schema)
    → SchemaIs schema middle q
    → RuleStands q sheet after
    → (numbers_of (sheet_answer takes setting label schema sheet)).number ≡ 0
    → (x : Rule)
    → decode_rule sheet ≡ some x
    → RuleAt sheet after x
unfolding sheet_answer judged numbers_of
index-stands setting takes label schema sheet middle after None is stands z =
    let four : ◌≡◌ {A = ℕ} 4 0 = rw is at z in
    absurd (omega arith)
index-stands setting takes label schema sheet middle after (Some s) is stands z = stands

module _ (takes : Takes) (kind semantics : ℕ) (label table schema sheet path_before : List ℕ) (marks : ℕ) (before : List ℕ) where
  abbrev call : Call
  call = call_by (takes_of takes) kind semantics label table schema sheet (length path_before) marks (length before)

  -- the run that ends so
  abbrev Ends : Outcome → (path after : List ℕ) → Type 0
  Ends r path after = MeetsIndexed (lent_run_of takes kind semantics label table schema sheet path_before marks before r path after)

  meets-refused : {n : ℕ} {r : Outcome} → result_of call ≡ Result.refused n → numbers_by r ≡ numbers_of (Result.refused n) → Ends r path_before before
  unfolding call_of path_after numbers_of
  meets-refused refused q =
      record {
        meets = record { result = rw refused q; path = rw refused; scratch = record { size = refl; kept = refl } };
        indexed = λ z. absurd (refused-some (rw refused at (heard call)) (sym (by_number q) ∙ z));
      }

  pub meets-early : {n : ℕ} {r : Outcome}
      → EarlyIs kind semantics label (length path_before) (length before) n
      → (n ≡ 0 → ⊥)
      → numbers_by r ≡ numbers_of (Result.refused n)
      → Ends r path_before before
  meets-early {n} e h q = meets-refused (settings-refused call n (e.first (takes_of takes) sheet) h) q

  module _ {n : ℕ} (e : EarlyIs kind semantics label (length path_before) (length before) n) (z : n ≡ 0) where
    settings-pass : first_refusal (of_settings call.asked call.lent.widths) ≡ none
    settings-pass = not-due (takes_of takes) kind semantics label sheet (length path_before) (length before) e z

    pub meets-marks : {r : Outcome} → marks < mark_bytes → numbers_by r ≡ numbers_of (Result.refused 35) → Ends r path_before before
    meets-marks short q = meets-refused (marks-refused call settings-pass short) q

    module _ (enough : mark_bytes ≤ marks) where
      by-table : first_refusal (early call) ≡ first_refusal (of_table table)
      by-table = table-decides call settings-pass enough

      pub meets-table : {m : ℕ} {r : Outcome} → SettledIs kind semantics table (Err m) → numbers_by r ≡ numbers_of (Result.refused m) → Ends r path_before before
      meets-table {m} t q = meets-refused (early-refused call m (by-table ∙ t)) q

      pub meets-sheets : (s : CodeSetting) {middle after path : List ℕ} {q : Option Schema} {r : Outcome}
          → SettledIs kind semantics table (Ok s)
          → SchemaAnswer schema before middle q
          → SheetChecked takes (setting_by s) label schema q sheet path_before path middle after r
          → Ends r path after
      unfolding call_of
      meets-sheets s {middle} {after} {path} {q} {r} t p c =
          let checked : SheetChecked takes (setting_under (or_stock (table_in table)) kind semantics) label schema q sheet path_before path middle after r = rw t.1 at c in
          let none-due = by-table ∙ t.0 in
          let told = single-told call none-due refl refl p.answer checked in
          let decided = sheets-decide call none-due in
          record {
            meets =
                record {
                  result = told.result;
                  path = told.path;
                  scratch =
                      rw decided
                      (sheet-scratch (takes_of takes) (setting_under (or_stock (table_in table)) kind semantics) label schema sheet (front-both (front-schema p.kept) (front-rule checked.kept)));
                };
            indexed = λ accepts.
                index-stands (setting_under (or_stock (table_in table)) kind semantics) (takes_of takes) label schema sheet middle after q p.answer checked.stands
                (sym (by_number (told.result ∙ ap numbers_of decided)) ∙ accepts);
          }

-- The call with a mark list.
module _ (takes : Takes) (kind semantics : ℕ) (label table schema sheet path_before marks_before before : List ℕ) {o : Outcome} {path after : List ℕ}
    (ends : MeetsIndexed (lent_run_of takes kind semantics label table schema sheet path_before (length marks_before) before o path after))
  where
    pub unmarked : (o.number ≡ 0 → ⊥)
        → MeetsMarked (marked_run_of takes kind semantics label table schema sheet path_before marks_before before (record { outcome = o; marks = 0 }) path marks_before after)
    unfolding bytes_of
    unmarked h =
        let none-there = unaccepted-marks _ (λ z. h (by_number ends.meets.result ∙ z)) in
        record { meets = ends.meets; lent = refl; marks = rw none-there (record { counted = refl; written = refl }) }

    pub marked : {marks : List ℕ} {count : ℕ}
        → o.number ≡ 0
        → RuleMarked sheet after marks_before marks count
        → MeetsMarked (marked_run_of takes kind semantics label table schema sheet path_before marks_before before (record { outcome = o; marks = count }) path marks after)
    unfolding call_of
    marked accepts written =
        let call = call_of (lent_run_of takes kind semantics label table schema sheet path_before (length marks_before) before o path after) in
        let (n, accepted) = number-accepted (heard call) (sym (by_number ends.meets.result) ∙ accepts) in
        let (x, decodes) = accepted-rule call n accepted in
        record {
          meets = ends.meets;
          lent = refl;
          marks = rw (accepted-marks call n x accepted decodes) (written.marks x (ends.indexed accepts x decodes));
        }
