-- A refusal changes nothing that a host sees; what scratch and path buffer held never matters, nor how long they are, if they have room; and after any sequence of steps each
-- record is that of a check from the beginning.
use Rattle.std.specs.Prelude.{ℕ, ◌*◌, ◌≤◌, ◌||◌, ◌≡◌, length, take, drop}
use Rattle.std.proofs.Math.Bool.{cond}
use mathlib.Core.List.{List, [], ◌∷◌, ◌++◌}
use Rattle.std.proofs.Math.Option.{Option, none, some}
use Rattle.std.proofs.Math.Path.{refl, ap, ap₂}
use Rattle.std.proofs.Common.{sym, ◌∙◌}
use Rattle.std.proofs.lemmas.List.Edits.{sets}
use Rattle.definition.specs.Tree.{Schema}
use Rattle.definition.specs.Decode.{decode_rule}
use Rattle.definition.specs.Write.{write_schema}
use Rattle.validation.specs.Check.{is_none}
use Rattle.validation.specs.Result.{Refusal, Widths, are_wide, path_bytes, scratch_words, early, of_settings, of_sheets, refusals, result_of}
use Rattle.validation.proofs.RefusalLaws.{are-wide}
use Rattle.call.specs.Call.{refused_by, told, heard_by, if_told, is_written}
use Rattle.call.proofs.CallLaws.{numbers-size, if-told-written, same_answer}
use Rattle.single_check.specs.Settings.{widths_by}
use Rattle.field_changes.specs.Draft.{Change, name_of, changed}
use Rattle.drafts.specs.Lent.{LentRule, Given, change_of}
use Rattle.drafts.specs.DraftCalls.{DraftCall, StepCall, sheet_in, schema_in, record_bytes, has_room, early_refusals, of_rules, change_refusals, start_refusals, step_refusals, single, mentions_in, record_for, all_records, stepped_records, Drafted, start_tells, step_in, step_tells, draft_figures, start_shape, step_shape, start_answer, step_answer, draft_numbers, MeetsStart, MeetsStep, AllLeft}
use Rattle.drafts.specs.LeftLaws.{step_left}
use Rattle.drafts.specs.Drafting.{draft_of, start_run_of, step_run_of}

-- Under a refusal.

module _ (heads texts table buffer : List ℕ) (size : ℕ) (records_before path_before scratch_before : List ℕ) {r records path scratch : List ℕ} where
  pub start-unchanged : (n : ℕ)
      → MeetsStart (start_run_of heads texts table buffer size records_before path_before scratch_before r records path scratch)
      → start_answer (draft_of heads texts table buffer size records_before path_before scratch_before) ≡ refused_by n
      → records ≡ records_before
  unfolding if_told
  start-unchanged n m e = rw e at m.buffers.0

  pub step-unchanged : (given : Given) (buffer_now : List ℕ) (n : ℕ)
      → MeetsStep (step_run_of heads texts table given buffer size records_before path_before scratch_before r buffer_now records path scratch)
      → step_answer (record { draft = draft_of heads texts table buffer size records_before path_before scratch_before; given = given }) ≡ refused_by n
      → (records ≡ records_before) × (buffer_now ≡ buffer)
  unfolding if_told
  step-unchanged given buffer_now n m e = let left = rw e at m.buffers in (left.0, left.1.0)

-- The same call with other widths.

unfoldable pub lending : Widths → DraftCall → DraftCall
lending w c = record { rules = c.rules; table = c.table; buffer = c.buffer; size = c.size; records = c.records; lent = w }

module _ (c : DraftCall) (w : Widths) (room : are_wide w ≡ are_wide c.lent) where
  one_same : (schema : List ℕ) (r : LentRule) → record_for (lending w c) schema r ≡ record_for c schema r
  unfolding lending record_for single result_of refusals early of_settings of_sheets
  one_same schema r = rw room refl

  all_same : (schema : List ℕ) (rules : List LentRule) → all_records (lending w c) schema rules ≡ all_records c schema rules
  unfolding all_records
  all_same schema [] = refl
  all_same schema (r ∷ rules) = ap₂ ◌++◌ (one_same schema r) (all_same schema rules)

  stepped_same : (name schema : List ℕ) (rules : List LentRule) (records : List ℕ) → stepped_records (lending w c) name schema rules records ≡ stepped_records c name schema rules records
  unfolding stepped_records
  stepped_same name schema [] records = refl
  stepped_same name schema (r ∷ rules) records =
      ap₂ (λ (new others : List ℕ). cond (mentions_in name (decode_rule r.sheet)) new (take record_bytes records) ++ others) (one_same schema r)
      (stepped_same name schema rules (drop record_bytes records))

  early-same : early_refusals (lending w c) ≡ early_refusals c
  unfolding early_refusals has_room lending
  early-same = rw room refl

  pub lending-start : start_answer (lending w c) ≡ start_answer c
  unfolding start_refusals start_tells sheet_in schema_in lending
  lending-start =
      ap₂ (λ (rs : List Refusal) (records : List ℕ). heard_by {A = Drafted} (rs ++ (record { number = 4; is_due = is_none (schema_in c) } ∷ of_rules c ∷ [])) (record { schema = sheet_in c; records = records }))
      early-same (all_same (sheet_in c) c.rules)

  step_same : (change : Option Change) (t : Option Schema) → step_in (lending w c) change t ≡ step_in c change t
  unfolding step_in lending
  step_same none t = refl
  step_same (some change) none = refl
  step_same (some change) (some t) =
      ap (λ (records : List ℕ). record { schema = write_schema (changed change t); records = records }) (stepped_same (name_of change) (write_schema (changed change t)) c.rules c.records)

  pub lending-step : (given : Given) → step_answer (record { draft = lending w c; given = given }) ≡ step_answer (record { draft = c; given = given })
  unfolding step_refusals step_tells sheet_in schema_in lending
  lending-step given =
      ap₂ (λ (rs : List Refusal) (d : Drafted). heard_by (rs ++ (record { number = 4; is_due = is_none (change_of given) || is_none (schema_in c) } ∷ of_rules c ∷ change_refusals (change_of given) (schema_in c))) d)
      early-same (step_same (change_of given) (schema_in c))

-- What path buffer and scratch held never matters, nor how long they are, if both have room or neither has.

module _ (heads texts table buffer : List ℕ) (size : ℕ) (records : List ℕ) {path scratch r records_now path_now scratch_now path' scratch' r' records_now' path_now' scratch_now' : List ℕ} where
  pub start-any-buffers : MeetsStart (start_run_of heads texts table buffer size records path scratch r records_now path_now scratch_now)
      → MeetsStart (start_run_of heads texts table buffer size records path' scratch' r' records_now' path_now' scratch_now')
      → are_wide (widths_by (length path) (length scratch)) ≡ are_wide (widths_by (length path') (length scratch'))
      → (r ≡ r') × (records_now ≡ records_now')
  unfolding lending is_written
  start-any-buffers m m' room =
      let same = same_answer start_shape _ _ m m' (lending-start (draft_of heads texts table buffer size records path' scratch') _ room) in
      (same.result, same.buffers.0 (if-told-written _ (λ d. refl) _) refl)

  -- so 4,096 elements serve as well as more
  pub start-lean-buffers : MeetsStart (start_run_of heads texts table buffer size records path scratch r records_now path_now scratch_now)
      → MeetsStart (start_run_of heads texts table buffer size records path' scratch' r' records_now' path_now' scratch_now')
      → path_bytes ≤ length path → scratch_words ≤ length scratch → path_bytes ≤ length path' → scratch_words ≤ length scratch'
      → (r ≡ r') × (records_now ≡ records_now')
  start-lean-buffers m m' p s p' s' = start-any-buffers m m' (are-wide _ p s ∙ sym (are-wide _ p' s'))

  module _ {given : Given} {buffer_now buffer_now' : List ℕ}
      (m : MeetsStep (step_run_of heads texts table given buffer size records path scratch r buffer_now records_now path_now scratch_now))
      (m' : MeetsStep (step_run_of heads texts table given buffer size records path' scratch' r' buffer_now' records_now' path_now' scratch_now')) where
    pub step-any-buffers : are_wide (widths_by (length path) (length scratch)) ≡ are_wide (widths_by (length path') (length scratch'))
        → (r ≡ r') × (records_now ≡ records_now') × (buffer_now ≡ buffer_now')
    unfolding lending is_written
    step-any-buffers room =
        let same = same_answer step_shape _ _ m m' (lending-step (draft_of heads texts table buffer size records path' scratch') _ room given) in
        (same.result, same.buffers.0 (if-told-written _ (λ d. refl) _) refl, same.buffers.1.0 (if-told-written _ (λ d. refl) _) refl)

    pub step-lean-buffers : path_bytes ≤ length path → scratch_words ≤ length scratch → path_bytes ≤ length path' → scratch_words ≤ length scratch'
        → (r ≡ r') × (records_now ≡ records_now') × (buffer_now ≡ buffer_now')
    step-lean-buffers p s p' s' = step-any-buffers (are-wide _ p s ∙ sym (are-wide _ p' s'))

-- Any sequence of steps, each given the same rules and table, and the sheet and the records that the last one left.

pub data Steps : (before after : DraftCall) → Type 0 where
  no_step : {c : DraftCall} → Steps c c
  then : {c : DraftCall} (given : Given) (d : Drafted) (next : DraftCall) {last : DraftCall}
      → step_answer (record { draft = c; given = given }) ≡ told d
      → next.rules ≡ c.rules
      → next.table ≡ c.table
      → next.lent ≡ c.lent
      → sheet_in next ≡ d.schema
      → next.records ≡ sets c.records 0 d.records
      → Steps next last
      → Steps c last

-- the records do not see sheet buffer and records of the call
record-by : (c c' : DraftCall) (schema : List ℕ) (r : LentRule) → c.table ≡ c'.table → c.lent ≡ c'.lent → record_for c schema r ≡ record_for c' schema r
unfolding record_for single
record-by c c' schema r t w = rw (t, w) refl

all-records-by : (c c' : DraftCall) (schema : List ℕ) (rules : List LentRule) → c.table ≡ c'.table → c.lent ≡ c'.lent → all_records c schema rules ≡ all_records c' schema rules
unfolding all_records
all-records-by c c' schema [] t w = refl
all-records-by c c' schema (r ∷ rules) t w = ap₂ ◌++◌ (record-by c c' schema r t w) (all-records-by c c' schema rules t w)

pub steps-left : {c last : DraftCall} → Steps c last → AllLeft c (sheet_in c) c.records → AllLeft last (sheet_in last) last.records
steps-left no_step left = left
steps-left (then {c} given d next e rules table lent sheet records more) left =
    let done = (step_left (record { draft = c; given = given }) d e left).first in
    steps-left more
    (record {
      first =
          ap₂ (λ (rs : List LentRule) (l : List ℕ). take (record_bytes * length rs) l) rules records
          ∙ done
          ∙ ap₂ (λ (s : List ℕ) (rs : List LentRule). all_records c s rs) (sym sheet) (sym rules)
          ∙ all-records-by c next (sheet_in next) next.rules (sym table) (sym lent);
    })

-- The two numbers of a result.

pub start-size : (c : DraftCall) → length (draft_numbers (start_answer c)) ≡ 2
unfolding draft_figures
start-size c = numbers-size 1 draft_figures (start_answer c) (λ d e. refl)

pub step-size : (c : StepCall) → length (draft_numbers (step_answer c)) ≡ 2
unfolding draft_figures
step-size c = numbers-size 1 draft_figures (step_answer c) (λ d e. refl)
