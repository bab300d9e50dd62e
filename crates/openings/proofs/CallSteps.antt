-- The whole call: each way to its end gives what the definitions say of it.
use Rattle.std.specs.Prelude.{Ok, Err}
use Prim.Native.Nat.{ℕ, ◌≤◌, ◌<◌}
use mathlib.Core.Bool.{false, not}
use mathlib.Core.List.{List, []}
use mathlib.Core.Option.{Option, none, some}
use mathlib.Core.Path.{◌≡◌, refl, sym, ap, ◌∙◌}
use lib.ListN.{length}
use borrow.Author.Tests.{not-true}
use Rattle.definition.specs.Tree.{Schema, Rule}
use Rattle.definition.specs.Decode.{decode_schema, decode_rule}
use Rattle.reference.specs.Setting.{Setting}
use Rattle.call.specs.Call.{refused_by, free, if_told}
use Rattle.validation.specs.Result.{any, Asked, Widths, accepted, scratch_words, is_of_sheets, of_settings, of_table, first_refusal, kept_scratch}
use Rattle.validation.proofs.RefusalLaws.{number-some, every, of-first, settings-none}
use Rattle.single_check.specs.Settings.{setting_by, asked_by, widths_by, EarlyIs, SettledIs}
use Rattle.single_check.specs.SheetLaws.{Roomy, roomy, front-scratch}
use Rattle.single_check.specs.declared.settings.Setting.{Setting as CodeSetting}
use Rattle.openings.specs.Call.{OpenCall, check_of, list_bytes, scratch_left, open_answer, open_numbers, MeetsOpen}
use Rattle.openings.proofs.CallLaws.{setting_refusal, settings-first, list-refused, table-refused, sheets-decide}
use Rattle.openings.specs.Runs.{searched, SheetsOpened, open_run_of}

-- the scratch is free wherever the sheets were looked at
free-scratch : (setting : Setting) (t : Option Schema) (x : Option Rule) → scratch_left (searched setting t x) ≡ free scratch_words
unfolding searched scratch_left is_of_sheets
free-scratch setting none x = refl
free-scratch setting (some t) none = refl
free-scratch setting (some t) (some x) = refl

-- no refusal of the settings or of the table is one of the sheets
of-settings : (a : Asked) (w : Widths) (n : ℕ) → first_refusal (of_settings a w) ≡ some n → is_of_sheets n ≡ false
unfolding of_settings is_of_sheets every
of-settings a w n e = not-true (is_of_sheets n) (of-first (λ (m : ℕ). not (is_of_sheets m)) n (of_settings a w) refl e)

of-table : (table : List ℕ) (n : ℕ) → first_refusal (of_table table) ≡ some n → is_of_sheets n ≡ false
unfolding is_of_sheets every
of-table table n e = not-true (is_of_sheets n) (of-first (λ (m : ℕ). not (is_of_sheets m)) n (of_table table) refl e)

module _ (kind semantics : ℕ) (table schema rule path_before list_before before : List ℕ) where
  abbrev call : OpenCall
  call =
      record {
        kind = kind;
        semantics = semantics;
        table = table;
        schema = schema;
        rule = rule;
        widths = widths_by (length path_before) (length before);
        list = length list_before;
      }

  -- a refusal before the sheets are read
  meets-early : {n : ℕ} {r : List ℕ} → open_answer call ≡ refused_by n → is_of_sheets n ≡ false → r ≡ open_numbers (refused_by n)
      → MeetsOpen (open_run_of kind semantics table schema rule path_before list_before before r path_before list_before before)
  unfolding if_told scratch_left
  meets-early a early e = record { result = rw a e; buffers = rw (a, early) (refl, (refl, (refl, tt))) }

  -- settings and widths
  pub meets-settings : {n : ℕ} {r : List ℕ} → EarlyIs kind semantics [] (length path_before) (length before) n → (n ≡ 0 → ⊥)
      → r ≡ open_numbers (refused_by n)
      → MeetsOpen (open_run_of kind semantics table schema rule path_before list_before before r path_before list_before before)
  unfolding check_of
  meets-settings {n} e h q =
      let due = number-some n _ (e.first any rule) h in
      meets-early (settings-first call n due) (of-settings (asked_by any kind semantics [] rule) (widths_by (length path_before) (length before)) n due) q

  module _ {n : ℕ} (e : EarlyIs kind semantics [] (length path_before) (length before) n) (z : n ≡ 0) where
    settings-pass : setting_refusal call ≡ none
    unfolding check_of
    settings-pass = settings-none _ _ (sym z ∙ e.first any rule)

    pub room : Roomy (asked_by any kind semantics [] rule) (widths_by (length path_before) (length before))
    room = roomy _ _ (settings-none _ _ (sym z ∙ e.first any rule))

    pub meets-list : {r : List ℕ} → length list_before < list_bytes → r ≡ open_numbers (refused_by 36)
        → MeetsOpen (open_run_of kind semantics table schema rule path_before list_before before r path_before list_before before)
    unfolding is_of_sheets
    meets-list short q = meets-early (list-refused call settings-pass short) refl q

    module _ (long : list_bytes ≤ length list_before) where
      pub meets-table : {m : ℕ} {r : List ℕ} → SettledIs kind semantics table (Err m) → r ≡ open_numbers (refused_by m)
          → MeetsOpen (open_run_of kind semantics table schema rule path_before list_before before r path_before list_before before)
      meets-table {m} t q = meets-early (table-refused call settings-pass long m t) (of-table table m t) q

      pub meets-sheets : (s : CodeSetting) → SettledIs kind semantics table (Ok s)
          → {path list after r : List ℕ}
          → SheetsOpened (setting_by s) schema rule path_before path list_before list before after r
          → MeetsOpen (open_run_of kind semantics table schema rule path_before list_before before r path list after)
      unfolding check_of kept_scratch
      meets-sheets s t {path} {list} {after} {r} o =
          let answer : open_answer call ≡ searched (setting_by s) (decode_schema schema) (decode_rule rule) =
          sheets-decide call settings-pass long t.0 ∙ ap (λ (setting : Setting). searched setting (decode_schema schema) (decode_rule rule)) (sym t.1) in
          record {
            result = rw answer o.answers.result;
            buffers =
                rw (answer, free-scratch (setting_by s) (decode_schema schema) (decode_rule rule))
                (o.kept, (o.answers.written, (front-scratch (accepted 0) o.front refl, tt)));
          }
