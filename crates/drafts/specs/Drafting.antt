-- A call of the code as a run of the definitions.
use Rattle.std.specs.Prelude.{ℕ, List, [], ◌∷◌, length}
use Rattle.call.specs.Call.{Run}
use Rattle.single_check.specs.Settings.{widths_by}
use Rattle.drafts.specs.Lent.{Given, rules_lent}
use Rattle.drafts.specs.DraftCalls.{DraftCall, StepCall}

abbrev pub draft_of : (heads texts table buffer : List ℕ) (size : ℕ) (records path scratch : List ℕ) → DraftCall
draft_of heads texts table buffer size records path scratch =
    record {
      rules = rules_lent heads texts;
      table = table;
      buffer = buffer;
      size = size;
      records = records;
      lent = widths_by (length path) (length scratch);
    }

abbrev pub start_run_of : (heads texts table buffer : List ℕ) (size : ℕ) (records_before path_before scratch_before r records path scratch : List ℕ) → Run DraftCall
start_run_of heads texts table buffer size records_before path_before scratch_before r records path scratch =
    record {
      call = draft_of heads texts table buffer size records_before path_before scratch_before;
      result = r;
      buffers =
          record { before = records_before; after = records }
          ∷ record { before = path_before; after = path }
          ∷ record { before = scratch_before; after = scratch }
          ∷ [];
    }

abbrev pub step_run_of : (heads texts table : List ℕ) (given : Given) (buffer_before : List ℕ) (size : ℕ) (records_before path_before scratch_before r buffer records path scratch : List ℕ) → Run StepCall
step_run_of heads texts table given buffer_before size records_before path_before scratch_before r buffer records path scratch =
    record {
      call = record { draft = draft_of heads texts table buffer_before size records_before path_before scratch_before; given = given };
      result = r;
      buffers =
          record { before = records_before; after = records }
          ∷ record { before = buffer_before; after = buffer }
          ∷ record { before = path_before; after = path }
          ∷ record { before = scratch_before; after = scratch }
          ∷ [];
    }
