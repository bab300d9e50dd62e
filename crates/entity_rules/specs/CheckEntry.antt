-- What `rulecheck_check` answers, and what path buffer, mark list and result hold after it (docs/FORMAT.md, "The C interface").
use Rattle.std.specs.Prelude.{ℕ, cond, List, [], ◌∷◌, ◌++◌, ◌≡◌, leb, length}
use Rattle.std.proofs.lemmas.List.Edits.{sets}
use Rattle.buffer.specs.Bytes.{bytes_of, InFourBytes, field_at}
use Rattle.validation.specs.Result.{any, Call, Numbers, result_of, numbers_of, path_after}
use Rattle.validation.specs.Marking.{marks_by, MarkedRun}
use Rattle.single_check.specs.declared.outcome.Report.{Report}
use Rattle.single_check.specs.Outcomes.{numbers_by}
use Rattle.entity_rules.specs.Entry.{fields_of, entry_call, entry_run}

-- eight numbers of four bytes
abbrev pub report_bytes : ℕ
report_bytes = 32

-- the seven numbers of a result, and how many marks there are
unfoldable pub report_fields : Numbers → (count : ℕ) → List ℕ
report_fields n count = fields_of n ++ (count ∷ [])

-- the result buffer after the call: the numbers lie at its start, and all other bytes keep their values
unfoldable pub report_after : Numbers → (count : ℕ) → List ℕ → List ℕ
report_after n count before = cond (leb report_bytes (length before)) (sets before 0 (bytes_of (report_fields n count))) before

-- the call that is made, for a rule or a template
unfoldable pub check_call : (kind semantics : ℕ) (label table schema rule : List ℕ) (path_length marks_length result_length : ℕ) → Call
check_call kind semantics label table schema rule path_length marks_length result_length =
    entry_call any kind semantics label table schema rule report_bytes path_length marks_length result_length

-- what is returned, and the three buffers
pub record CheckAnswered (c : Call) (path_before path_now marks_before marks_now result_before result_now : List ℕ) (r : ℕ) : Type 0 where
  pub number : r ≡ (numbers_of (result_of c)).number
  pub path : path_now ≡ path_after (result_of c) path_before
  pub marks : marks_now ≡ sets marks_before 0 (bytes_of (marks_by c))
  pub result : result_now ≡ report_after (numbers_of (result_of c)) (length (marks_by c)) result_before
  pub small : InFourBytes (report_fields (numbers_of (result_of c)) (length (marks_by c)))

-- what a host hands over and what it has after the call, as a run; the count is the result's eighth number
unfoldable pub check_run : (kind semantics : ℕ) (label table schema rule path_before path_now marks_before marks_now result_now : List ℕ) → MarkedRun
check_run kind semantics label table schema rule path_before path_now marks_before marks_now result_now =
    record {
      run = entry_run any kind semantics label table schema rule path_before (length marks_before) path_now result_now;
      marks_before = marks_before;
      marks = marks_now;
      count = field_at 7 result_now;
    }

-- what writing a report promises
pub record ReportWritten (r : Report) (before after : List ℕ) : Type 0 where
  pub stands : after ≡ report_after (numbers_by r.outcome) r.marks before
  pub small : InFourBytes (report_fields (numbers_by r.outcome) r.marks)
