-- What `rulecheck_explain` answers, and what path buffer, mark list, message buffer and result hold after it (docs/FORMAT.md, "The C interface").
use Rattle.std.specs.Prelude.{ℕ, cond, List, [], ◌∷◌, ◌++◌, ◌≡◌, length}
use Rattle.std.proofs.lemmas.List.Edits.{sets}
use Rattle.buffer.specs.Bytes.{bytes_of, InFourBytes, field_at}
use Rattle.validation.specs.Result.{any, Call, Numbers, result_of, numbers_of, path_after}
use Rattle.validation.specs.Marking.{marks_by}
use Rattle.single_check.specs.Outcomes.{numbers_by}
use Rattle.message.specs.Explaining.{message_by, fits, ExplainedRun}
use Rattle.explained_check.specs.declared.Explained.{Explained}
use Rattle.entity_rules.specs.Entry.{fields_of, numbers_after, entry_call, entry_run}

-- ten numbers of four bytes
abbrev pub explain_bytes : ℕ
explain_bytes = 40

-- the seven numbers of a result, how many marks there are, 39 or 0, and the message's length
unfoldable pub explain_fields : Numbers → (count refusal size : ℕ) → List ℕ
explain_fields n count refusal size = fields_of n ++ (count ∷ refusal ∷ size ∷ [])

-- the call that is made, for a rule or a template
unfoldable pub explain_call : (kind semantics : ℕ) (label table schema rule : List ℕ) (path_length marks_length result_length : ℕ) → Call
explain_call kind semantics label table schema rule path_length marks_length result_length =
    entry_call any kind semantics label table schema rule explain_bytes path_length marks_length result_length

-- what it tells, by the message buffer that is lent
unfoldable pub explain_numbers : Call → (message_before : List ℕ) → List ℕ
explain_numbers c message_before =
    explain_fields (numbers_of (result_of c)) (length (marks_by c)) (cond (fits (message_by c) message_before) 0 39) (length (message_by c))

-- what is returned, and the four buffers
pub record ExplainAnswered (c : Call) (path_before path_now marks_before marks_now message_before message_now result_before result_now : List ℕ) (r : ℕ) : Type 0 where
  pub number : r ≡ (numbers_of (result_of c)).number
  pub path : path_now ≡ path_after (result_of c) path_before
  pub marks : marks_now ≡ sets marks_before 0 (bytes_of (marks_by c))
  pub message : message_now ≡ cond (fits (message_by c) message_before) (sets message_before 0 (message_by c)) message_before
  pub result : result_now ≡ numbers_after (explain_numbers c message_before) result_before
  pub small : InFourBytes (explain_numbers c message_before)

-- what a host hands over and what it has after the call, as a run; count, 39 or 0 and length are the numbers after the seventh
unfoldable pub explain_run : (kind semantics : ℕ) (label table schema rule path_before path_now marks_before marks_now message_before message_now result_now : List ℕ) → ExplainedRun
explain_run kind semantics label table schema rule path_before path_now marks_before marks_now message_before message_now result_now =
    record {
      marked =
          record {
            run = entry_run any kind semantics label table schema rule path_before (length marks_before) path_now result_now;
            marks_before = marks_before;
            marks = marks_now;
            count = field_at 7 result_now;
          };
      message_before = message_before;
      message = message_now;
      refusal = field_at 8 result_now;
      size = field_at 9 result_now;
    }

unfoldable pub fields_by : Explained → List ℕ
fields_by e = explain_fields (numbers_by e.report.outcome) e.report.marks e.refusal e.size

-- what writing them promises
pub record ExplainedWritten (e : Explained) (before after : List ℕ) : Type 0 where
  pub stands : after ≡ numbers_after (fields_by e) before
  pub small : InFourBytes (fields_by e)
