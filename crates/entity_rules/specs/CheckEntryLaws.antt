-- What a host may rely on where it checks with a mark list: the eight numbers are read back as they were written, and the demands hold of each call.
use Rattle.std.specs.Prelude.{ℕ, ◌≤◌, ◌<◌, List, [], ◌∷◌, ◌≡◌, get_or}
use Rattle.std.proofs.Common.{arith, ◌∙◌, le-leb}
use Rattle.std.proofs.Math.Path.{refl, ap, sym}
use Rattle.std.proofs.Math.ListN.{length}
use Rattle.std.proofs.Math.Seq.{sets}
use Rattle.buffer.specs.Bytes.{bytes_of, field_at}
use Rattle.buffer.specs.BytesLaws.{field-written}
use Rattle.validation.specs.Result.{any, Call, Numbers, result_of, numbers_of, path_after, call_of}
use Rattle.validation.specs.Marking.{marks_by, MeetsMarked}
use Rattle.entity_rules.specs.Entry.{fields_of, numbers_in, entry_run}
use Rattle.entity_rules.specs.EntryLaws.{entry-call, numbers-written}
use Rattle.entity_rules.specs.CheckEntry.{report_bytes, report_fields, report_after, check_call, CheckAnswered, check_run}

module _ {c : Call} {path_before path_now marks_before marks_now result_before result_now : List ℕ} {r : ℕ}
    (a : CheckAnswered c path_before path_now marks_before marks_now result_before result_now r) (room : report_bytes ≤ length result_before)
  where
    written : result_now ≡ sets result_before 0 (bytes_of (report_fields (numbers_of (result_of c)) (length (marks_by c))))
    unfolding report_after
    written = a.result ∙ rw (le-leb report_bytes (length result_before) room) refl

    -- so `rulecheck_field` gives the numbers of the answer, and the count at index 7
    pub field-of-check : (i : ℕ) → i < 8 → field_at i result_now ≡ get_or (report_fields (numbers_of (result_of c)) (length (marks_by c))) i 0
    unfolding report_fields fields_of
    field-of-check i less = rw written (field-written _ result_before (omega arith) i less a.small)

    pub numbers-of-check : numbers_in result_now ≡ numbers_of (result_of c)
    unfolding report_fields fields_of
    numbers-of-check = rw written (numbers-written (numbers_of (result_of c)) (length (marks_by c) ∷ []) result_before (omega arith) a.small)

    count-of-check : field_at 7 result_now ≡ length (marks_by c)
    unfolding report_fields fields_of
    count-of-check = field-of-check 7 (omega arith)

-- so the demands hold of it, and all that is promised of a mark list (crate `validation`, specs/Demands and specs/MarkingLaws)
module _ (kind semantics : ℕ) (label table schema rule path_before path_now marks_before marks_now result_before result_now : List ℕ) {r : ℕ}
    (a : CheckAnswered (check_call kind semantics label table schema rule (length path_before) (length marks_before) (length result_before)) path_before path_now marks_before marks_now result_before result_now r)
    (room : report_bytes ≤ length result_before)
  where
    same-call : check_call kind semantics label table schema rule (length path_before) (length marks_before) (length result_before)
        ≡ call_of (entry_run any kind semantics label table schema rule path_before (length marks_before) path_now result_now)
    unfolding check_call
    same-call = sym (entry-call any kind semantics label table schema rule report_bytes path_before (length marks_before) path_now result_before result_now room)

    pub check-meets : MeetsMarked (check_run kind semantics label table schema rule path_before path_now marks_before marks_now result_now)
    unfolding check_run entry_run
    check-meets =
        record {
          meets =
              record {
                result = numbers-of-check a room ∙ ap (λ (c : Call). numbers_of (result_of c)) same-call;
                path = a.path ∙ ap (λ (c : Call). path_after (result_of c) path_before) same-call;
                scratch = record { size = refl; kept = refl };
              };
          lent = refl;
          marks =
              record {
                counted = count-of-check a room ∙ ap (λ (c : Call). length (marks_by c)) same-call;
                written = a.marks ∙ ap (λ (c : Call). sets marks_before 0 (bytes_of (marks_by c))) same-call;
              };
        }

    -- and what is returned is the run's number
    pub check-returns : r ≡ (check_run kind semantics label table schema rule path_before path_now marks_before marks_now result_now).run.result.number
    unfolding check_run entry_run
    check-returns = a.number ∙ sym (ap (λ (n : Numbers). n.number) (numbers-of-check a room))
