-- What a host may rely on where a defect is explained to it: the ten numbers are read back as they were written, and the demands hold of each call.
use Rattle.std.specs.Prelude.{ℕ, ◌≤◌, ◌<◌, List, [], ◌∷◌, ◌≡◌, get_or}
use Rattle.std.proofs.Common.{arith, ◌∙◌, le-leb}
use Rattle.std.proofs.Math.Bool.{cond}
use Rattle.std.proofs.Math.Path.{refl, ap, sym}
use Rattle.std.proofs.Math.ListN.{length}
use Rattle.std.proofs.Math.Seq.{sets}
use Rattle.std.proofs.lemmas.Bool.{lt-leb}
use Rattle.buffer.specs.Bytes.{bytes_of, field_at}
use Rattle.buffer.specs.BytesLaws.{field-written}
use Rattle.validation.specs.Result.{any, Call, Numbers, result_of, numbers_of, path_after, call_of}
use Rattle.validation.specs.Marking.{marks_by}
use Rattle.message.specs.Explaining.{message_by, fits, MeetsExplained}
use Rattle.entity_rules.specs.Entry.{fields_of, numbers_after, numbers_in, entry_run}
use Rattle.entity_rules.specs.EntryLaws.{entry-call, numbers-written}
use Rattle.entity_rules.specs.ExplainEntry.{explain_bytes, explain_fields, explain_call, explain_numbers, ExplainAnswered, explain_run}
use Rattle.entity_rules.specs.Exchange.{Exchange, call_by, ExchangeAnswered}

module _ {c : Call} {path_before path_now marks_before marks_now message_before message_now result_before result_now : List ℕ} {r : ℕ}
    (a : ExplainAnswered c path_before path_now marks_before marks_now message_before message_now result_before result_now r) (room : explain_bytes ≤ length result_before)
  where
    written : result_now ≡ sets result_before 0 (bytes_of (explain_numbers c message_before))
    unfolding numbers_after explain_numbers explain_fields fields_of
    written = a.result ∙ rw (le-leb explain_bytes (length result_before) room) refl

    -- so `rulecheck_field` gives the numbers of the answer, then count, 39 or 0, and length
    pub field-of-explain : (i : ℕ) → i < 10 → field_at i result_now ≡ get_or (explain_numbers c message_before) i 0
    unfolding explain_numbers explain_fields fields_of
    field-of-explain i less = rw written (field-written _ result_before (omega arith) i less a.small)

    pub numbers-of-explain : numbers_in result_now ≡ numbers_of (result_of c)
    unfolding explain_numbers explain_fields fields_of
    numbers-of-explain =
        rw written
        (numbers-written (numbers_of (result_of c)) (length (marks_by c) ∷ cond (fits (message_by c) message_before) 0 39 ∷ length (message_by c) ∷ []) result_before (omega arith) a.small)

    count-of-explain : field_at 7 result_now ≡ length (marks_by c)
    unfolding explain_numbers explain_fields fields_of
    count-of-explain = field-of-explain 7 (omega arith)

    refusal-of-explain : field_at 8 result_now ≡ cond (fits (message_by c) message_before) 0 39
    unfolding explain_numbers explain_fields fields_of
    refusal-of-explain = field-of-explain 8 (omega arith)

    size-of-explain : field_at 9 result_now ≡ length (message_by c)
    unfolding explain_numbers explain_fields fields_of
    size-of-explain = field-of-explain 9 (omega arith)

module _ (kind semantics : ℕ) (label table schema rule path_before path_now marks_before marks_now message_before message_now result_before result_now : List ℕ) {r : ℕ}
    (a : ExplainAnswered (explain_call kind semantics label table schema rule (length path_before) (length marks_before) (length result_before)) path_before path_now marks_before marks_now message_before message_now result_before result_now r)
  where
    -- a call as a host sees it; so demands 1 to 3 hold of it (specs/EntryDemands), a result of any length included
    unfoldable pub explain_exchange : Exchange
    explain_exchange =
        record {
          takes = any;
          kind = kind;
          semantics = semantics;
          label = label;
          table = table;
          schema = schema;
          rule = rule;
          marks_lent = length marks_before;
          need = explain_bytes;
          path_before = path_before;
          result_before = result_before;
          path = path_now;
          result = result_now;
          returned = r;
        }

    pub explain-exchanged : ExchangeAnswered explain_exchange
    unfolding explain_exchange call_by explain_call numbers_after explain_numbers explain_fields fields_of
    explain-exchanged =
        record {
          number = a.number;
          path = a.path;
          numbers = λ room. numbers-of-explain a room;
          unwritten = λ short. a.result ∙ rw (lt-leb explain_bytes (length result_before) short) refl;
        }

    -- with room for its result it is a run that `MeetsExplained`
    module _ (room : explain_bytes ≤ length result_before) where
      same-call : explain_call kind semantics label table schema rule (length path_before) (length marks_before) (length result_before)
          ≡ call_of (entry_run any kind semantics label table schema rule path_before (length marks_before) path_now result_now)
      unfolding explain_call
      same-call = sym (entry-call any kind semantics label table schema rule explain_bytes path_before (length marks_before) path_now result_before result_now room)

      pub explain-meets : MeetsExplained (explain_run kind semantics label table schema rule path_before path_now marks_before marks_now message_before message_now result_now)
      unfolding explain_run entry_run
      explain-meets =
          record {
            meets =
                record {
                  meets =
                      record {
                        result = numbers-of-explain a room ∙ ap (λ (c : Call). numbers_of (result_of c)) same-call;
                        path = a.path ∙ ap (λ (c : Call). path_after (result_of c) path_before) same-call;
                        scratch = record { size = refl; kept = refl };
                      };
                  lent = refl;
                  marks =
                      record {
                        counted = count-of-explain a room ∙ ap (λ (c : Call). length (marks_by c)) same-call;
                        written = a.marks ∙ ap (λ (c : Call). sets marks_before 0 (bytes_of (marks_by c))) same-call;
                      };
                };
            message =
                record {
                  sized = size-of-explain a room ∙ ap (λ (c : Call). length (message_by c)) same-call;
                  refused = refusal-of-explain a room ∙ ap (λ (c : Call). cond (fits (message_by c) message_before) 0 39) same-call;
                  written = a.message ∙ ap (λ (c : Call). cond (fits (message_by c) message_before) (sets message_before 0 (message_by c)) message_before) same-call;
                };
          }

      -- and what is returned is the run's number
      pub explain-returns : r ≡ (explain_run kind semantics label table schema rule path_before path_now marks_before marks_now message_before message_now result_now).marked.run.result.number
      unfolding explain_run entry_run
      explain-returns = a.number ∙ sym (ap (λ (n : Numbers). n.number) (numbers-of-explain a room))
