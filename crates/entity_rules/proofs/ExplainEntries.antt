-- The call with a message buffer as `rulecheck_explain` makes it.
use Prim.Native.Nat.{ℕ, ◌<◌, ◌-◌, ◌^◌, min}
use native.Mathlib.Omega.{arith}
use mathlib.Core.Bool.{cond}
use mathlib.Core.List.{List, ◌++◌}
use mathlib.Core.Path.{◌≡◌, refl, ap, sym, ◌∙◌}
use lib.Dec.{leb}
use lib.ListN.{length, take, drop, replicate}
use lib.Seq.{sets}
use borrow.Author.Tests.{leb-true, leb-false}
use Rattle.text.specs.CaseLaws.{by-test, zero-not-one}
use Rattle.definition.specs.Tree.{Text}
use Rattle.definition.specs.Decode.{decode_rule}
use Rattle.buffer.specs.Bytes.{bytes_of, InFourBytes, no_more, one_more}
use Rattle.validation.specs.Result.{any, Answer, refused, defect, Defect, Numbers, result_of, call_of, scratch_words}
use Rattle.validation.specs.Constant.{marks_heard}
use Rattle.validation.specs.Marking.{marks_by}
use Rattle.single_check.specs.Runs.{lent_run_of}
use Rattle.single_check.specs.Sheets.{takes_of}
use Rattle.single_check.specs.declared.sheets.Takes.TheVariants.{Any}
use Rattle.message.specs.Explaining.{message_by, fits, MeetsExplained}
use Rattle.explained_check.specs.ExplainedLaws.{same-message}
use Rattle.explained_check.specs.Runs.{explained_run_of}
use Rattle.explained_check.specs.declared.Explained.{Explained}
use Rattle.entity_rules.specs.Entry.{fields_of, numbers_after, path_lent, entry_call}
use Rattle.entity_rules.specs.EntryLaws.{large-kind-refused, large-semantics-refused}
use Rattle.entity_rules.specs.ExplainEntry.{explain_bytes, explain_fields, explain_call, explain_numbers, ExplainAnswered, fields_by, ExplainedWritten}
use Rattle.entity_rules.proofs.Entries.{made, comes}

no-defect : {n : ℕ} {d : Defect} → refused n ≡ defect d → ⊥
no-defect e = zero-not-one cc

module _ (kind semantics : ℕ) (label table schema rule : List ℕ) (path_length marks_length result_length : ℕ) (d : Defect)
    (is : result_of (explain_call kind semantics label table schema rule path_length marks_length result_length) ≡ defect d)
  where
    -- a defect has settings that are not cut down
    kind-whole : min kind 9 ≡ kind
    unfolding explain_call
    kind-whole =
        by-test (leb kind 8) (λ t. let low = leb-true kind 8 t in omega arith)
        (λ t. absurd (no-defect (sym (large-kind-refused any kind semantics label table schema rule explain_bytes path_length marks_length result_length (leb-false kind 8 t)) ∙ is)))

    semantics-whole : min semantics 9 ≡ semantics
    unfolding explain_call
    semantics-whole =
        by-test (leb semantics 4) (λ t. let low = leb-true semantics 4 t in omega arith)
        (λ t. absurd (no-defect (sym (large-semantics-refused any kind semantics label table schema rule explain_bytes path_length marks_length result_length (leb-false semantics 4 t)) ∙ is)))

pub explain-answered : (kind semantics : ℕ) (label table schema rule path marks message result : List ℕ) {k s lent : ℕ} (r : Explained) (last marks_now message_now scratch_now : List ℕ) {result_now : List ℕ}
    → k ≡ min kind 9
    → s ≡ min semantics 9
    → lent ≡ path_lent explain_bytes (length path) (length result)
    → MeetsExplained (explained_run_of Any k s label table schema rule (take (lent - 0) path) marks message (replicate scratch_words 0) r last marks_now message_now scratch_now)
    → ExplainedWritten r result result_now
    → ExplainAnswered (explain_call kind semantics label table schema rule (length path) (length marks) (length result)) path (last ++ drop (lent - 0) path) marks marks_now message message_now result result_now r.report.outcome.number
unfolding explain_call marks_by takes_of call_of entry_call explain_numbers fields_by
explain-answered kind semantics label table schema rule path marks message result {k} {s} {lent} r last marks_now message_now scratch_now ek es el m w =
    let c = comes Any kind semantics label table schema rule explain_bytes (length marks) path result r.report.outcome last scratch_now ek es el m.meets.meets in
    let call = explain_call kind semantics label table schema rule (length path) (length marks) (length result) in
    let run = call_of (lent_run_of Any k s label table schema rule (take (lent - 0) path) (length marks) (replicate scratch_words 0) r.report.outcome last scratch_now) in
    let same : result_of run ≡ result_of call = made Any kind semantics label table schema rule explain_bytes (length marks) path result k s lent r.report.outcome last scratch_now ek es el in
    let marks-same : marks_by run ≡ marks_by call = ap (λ (a : Answer). marks_heard a (decode_rule rule)) same in
    let said : message_by run ≡ message_by call =
    same-message run call same refl refl refl
    (λ d is. (
      ek ∙ kind-whole kind semantics label table schema rule (length path) (length marks) (length result) d (sym same ∙ is),
      es ∙ semantics-whole kind semantics label table schema rule (length path) (length marks) (length result) d (sym same ∙ is),
    ))
    in
    let count : r.report.marks ≡ length (marks_by call) = m.meets.marks.counted ∙ ap length marks-same in
    let refusal : r.refusal ≡ cond (fits (message_by call) message) 0 39 = m.message.refused ∙ ap (λ (t : Text). cond (fits t message) 0 39) said in
    let size : r.size ≡ length (message_by call) = m.message.sized ∙ ap length said in
    record {
      number = ap (λ (n : Numbers). n.number) c.same;
      path = c.home;
      marks = m.meets.marks.written ∙ ap (λ (ms : List ℕ). sets marks 0 (bytes_of ms)) marks-same;
      message = m.message.written ∙ ap (λ (t : Text). cond (fits t message) (sets message 0 t) message) said;
      result = w.stands ∙ (λ i. numbers_after (explain_fields (c.same i) (count i) (refusal i) (size i)) result);
      small = rw (c.same, count, refusal, size) at w.small;
    }

-- the code's numbers are of 32 bits
pub small-explained : (e : Explained) → e.report.outcome.number < 2 ^ 32 → e.report.outcome.family < 2 ^ 32 → e.report.outcome.detail < 2 ^ 32 → e.report.outcome.place < 2 ^ 32
    → e.report.outcome.over_place < 2 ^ 32 → e.report.outcome.passed < 2 ^ 32 → e.report.outcome.path_length < 2 ^ 32 → e.report.marks < 2 ^ 32 → e.refusal < 2 ^ 32 → e.size < 2 ^ 32
    → InFourBytes (fields_by e)
unfolding fields_by explain_fields fields_of
small-explained e number family detail place over passed size count refusal message =
    one_more number (one_more family (one_more detail (one_more place (one_more over (one_more passed (one_more size (one_more count (one_more refusal (one_more message no_more)))))))))
