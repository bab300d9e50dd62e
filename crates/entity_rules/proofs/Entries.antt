-- The whole call as a C function makes it.
use Prim.Native.Nat.{ℕ, ◌<◌, ◌≤◌, ◌-◌, min}
use native.Mathlib.Omega.{arith}
use mathlib.Core.List.{List, [], ◌++◌, append-nil}
use mathlib.Core.Path.{◌≡◌, ap, ◌∙◌}
use lib.Dec.{leb}
use lib.ListN.{length, take, drop, length-take, replicate, length-replicate}
use lib.Seq.{sets, take-length, drop-length}
use borrow.Author.Tests.{le-leb, lt-leb, leb-true, leb-false}
use Rattle.text.specs.CaseLaws.{by-test}
use Rattle.definition.specs.Decode.{decode_rule}
use Rattle.buffer.specs.Bytes.{bytes_of}
use Rattle.validation.specs.Result.{Answer, Numbers, result_of, numbers_of, path_after, call_of, Meets, scratch_words, mark_bytes}
use Rattle.validation.proofs.RefusalLaws.{capped, capped_same}
use Rattle.validation.specs.Constant.{marks_heard}
use Rattle.validation.specs.Marking.{marks_by, MeetsMarked}
use Rattle.single_check.specs.Runs.{lent_run_of, run_of, marked_run_of}
use Rattle.single_check.specs.Sheets.{takes_of}
use Rattle.single_check.specs.Outcomes.{numbers_by}
use Rattle.single_check.specs.declared.sheets.Takes.{Takes}
use Rattle.single_check.specs.declared.sheets.Takes.TheVariants.{Any}
use Rattle.single_check.specs.declared.outcome.Outcome.{Outcome}
use Rattle.single_check.specs.declared.outcome.Report.{Report}
use Rattle.entity_rules.specs.Entry.{result_bytes, path_lent, result_after, entry_call, entry_answer, EntryAnswered, Written}
use Rattle.entity_rules.specs.EntryLaws.{short-result-refused}
use Rattle.entity_rules.specs.CheckEntry.{report_bytes, report_after, check_call, CheckAnswered, ReportWritten}

pub lent-nothing : (need path result : ℕ) → result < need → 0 ≡ path_lent need path result
unfolding path_lent
lent-nothing need path result short = rw (lt-leb need result short)

pub lent-all : (need path result : ℕ) → need ≤ result → path ≡ path_lent need path result
unfolding path_lent
lent-all need path result room = rw (le-leb need result room)

pub lent-within : (need path result : ℕ) → path_lent need path result ≤ path
lent-within need path result =
    by-test (leb need result) (λ e. omega (arith, lent-all need path result (leb-true need result e)))
    (λ e. omega (arith, lent-nothing need path result (leb-false need result e)))

module _ (takes : Takes) (kind semantics : ℕ) (label table schema rule : List ℕ) (need marks : ℕ) (path result : List ℕ) where
  abbrev answer : Answer
  answer = result_of (entry_call (takes_of takes) kind semantics label table schema rule need (length path) marks (length result))

  -- what is too large for a setting may be cut down to 9
  cut_down : result_of (entry_call (takes_of takes) (min kind 9) (min semantics 9) label table schema rule need (length path) marks (length result)) ≡ answer
  unfolding entry_call capped
  cut_down = capped_same 9 (entry_call (takes_of takes) kind semantics label table schema rule need (length path) marks (length result)) (omega arith)

  -- a call with capped settings, a part of the path buffer and a fresh scratch is the entry's call
  pub made : (k s lent : ℕ) (r : Outcome) (last scratch_now : List ℕ)
      → k ≡ min kind 9
      → s ≡ min semantics 9
      → lent ≡ path_lent need (length path) (length result)
      → result_of (call_of (lent_run_of takes k s label table schema rule (take (lent - 0) path) marks (replicate scratch_words 0) r last scratch_now)) ≡ answer
  unfolding call_of entry_call
  made k s lent r last scratch_now ek es el =
      let part : length (take (lent - 0) path) ≡ lent =
      simp length-take (omega (arith, lent-within need (length path) (length result)))
      in
      rw (length-replicate {A = ℕ} scratch_words 0, part, ek, es, el) cut_down

  -- the part of the path buffer that was lent is given back
  path-home : (lent : ℕ) (last : List ℕ)
      → lent ≡ path_lent need (length path) (length result)
      → last ≡ path_after answer (take (lent - 0) path)
      → last ++ drop (lent - 0) path ≡ path_after answer path
  unfolding path_after
  path-home lent last l w =
      by-test (leb need (length result))
      (λ t.
      let all = lent-all need (length path) (length result) (leb-true need (length result) t) in
      let whole : lent - 0 ≡ length path = omega arith in
      rw (w, whole, take-length path, drop-length path, append-nil))
      (λ t.
      let short = leb-false need (length result) t in
      let none = lent-nothing need (length path) (length result) short in
      let nothing : lent - 0 ≡ 0 = omega arith in
      rw (w, nothing, short-result-refused (takes_of takes) kind semantics label table schema rule need (length path) marks (length result) short))

  -- numbers and path of the run are those of the entry's call
  pub record Comes (r : Outcome) (lent : ℕ) (last : List ℕ) : Type 0 where
    pub same : numbers_by r ≡ numbers_of answer
    pub home : last ++ drop (lent - 0) path ≡ path_after answer path

  pub comes : {k s lent : ℕ} (r : Outcome) (last scratch_now : List ℕ)
      → k ≡ min kind 9
      → s ≡ min semantics 9
      → lent ≡ path_lent need (length path) (length result)
      → Meets (lent_run_of takes k s label table schema rule (take (lent - 0) path) marks (replicate scratch_words 0) r last scratch_now)
      → Comes r lent last
  comes {k} {s} {lent} r last scratch_now ek es el m =
      let same = made k s lent r last scratch_now ek es el in
      record {
        same = m.result ∙ ap numbers_of same;
        home = path-home lent last el (m.path ∙ ap (λ (a : Answer). path_after a (take (lent - 0) path)) same);
      }

pub answered : (takes : Takes) (kind semantics : ℕ) (label schema rule path result : List ℕ) {k s lent : ℕ} (r : Outcome) (last scratch_now : List ℕ) {result_now : List ℕ}
    → k ≡ min kind 9
    → s ≡ min semantics 9
    → lent ≡ path_lent result_bytes (length path) (length result)
    → Meets (run_of takes k s label [] schema rule (take (lent - 0) path) (replicate scratch_words 0) r last scratch_now)
    → Written r result result_now
    → EntryAnswered (entry_answer (takes_of takes) kind semantics label schema rule (length path) (length result)) path (last ++ drop (lent - 0) path) result result_now r.number
unfolding entry_answer
answered takes kind semantics label schema rule path result r last scratch_now ek es el m w =
    let c = comes takes kind semantics label [] schema rule result_bytes mark_bytes path result r last scratch_now ek es el m in
    record {
      number = ap (λ (n : Numbers). n.number) c.same;
      path = c.home;
      result = w.stands ∙ ap (λ (n : Numbers). result_after n result) c.same;
      small = rw c.same at w.small;
    }

pub check-answered : (kind semantics : ℕ) (label table schema rule path marks result : List ℕ) {k s lent : ℕ} (r : Report) (last marks_now scratch_now : List ℕ) {result_now : List ℕ}
    → k ≡ min kind 9
    → s ≡ min semantics 9
    → lent ≡ path_lent report_bytes (length path) (length result)
    → MeetsMarked (marked_run_of Any k s label table schema rule (take (lent - 0) path) marks (replicate scratch_words 0) r last marks_now scratch_now)
    → ReportWritten r result result_now
    → CheckAnswered (check_call kind semantics label table schema rule (length path) (length marks) (length result)) path (last ++ drop (lent - 0) path) marks marks_now result result_now r.outcome.number
unfolding check_call marks_by takes_of call_of entry_call
check-answered kind semantics label table schema rule path marks result {k} {s} {lent} r last marks_now scratch_now ek es el m w =
    let c = comes Any kind semantics label table schema rule report_bytes (length marks) path result r.outcome last scratch_now ek es el m.meets in
    let call = check_call kind semantics label table schema rule (length path) (length marks) (length result) in
    let same : marks_by (call_of (lent_run_of Any k s label table schema rule (take (lent - 0) path) (length marks) (replicate scratch_words 0) r.outcome last scratch_now)) ≡ marks_by call =
    ap (λ (a : Answer). marks_heard a (decode_rule rule)) (made Any kind semantics label table schema rule report_bytes (length marks) path result k s lent r.outcome last scratch_now ek es el)
    in
    let count : r.marks ≡ length (marks_by call) = m.marks.counted ∙ ap length same in
    record {
      number = ap (λ (n : Numbers). n.number) c.same;
      path = c.home;
      marks = m.marks.written ∙ ap (λ (ms : List ℕ). sets marks 0 (bytes_of ms)) same;
      result = w.stands ∙ (λ i. report_after (c.same i) (count i) result);
      small = rw (c.same, count) at w.small;
    }
