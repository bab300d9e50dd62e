-- What a host may rely on: a result's numbers are read back as they were written, the demands hold of each call, and settings and buffers
-- of any size are refused by number.
use Rattle.std.specs.Prelude.{ℕ, ◌*◌, ◌≤◌, ◌<◌, Bool, true, false, cond, ◌&&◌, not, ◌≡◌, leb, length, get_or}
use Rattle.std.proofs.Common.{arith, ◌∙◌, le-leb}
use mathlib.Core.List.{List, [], ◌++◌}
use Rattle.std.proofs.Math.Option.{some}
use Rattle.std.proofs.Math.Path.{refl, ap, sym}
use Rattle.std.proofs.lemmas.List.{length-replicate}
use Rattle.std.proofs.lemmas.List.Edits.{sets}
use Rattle.std.proofs.lemmas.Bool.{lt-leb}
use Rattle.text.specs.Utf8.{between, is_utf8}
use Rattle.buffer.specs.Bytes.{bytes_of, InFourBytes, field_at}
use Rattle.buffer.specs.BytesLaws.{field-written}
use Rattle.validation.specs.Result.{Takes, Call, Answer, refused, Numbers, numbers_of, max_label_bytes, scratch_words, mark_bytes, result_of, of_settings, early, refusals, first_refusal, refused_or, path_after, call_of, Meets}
use Rattle.validation.proofs.RefusalLaws.{kind-refused, semantics-refused}
use Rattle.entity_rules.specs.Entry.{result_bytes, fields_of, result_after, path_lent, entry_call, entry_answer, EntryAnswered, numbers_in, entry_run}

-- the field at index i of a written result is the i-th of its seven numbers
pub field-of-result : (i : ℕ) (n : Numbers) (before : List ℕ)
    → i < 7
    → result_bytes ≤ length before
    → InFourBytes (fields_of n)
    → field_at i (result_after n before) ≡ get_or (fields_of n) i 0
unfolding result_after fields_of
field-of-result i n before less room small =
    rw (le-leb result_bytes (length before) room) (field-written (fields_of n) before (omega arith) i less small)

-- the seven numbers are read back, whatever is written after them
pub numbers-written : (n : Numbers) (more before : List ℕ)
    → 4 * length (fields_of n ++ more) ≤ length before
    → InFourBytes (fields_of n ++ more)
    → numbers_in (sets before 0 (bytes_of (fields_of n ++ more))) ≡ n
unfolding numbers_in fields_of
numbers-written n more before room small = λ i.
    record {
      number = field-written (fields_of n ++ more) before room 0 (omega arith) small i;
      family = field-written (fields_of n ++ more) before room 1 (omega arith) small i;
      detail = field-written (fields_of n ++ more) before room 2 (omega arith) small i;
      place = field-written (fields_of n ++ more) before room 3 (omega arith) small i;
      over_place = field-written (fields_of n ++ more) before room 4 (omega arith) small i;
      passed = field-written (fields_of n ++ more) before room 5 (omega arith) small i;
      path_length = field-written (fields_of n ++ more) before room 6 (omega arith) small i;
    }

-- so `rulecheck_field` gives the numbers of the answer
pub field-of-answer : {answer : Answer} {path_before path_now result_before result_now : List ℕ} {r : ℕ}
    → EntryAnswered answer path_before path_now result_before result_now r
    → (i : ℕ)
    → i < 7
    → result_bytes ≤ length result_before
    → field_at i result_now ≡ get_or (fields_of (numbers_of answer)) i 0
field-of-answer {answer} {path_before} {path_now} {result_before} a i less room =
    rw a.result (field-of-result i (numbers_of answer) result_before less room a.small)

pub numbers-of-answer : {answer : Answer} {path_before path_now result_before result_now : List ℕ} {r : ℕ}
    → EntryAnswered answer path_before path_now result_before result_now r
    → result_bytes ≤ length result_before
    → numbers_in result_now ≡ numbers_of answer
unfolding fields_of result_after
numbers-of-answer {answer} {result_before = result_before} a room =
    rw (a.result, le-leb result_bytes (length result_before) room) (numbers-written (numbers_of answer) [] result_before (omega arith) a.small)

-- A call of a C function with room for its result is a run that gives what the definitions say. So the demands hold of it (crate
-- `validation`, specs/Demands).
pub entry-call : (takes : Takes) (kind semantics : ℕ) (label table schema rule : List ℕ) (need : ℕ) (path_before : List ℕ) (marks_length : ℕ) (path_now result_before result_now : List ℕ)
    → need ≤ length result_before
    → call_of (entry_run takes kind semantics label table schema rule path_before marks_length path_now result_now)
    ≡ entry_call takes kind semantics label table schema rule need (length path_before) marks_length (length result_before)
unfolding call_of entry_run entry_call path_lent
entry-call takes kind semantics label table schema rule need path_before marks_length path_now result_before result_now room =
    rw (le-leb need (length result_before) room, length-replicate {A = ℕ} scratch_words 0)

module _ (takes : Takes) (kind semantics : ℕ) (label schema rule path_before path_now result_before result_now : List ℕ) {r : ℕ}
    (a : EntryAnswered (entry_answer takes kind semantics label schema rule (length path_before) (length result_before)) path_before path_now result_before result_now r)
    (room : result_bytes ≤ length result_before)
  where
    pub entry-meets : Meets (entry_run takes kind semantics label [] schema rule path_before mark_bytes path_now result_now)
    unfolding entry_run entry_answer
    entry-meets =
        let same = sym (entry-call takes kind semantics label [] schema rule result_bytes path_before mark_bytes path_now result_before result_now room) in
        record {
          result = numbers-of-answer a room ∙ ap (λ (c : Call). numbers_of (result_of c)) same;
          path = a.path ∙ ap (λ (c : Call). path_after (result_of c) path_before) same;
          scratch = record { size = refl; kept = refl };
        }

    -- and what is returned is the run's number
    pub entry-returns : r ≡ (entry_run takes kind semantics label [] schema rule path_before mark_bytes path_now result_now).result.number
    unfolding entry_run
    entry-returns = a.number ∙ sym (ap (λ (n : Numbers). n.number) (numbers-of-answer a room))

pub refused-first : (a b : Bool) (rest : Answer) → refused_or (cond (not a) (some 1) (cond (not b) (some 2) (some 3))) rest ≡ refused (cond a (cond b 3 2) 1)
unfolding refused_or
refused-first true true rest = refl
refused-first true false rest = refl
refused-first false b rest = refl

no-path-refused : (c : Call) → c.lent.widths.path ≡ 0
    → result_of c
    ≡ refused (cond (between 1 8 c.asked.kind && between 1 4 c.asked.semantics) (cond (leb (length c.asked.label) max_label_bytes && is_utf8 c.asked.label) 3 2) 1)
unfolding result_of refusals early of_settings first_refusal
no-path-refused c e =
    rw e
    (refused-first (between 1 8 c.asked.kind && between 1 4 c.asked.semantics) (leb (length c.asked.label) max_label_bytes && is_utf8 c.asked.label) _)

module _ (takes : Takes) (kind semantics : ℕ) (label table schema rule : List ℕ) (need path_length marks_length result_length : ℕ) where
  abbrev call : Call
  call = entry_call takes kind semantics label table schema rule need path_length marks_length result_length

  -- a setting is refused for its whole value, and not for its last 32 bits
  pub large-kind-refused : 8 < kind → result_of call ≡ refused 1
  unfolding entry_call
  large-kind-refused more = kind-refused call more

  pub large-semantics-refused : 4 < semantics → result_of call ≡ refused 1
  unfolding entry_call
  large-semantics-refused more = semantics-refused call more

  -- a short result buffer is refused as 3, after 1 and 2 and before the mark list
  pub short-result-refused : result_length < need
      → result_of call ≡ refused (cond (between 1 8 kind && between 1 4 semantics) (cond (leb (length label) max_label_bytes && is_utf8 label) 3 2) 1)
  unfolding entry_call path_lent
  short-result-refused short = no-path-refused call (rw (lt-leb need result_length short))
