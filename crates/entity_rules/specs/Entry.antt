-- What a C function of this crate answers, and what both buffers hold after it (docs/FORMAT.md, "The C interface").
use Rattle.std.specs.Prelude.{ℕ, ◌*◌, ◌≤◌, cond, List, [], ◌∷◌, ◌≡◌, leb, length, replicate}
use Rattle.std.proofs.lemmas.List.Edits.{sets}
use Rattle.buffer.specs.Bytes.{bytes_of, InFourBytes, field_at}
use Rattle.validation.specs.Result.{Takes, Call, Answer, Numbers, result_of, numbers_of, path_after, path_bytes, scratch_words, mark_bytes, Run}
use Rattle.call.specs.Call.{Reply, number_of, Buffer, Left, AllLeft}
use Rattle.single_check.specs.declared.outcome.Outcome.{Outcome}
use Rattle.single_check.specs.Outcomes.{numbers_by}

-- seven numbers of four bytes
abbrev pub result_bytes : ℕ
result_bytes = 28

-- the numbers of a result in their order
unfoldable pub fields_of : Numbers → List ℕ
fields_of n =
    n.number
    ∷ n.family
    ∷ n.detail
    ∷ n.place
    ∷ n.over_place
    ∷ n.passed
    ∷ n.path_length
    ∷ []

-- the result buffer after the call: the numbers lie at its start, and all other bytes keep their values
unfoldable pub result_after : Numbers → List ℕ → List ℕ
result_after n before = cond (leb result_bytes (length before)) (sets before 0 (bytes_of (fields_of n))) before

-- the same with other numbers
unfoldable pub numbers_after : (numbers before : List ℕ) → List ℕ
numbers_after numbers before = cond (leb (4 * length numbers) (length before)) (sets before 0 (bytes_of numbers)) before

-- A result buffer with too few bytes is refusal 3, as a path buffer under 32,768 bytes is. So the path buffer counts as empty there:
-- 3 then falls due in its place, after 1 and 2 and before the sheets.
unfoldable pub path_lent : (need path_length result_length : ℕ) → ℕ
path_lent need path_length result_length = cond (leb need result_length) path_length 0

-- a path buffer and a result buffer of a call whose result needs so many bytes
pub record HasRoom (need : ℕ) (path result : List ℕ) : Type 0 where
  pub wide : path_bytes ≤ length path
  pub fits : need ≤ length result

-- the call that a C function makes whose result needs so many bytes, with a scratch of its own
unfoldable pub entry_call : Takes → (kind semantics : ℕ) (label table schema rule : List ℕ) (need path_length marks_length result_length : ℕ) → Call
entry_call takes kind semantics label table schema rule need path_length marks_length result_length =
    record {
      asked = record { takes = takes; kind = kind; semantics = semantics; label = label; rule = rule };
      table = table;
      schema = schema;
      lent =
          record {
            widths = record { path = path_lent need path_length result_length; scratch = scratch_words };
            marks = marks_length;
          };
    }

-- the answer of one that is lent neither a name table nor a mark list
unfoldable pub entry_answer : Takes → (kind semantics : ℕ) (label schema rule : List ℕ) (path_length result_length : ℕ) → Answer
entry_answer takes kind semantics label schema rule path_length result_length =
    result_of (entry_call takes kind semantics label [] schema rule result_bytes path_length mark_bytes result_length)

-- what is returned, and both buffers; since the numbers are small, they can be read back (EntryLaws, `field-of-answer`)
pub record EntryAnswered (answer : Answer) (path_before path_now result_before result_now : List ℕ) (r : ℕ) : Type 0 where
  pub number : r ≡ (numbers_of answer).number
  pub path : path_now ≡ path_after answer path_before
  pub result : result_now ≡ result_after (numbers_of answer) result_before
  pub small : InFourBytes (fields_of (numbers_of answer))

-- the seven numbers that a result's bytes stand for
unfoldable pub numbers_in : List ℕ → Numbers
numbers_in bytes =
    record {
      number = field_at 0 bytes;
      family = field_at 1 bytes;
      detail = field_at 2 bytes;
      place = field_at 3 bytes;
      over_place = field_at 4 bytes;
      passed = field_at 5 bytes;
      path_length = field_at 6 bytes;
    }

-- What a host hands over and what it has after the call, as a run. The scratch is the function's own: nobody sees what it holds, so it
-- counts as unchanged.
unfoldable pub entry_run : Takes → (kind semantics : ℕ) (label table schema rule path_before : List ℕ) (marks_length : ℕ) (path_now result_now : List ℕ) → Run
entry_run takes kind semantics label table schema rule path_before marks_length path_now result_now =
    record {
      asked = record { takes = takes; kind = kind; semantics = semantics; label = label; rule = rule };
      table = table;
      schema = schema;
      path_before = path_before;
      scratch_before = replicate scratch_words 0;
      marks_lent = marks_length;
      result = numbers_in result_now;
      path = path_now;
      scratch = replicate scratch_words 0;
    }

-- what writing a result promises
pub record Written (o : Outcome) (before after : List ℕ) : Type 0 where
  pub stands : after ≡ result_after (numbers_by o) before
  pub small : InFourBytes (fields_of (numbers_by o))

-- What a C function promises that hands a reply over: what is returned, the lent buffers, and the result's numbers as bytes, which can be read back. `write` says how the bytes
-- are written, and `Fits` that each number has room in its own.
pub record Handed {A : Type 0} (reply : Reply A) (numbers : List ℕ) (write : (numbers before : List ℕ) → List ℕ) (Fits : List ℕ → Type 0) (left : List Left) (lent : List Buffer) (result_before result_now : List ℕ) (r : ℕ) : Type 0 where
  pub number : r ≡ number_of reply
  pub buffers : AllLeft left lent
  pub result : result_now ≡ write numbers result_before
  pub small : Fits numbers
