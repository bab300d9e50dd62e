-- What `rulecheck_tally` answers, and what both buffers hold after it (docs/FORMAT.md, "The C interface").
use Rattle.std.specs.Prelude.{ℕ, ◌≤◌, List, [], ◌∷◌, ◌≡◌}
use Rattle.validation.specs.Result.{path_bytes, scratch_words}
use Rattle.call.specs.Call.{Reply, free_if_told, told}
use Rattle.rule_book.specs.Tally.{BookCall, Tally, book_answer, tally_numbers}
use Rattle.rule_book.specs.BookGrowth.{BookFares}
use Rattle.entity_rules.specs.Entry.{path_lent, Handed}
use Rattle.host_numbers.specs.Counts.{InEightBytes, counts_after, count_at}
use Rattle.widening.specs.Widening.{Level}

-- the call about a book that is made, with a scratch of its own and a result of so many bytes
unfoldable pub book_call_for : (need kind semantics : ℕ) (label table schema book : List ℕ) (path_length result_length : ℕ) → BookCall
book_call_for need kind semantics label table schema book path_length result_length =
    record {
      kind = kind;
      semantics = semantics;
      label = label;
      table = table;
      schema = schema;
      book = book;
      lent = record { path = path_lent need path_length result_length; scratch = scratch_words };
    }

-- eighteen numbers of eight bytes
abbrev pub tally_bytes : ℕ
tally_bytes = 144

unfoldable pub tally_answer : (kind semantics : ℕ) (label table schema book : List ℕ) (path_length result_length : ℕ) → Reply Tally
tally_answer kind semantics label table schema book path_length result_length =
    book_answer (book_call_for tally_bytes kind semantics label table schema book path_length result_length)

-- what is returned, and both buffers; since the numbers are of 64 bits, they can be read back (BookEntryLaws, `count-of-tally`)
abbrev pub TallyAnswered : (answer : Reply Tally) (path_before path_now result_before result_now : List ℕ) (r : ℕ) → Type 0
TallyAnswered answer path_before path_now result_before result_now r =
    Handed answer (tally_numbers answer) counts_after InEightBytes (free_if_told path_bytes answer ∷ []) (record { before = path_before; after = path_now } ∷ []) result_before result_now r

-- the counts of a tally at their places
pub record CountsAt (result : List ℕ) (t : Tally) : Type 0 where
  pub read : count_at 1 result ≡ t.read
  pub accepted : count_at 2 result ≡ t.accepted
  pub schema_refused : count_at 3 result ≡ t.schema_refused
  pub rule_refused : count_at 4 result ≡ t.rule_refused
  pub passed : count_at 17 result ≡ t.passed

-- what a host reads off a result after 0
pub record Tallied (c : BookCall) (result : List ℕ) : Type 0 where
  pub tally : Tally
  pub is : book_answer c ≡ told tally
  pub counts : CountsAt result tally

pub record TalliesFare (l : Level) (c c' : BookCall) (result result' : List ℕ) : Type 0 where
  pub first : Tallied c result
  pub second : Tallied c' result'
  -- each sheet fares as demand 3 says
  pub fares : BookFares l c c' first.tally second.tally
  -- no fewer sheets are accepted, and no fewer checks pass
  pub accepted : count_at 2 result ≤ count_at 2 result'
  pub passed : count_at 17 result ≤ count_at 17 result'
