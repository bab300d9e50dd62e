-- A call of a C function that checks a rule or template, as a host sees it: what it hands over, what it has afterwards, and what is returned.
use Rattle.std.specs.Prelude.{ℕ, ◌≤◌, ◌<◌, List, ◌≡◌, length}
use Rattle.validation.specs.Check.{IsDefect}
use Rattle.validation.specs.Result.{Takes, Call, Answer, Heard, IsRefusal, result_of, numbers_of, path_after, Run}
use Rattle.entity_rules.specs.Entry.{entry_call, entry_run, numbers_in}

pub record Exchange : Type 0 where
  pub takes : Takes
  pub kind : ℕ
  pub semantics : ℕ
  pub label : List ℕ
  -- empty where the function takes none
  pub table : List ℕ
  pub schema : List ℕ
  pub rule : List ℕ
  -- how many bytes of a mark list; enough where the function takes none
  pub marks_lent : ℕ
  -- how many bytes its result needs
  pub need : ℕ
  pub path_before : List ℕ
  pub result_before : List ℕ
  pub path : List ℕ
  pub result : List ℕ
  pub returned : ℕ

-- the call that is made
unfoldable pub call_by : Exchange → Call
call_by e =
    entry_call e.takes e.kind e.semantics e.label e.table e.schema e.rule e.need (length e.path_before) e.marks_lent (length e.result_before)

-- the same as a run, its numbers read from the result's bytes
unfoldable pub run_by : Exchange → Run
run_by e =
    entry_run e.takes e.kind e.semantics e.label e.table e.schema e.rule e.path_before e.marks_lent e.path e.result

-- what every such function ensures, with nothing required
pub record ExchangeAnswered (e : Exchange) : Type 0 where
  pub number : e.returned ≡ (numbers_of (result_of (call_by e))).number
  pub path : e.path ≡ path_after (result_of (call_by e)) e.path_before
  pub numbers : e.need ≤ length e.result_before → numbers_in e.result ≡ numbers_of (result_of (call_by e))
  -- a result that is too short is not written
  pub unwritten : length e.result_before < e.need → e.result ≡ e.result_before

-- Demand 1 at the function, whatever is handed over
pub record EntryDemand1 (e : Exchange) : Type 0 where
  -- an answer is heard; what is returned is its number, and where the result has room it is written there
  pub hears : (a : Answer) × Heard a × (e.returned ≡ (numbers_of a).number) × (e.need ≤ length e.result_before → numbers_in e.result ≡ numbers_of a)
  pub keeps : (IsDefect e.returned → ⊥) → e.path ≡ e.path_before
  -- a result that is too short is a refusal, which leaves both buffers unchanged
  pub short : length e.result_before < e.need → IsRefusal e.returned × (e.path ≡ e.path_before) × (e.result ≡ e.result_before)
