-- What a caller may rely on: the marks that a call answers with are the fewest under which a single check of the opened schema accepts.
use Rattle.std.specs.Prelude.{ℕ, ◌*◌, ◌<◌, Bool, true, List, ◌⊎◌, ◌≡◌, length, drop, get_or}
use Rattle.definition.specs.Tree.{Schema}
use Rattle.definition.specs.Write.{write_schema}
use Rattle.widening.specs.Opening.{is_in, opened, is_closed}
use Rattle.validation.specs.Result.{Call, accepted, result_of}
use Rattle.validation.specs.Marked.{Rises}
use Rattle.openings.specs.Call.{OpenCall, check_of, opens, nothing_helps, open_answer}
use Rattle.buffer.specs.Bytes.{field_at}

-- the single check of the rule or template under the schema in which those marks are open
unfoldable pub check_opened : OpenCall → Schema → (ℕ → Bool) → Call
check_opened c t may =
    record { asked = (check_of c).asked; table = c.table; schema = write_schema (opened may t); lent = (check_of c).lent }

abbrev pub Accepted : OpenCall → Schema → (ℕ → Bool) → Type 0
Accepted c t may = (n : ℕ) × (result_of (check_opened c t may) ≡ accepted n)

-- for a call about the schema t that is not refused
pub record AnswersFewest (c : OpenCall) (t : Schema) : Type 0 where
  pub answers : ((set : List ℕ) × (open_answer c ≡ opens set)) ⊎ (open_answer c ≡ nothing_helps)
  pub accepts : (set : List ℕ) → open_answer c ≡ opens set → Accepted c t (is_in set)
  pub least : (set : List ℕ) → open_answer c ≡ opens set → (may : ℕ → Bool) → Accepted c t may → (e : ℕ) → is_in set e ≡ true → may e ≡ true
  -- each of its marks is 0 in the schema
  pub closed : (set : List ℕ) → open_answer c ≡ opens set → (e : ℕ) → is_in set e ≡ true → is_closed t e ≡ true
  -- a rising list
  pub rises : (set : List ℕ) → open_answer c ≡ opens set → Rises 0 set
  pub none-helps : open_answer c ≡ nothing_helps → (may : ℕ → Bool) → Accepted c t may → ⊥

-- the set stands at the start of the list: it has as many elements as the result says, each is read back from its four bytes, and all bytes after them keep their values
pub record ListStands (set result list_before list : List ℕ) : Type 0 where
  pub count : get_or result 2 0 ≡ length set
  pub reads : (i : ℕ) → i < length set → field_at i list ≡ get_or set i 0
  pub past : drop (4 * length set) list ≡ drop (4 * length set) list_before
