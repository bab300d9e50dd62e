-- A call that is lent a mark list (docs/FORMAT.md, "Constant marks"): what it promises of the list, beside what every call promises.
use Rattle.std.specs.Prelude.{ℕ, ◌*◌, ◌<◌, List, ◌≡◌, length, drop, get_or}
use Rattle.std.proofs.lemmas.List.Edits.{sets}
use Rattle.definition.specs.Decode.{decode_rule}
use Rattle.definition.specs.Tree.{Rule}
use Rattle.buffer.specs.Bytes.{bytes_of, field_at}
use Rattle.validation.specs.Result.{Call, result_of, Run, call_of, Meets}
use Rattle.validation.specs.Constant.{marks_heard, marks_in}
use Rattle.validation.specs.Marked.{Rises}

-- the marks that a call hands back
unfoldable pub marks_by : Call → List ℕ
marks_by c = marks_heard (result_of c) (decode_rule c.asked.rule)

-- these marks lie at the start of a list, four bytes for each, and this is their count; all other bytes keep their values
pub record MarksAre (ms before after : List ℕ) (count : ℕ) : Type 0 where
  pub counted : count ≡ length ms
  pub written : after ≡ sets before 0 (bytes_of ms)

-- a run, and the mark list before and after it
pub record MarkedRun : Type 0 where
  pub run : Run
  pub marks_before : List ℕ
  pub marks : List ℕ
  pub count : ℕ

-- what a call with a mark list promises of its run: all that any call promises, and the list
pub record MeetsMarked (m : MarkedRun) : Type 0 where
  pub meets : Meets m.run
  pub lent : m.run.marks_lent ≡ length m.marks_before
  pub marks : MarksAre (marks_by (call_of m.run)) m.marks_before m.marks m.count

-- two calls handed back the same marks
pub record SameMarks (m m' : MarkedRun) : Type 0 where
  pub marks : List ℕ
  pub first : MarksAre marks m.marks_before m.marks m.count
  pub second : MarksAre marks m'.marks_before m'.marks m'.count

-- an accepted rule's marks: they rise, so many are counted, each is read back from its four bytes, and all bytes after them keep their values
pub record MarksStand (r : Rule) (m : MarkedRun) : Type 0 where
  pub rise : Rises 0 (marks_in r)
  pub count : m.count ≡ length (marks_in r)
  pub reads : (i : ℕ) → i < m.count → field_at i m.marks ≡ get_or (marks_in r) i 0
  pub past : drop (4 * m.count) m.marks ≡ drop (4 * m.count) m.marks_before
