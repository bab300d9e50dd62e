-- A call of the code as a run of the definitions: what is handed over, and what is there afterwards.
use Rattle.std.specs.Prelude.{ℕ, List, ◌≡◌, length}
use Rattle.std.proofs.Math.Option.{some}
use Rattle.definition.specs.Tree.{Rule}
use Rattle.definition.specs.Decode.{decode_rule}
use Rattle.rule.specs.Index.{RuleAt}
use Rattle.validation.specs.Result.{mark_bytes, Run, Meets}
use Rattle.validation.specs.Marking.{MarkedRun}
use Rattle.single_check.specs.declared.sheets.Takes.{Takes}
use Rattle.single_check.specs.declared.outcome.Outcome.{Outcome}
use Rattle.single_check.specs.declared.outcome.Report.{Report}
use Rattle.single_check.specs.Outcomes.{numbers_by}
use Rattle.single_check.specs.Sheets.{takes_of}

-- with a mark list of so many bytes
abbrev pub lent_run_of : (takes : Takes) (kind semantics : ℕ) (label table schema rule path_before : List ℕ) (marks_lent : ℕ) (scratch_before : List ℕ) (r : Outcome) (path scratch : List ℕ) → Run
lent_run_of takes kind semantics label table schema rule path_before marks_lent scratch_before r path scratch =
    record {
      asked = record { takes = takes_of takes; kind = kind; semantics = semantics; label = label; rule = rule };
      table = table;
      schema = schema;
      path_before = path_before;
      scratch_before = scratch_before;
      marks_lent = marks_lent;
      result = numbers_by r;
      path = path;
      scratch = scratch;
    }

-- of a function that is lent no mark list
abbrev pub run_of : (takes : Takes) (kind semantics : ℕ) (label table schema rule path_before scratch_before : List ℕ) (r : Outcome) (path scratch : List ℕ) → Run
run_of takes kind semantics label table schema rule path_before scratch_before r path scratch =
    lent_run_of takes kind semantics label table schema rule path_before mark_bytes scratch_before r path scratch

-- of one that is lent such a list
abbrev pub marked_run_of : (takes : Takes) (kind semantics : ℕ) (label table schema rule path_before marks_before scratch_before : List ℕ) (r : Report) (path marks scratch : List ℕ) → MarkedRun
marked_run_of takes kind semantics label table schema rule path_before marks_before scratch_before r path marks scratch =
    record {
      run = lent_run_of takes kind semantics label table schema rule path_before (length marks_before) scratch_before r.outcome path scratch;
      marks_before = marks_before;
      marks = marks;
      count = r.marks;
    }

-- what a whole call promises, and that the index of an accepted rule is in the scratch
pub record MeetsIndexed (r : Run) : Type 0 where
  pub meets : Meets r
  pub indexed : r.result.number ≡ 0 → (x : Rule) → decode_rule r.asked.rule ≡ some x → RuleAt r.asked.rule r.scratch x
