-- A call of the code as a run of the definitions.
use Rattle.std.specs.Prelude.{ℕ, List}
use Rattle.single_check.specs.Runs.{marked_run_of}
use Rattle.single_check.specs.declared.sheets.Takes.{Takes}
use Rattle.message.specs.Explaining.{ExplainedRun}
use Rattle.explained_check.specs.declared.Explained.{Explained}

abbrev pub explained_run_of : (takes : Takes) (kind semantics : ℕ) (label table schema rule path_before marks_before message_before scratch_before : List ℕ) (r : Explained) (path marks message scratch : List ℕ) → ExplainedRun
explained_run_of takes kind semantics label table schema rule path_before marks_before message_before scratch_before r path marks message scratch =
    record {
      marked = marked_run_of takes kind semantics label table schema rule path_before marks_before scratch_before r.report path marks scratch;
      message_before = message_before;
      message = message;
      refusal = r.refusal;
      size = r.size;
    }
