-- `printed_answer::answer` meets its contract: the line of a call's run is its output.
use native.Mathlib.Omega.{arith}
use mathlib.Core.Path.{refl}
use Rattle.printed_answer.proofs.Steps.{printed-run}
use Rattle.printed_answer.proofs.answer.Goals as goal

pub returns : goal.returns
returns c =
    let a = c.args in
    let run = c.validate-o in
    let o = run.result in
    let fits = run.type_inv in
    printed-run (record { kind = a.kind; semantics = a.semantics; label = a.label.now; schema = a.schema.now; rule = a.rule.now }) o _ _ _ _
    refl refl run.ensures c.write_line.ensures
    (omega arith) (omega arith) (omega arith) (omega arith) (omega arith) (omega arith)
