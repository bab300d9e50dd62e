-- `rulecheck::answer_line` meets its contract: there is room for the whole output.
use native.Mathlib.Omega.{arith}
use Rattle.printed_answer.specs.PrintedLaws.{printed-whole}
use Rattle.rulecheck.proofs.answer_line.Goals as goal

pub returns : goal.returns
returns c =
    let printed = c.output.ensures in
    (printed-whole printed (omega arith), omega arith)
