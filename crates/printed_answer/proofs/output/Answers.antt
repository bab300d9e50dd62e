-- `printed_answer::output` meets its contract: a file of another form, or the line of the call that it describes.
use Rattle.printed_answer.proofs.Steps.{printed-none, printed-apart}
use Rattle.printed_answer.proofs.output.Goals as goal

pub returns-in_default : goal.returns-in_default
returns-in_default c = printed-none _ _ (rw c.in_default.is at c.take_apart.ensures)

pub returns : goal.returns
returns c =
    let r = rw c.in-Some.is at c.take_apart.ensures in
    printed-apart _ _ r c.bytes_of.ensures c.bytes_of-2.ensures c.bytes_of-3.ensures c.answer.ensures
