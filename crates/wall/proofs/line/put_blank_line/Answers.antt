-- `wall::line::put_blank_line` meets its contract: a line of which all columns are missing.
use Rattle.wall.proofs.LineSteps.{blank-written}
use Rattle.wall.proofs.line.put_blank_line.Goals as goal

pub returns : goal.returns
returns c = blank-written c.end_line.ensures
