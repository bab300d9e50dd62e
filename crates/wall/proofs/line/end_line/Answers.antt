-- `wall::line::end_line` meets its contract.
use Rattle.wall.proofs.LineSteps.{line-ended}
use Rattle.wall.proofs.line.end_line.Goals as goal

pub returns : goal.returns
returns c = line-ended c.args.missing c.put_blanks-next.ensures c.push.ensures
