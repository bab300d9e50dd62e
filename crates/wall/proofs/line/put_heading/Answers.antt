-- `wall::line::put_heading` meets its contract.
use Rattle.wall.proofs.LineSteps.{heading-written}
use Rattle.wall.proofs.line.put_heading.Goals as goal

pub returns : goal.returns
returns c = heading-written c.args.number c.put-next.ensures c.put_column-next.ensures c.end_line.ensures
