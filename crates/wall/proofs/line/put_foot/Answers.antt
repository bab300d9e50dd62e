-- `wall::line::put_foot` meets its contract.
use Rattle.wall.proofs.LineSteps.{foot-written}
use Rattle.wall.proofs.line.put_foot.Goals as goal

pub returns : goal.returns
returns c = foot-written c.args.count c.put-next.ensures c.put_column-next.ensures c.end_line.ensures
