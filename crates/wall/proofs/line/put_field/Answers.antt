-- `wall::line::put_field` meets its contract.
use Rattle.wall.proofs.LineSteps.{field-written}
use Rattle.wall.proofs.line.put_field.Goals as goal

pub returns : goal.returns
returns c = field-written c.args.columns c.args.n c.put_column-next.ensures c.push.ensures
