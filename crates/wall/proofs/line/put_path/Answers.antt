-- `wall::line::put_path` meets its contract: a path that is cut, and one that is not.
use Rattle.wall.proofs.LineSteps.{path-cut, path-whole}
use native.Mathlib.Omega.{arith}
use Rattle.wall.proofs.line.put_path.Goals as goal

pub returns-then-path-gt-PATH_COLUMNS : goal.returns-then-path-gt-PATH_COLUMNS
returns-then-path-gt-PATH_COLUMNS c = path-cut c.args.path.now (omega arith) c.put_shown-last.ensures c.push-next.ensures c.end_line.ensures

pub returns : goal.returns
returns c = path-whole c.args.path.now (omega arith) c.put_shown-next.ensures c.end_line-2.ensures
