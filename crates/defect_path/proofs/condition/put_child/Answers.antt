use Rattle.buffer.specs.WroteLaws.{wrote_then}
use Rattle.defect_path.proofs.condition.put_child.Goals as goal

pub returns : goal.returns
returns c = wrote_then c.put_operator-next.ensures c.put_index.ensures
