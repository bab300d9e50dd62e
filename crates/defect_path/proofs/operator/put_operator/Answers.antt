use Rattle.validation.specs.Location.{dotted}
use Rattle.buffer.specs.WroteLaws.{wrote_then}
use Rattle.defect_path.proofs.operator.put_operator.Goals as goal

pub returns-then-op-ge15 : goal.returns-then-op-ge15
unfolding dotted
returns-then-op-ge15 c = wrote_then c.push-next.ensures c.put_third.ensures

pub returns-then-op-ge8 : goal.returns-then-op-ge8
unfolding dotted
returns-then-op-ge8 c = wrote_then c.push-next.ensures c.put_second.ensures

pub returns : goal.returns
unfolding dotted
returns c = wrote_then c.push-next.ensures c.put_first.ensures
