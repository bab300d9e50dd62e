use Rattle.defect_path.proofs.ValueSteps.{key-refused, key-written}
use Rattle.buffer.specs.WroteLaws.{wrote_then}
use Rattle.validation.specs.Location.{dotted}
use Rattle.defect_path.proofs.value.put_key.Goals as goal

pub returns-in_default : goal.returns-in_default
returns-in_default c = key-refused c.start_of.ensures (rw c.in_default.is at c.key_head.ensures)

pub returns : goal.returns
unfolding dotted
returns c = key-written c.start_of.ensures (rw c.in-Some.is at c.key_head.ensures).reads c.bytes_of.ensures (wrote_then c.push-next.ensures c.put.ensures)
