use Rattle.text.specs.Ascii.{ascii}
use Rattle.validation.specs.Location.{index}
use Rattle.buffer.specs.WroteLaws.{wrote_then}
use Rattle.defect_path.proofs.bracket.put_index.Goals as goal

pub returns : goal.returns
unfolding index ascii
returns c = wrote_then c.push-inside.ensures (wrote_then c.put_decimal-end.ensures c.push.ensures)
