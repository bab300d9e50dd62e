-- `sheet::schema_heads::tag_bytes` meets its contract.
use Rattle.sheet.specs.Places.{tag_bytes}
use Rattle.sheet.proofs.schema_heads.tag_bytes.Goals as goal

pub returns-in-Some : goal.returns-in-Some
unfolding tag_bytes
returns-in-Some c = rw c.in-Some.is

pub returns-in-None : goal.returns-in-None
unfolding tag_bytes
returns-in-None c = rw c.in-None.is
