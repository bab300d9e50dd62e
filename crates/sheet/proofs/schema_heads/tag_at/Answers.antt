-- `sheet::schema_heads::tag_at` meets its contract.
use Rattle.sheet.specs.Places.{tag_at}
use Rattle.sheet.proofs.schema_heads.tag_at.Goals as goal

pub returns-in-Some : goal.returns-in-Some
unfolding tag_at
returns-in-Some c = rw c.in-Some.is

pub returns-in-None : goal.returns-in-None
unfolding tag_at
returns-in-None c = rw c.in-None.is
