-- `walk::field_path::walk_field_path` meets its contract.
use lib.ListN.{length}
use Rattle.walk.proofs.field_path.+walk_field_path.Given as goal

abbrev pub decreases-walk_field_path : goal.decreases-walk_field_path
decreases-walk_field_path l = length l.path.now
