use lib.ListN.{length}
use Rattle.defect_walk.proofs.telling.+walk_telling.Given as goal

abbrev pub decreases-walk_telling : goal.decreases-walk_telling
decreases-walk_telling l = length l.path.now
