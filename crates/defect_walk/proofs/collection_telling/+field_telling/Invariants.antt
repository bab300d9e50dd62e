use lib.ListN.{length}
use Rattle.defect_walk.proofs.collection_telling.+field_telling.Given as goal

abbrev pub decreases-field_telling : goal.decreases-field_telling
decreases-field_telling l = length l.path.now
