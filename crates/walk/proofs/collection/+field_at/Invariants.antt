-- `walk::collection::field_at` meets its contract.
use lib.ListN.{length}
use Rattle.walk.proofs.collection.+field_at.Given as goal

abbrev pub decreases-field_at : goal.decreases-field_at
decreases-field_at l = length l.path.now
