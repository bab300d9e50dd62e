-- `walk::path::first_end` meets its contract.
use Rattle.walk.proofs.Dots.{dotless-none}
use Rattle.walk.proofs.path.first_end.Goals as goal
use Rattle.walk.proofs.path.first_end.Goals.{then-path-ge32, else-path-ge32}

pub end_after-requires : goal.end_after-requires
end_after-requires c =
    elim c.if-path-ge32.branch [
      | then-path-ge32 w ↦ rw w.known-is w.dotless_start_32-known.ensures
      | else-path-ge32 w ↦ rw w.known-is (dotless-none _)
    ]
