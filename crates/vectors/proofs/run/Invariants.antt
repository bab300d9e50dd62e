-- `vectors::run` is safe: no more cases agree than were replayed.
use Prim.Native.Nat.{◌≤◌}
use mathlib.Core.Path.{◌≡◌}
use lib.ListN.{length}
use Rattle.vectors.specs.Found.{Within}
use Rattle.vectors.proofs.run.Given as goal

abbrev pub invariant-loop-cases : goal.invariant-loop-cases
invariant-loop-cases g l = Within l.buffer l.w × (l.agreed ≤ l.cases) × (length l.buffer ≡ length l.initial.buffer)
