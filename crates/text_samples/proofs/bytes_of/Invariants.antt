-- `leaves::bytes_of` meets its contract. The invariant: the buffer keeps its length, and holds what was written.
use Prim.Native.Nat.{◌≤◌, ◌-◌}
use lib.ListN.{length}
use mathlib.Core.Path.{◌≡◌}
use Rattle.text_samples.proofs.bytes_of.Given as goal

abbrev pub invariant-loop-at : goal.invariant-loop-at
invariant-loop-at l = (length l.out ≡ length l.initial.out) × (l.n ≤ length l.out) × (l.at ≤ length l.hex)

abbrev pub decreases-loop-at : goal.decreases-loop-at
decreases-loop-at l = length l.hex - l.at
