-- `leaves::three_byte_count` meets its contract. The invariant: no more than were tried.
use Prim.Native.Nat.{◌≤◌, ◌-◌}
use Rattle.text_samples.proofs.three_byte_count.Given as goal

abbrev pub invariant-loop-i : goal.invariant-loop-i
invariant-loop-i l = (l.n ≤ l.i) × (0xE00000 ≤ l.i) × (l.i ≤ 0xF00000)

abbrev pub decreases-loop-i : goal.decreases-loop-i
decreases-loop-i l = 0xF00000 - l.i
