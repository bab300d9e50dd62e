-- `leaves::white_space_count` meets its contract. The invariant: no more than were tried.
use Prim.Native.Nat.{◌≤◌, ◌-◌}
use Rattle.text_samples.proofs.white_space_count.Given as goal

abbrev pub invariant-loop-c : goal.invariant-loop-c
invariant-loop-c l = (l.n ≤ l.c) × (l.c ≤ 0x110000)

abbrev pub decreases-loop-c : goal.decreases-loop-c
decreases-loop-c l = 0x110000 - l.c
