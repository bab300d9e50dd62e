-- `timestamp::fraction_end` meets its contract. The invariant: the digits that are left to pass end where all do.
use mathlib.Core.Path.{◌≡◌}
use Prim.Native.Nat.{◌-◌}
use Rattle.timestamp.specs.Instant.{skip_digits}
use Rattle.timestamp.proofs.fraction_end.Given as goal

abbrev pub invariant-loop-at : goal.invariant-loop-at
invariant-loop-at l = skip_digits l.s l.at (29 - l.at) ≡ skip_digits l.s 20 9
