-- `number::magnitude::zeros` meets its contract: `i` zeros lead, with those that lead from `i` on, at each turn.
use Prim.Native.Nat.{◌+◌, ◌-◌}
use mathlib.Core.Path.{◌≡◌}
use mathlib.Core.List.{map}
use lib.ListN.{length, drop}
use Rattle.number.specs.Finite.{digit}
use Rattle.number.specs.FirstDigit
use Rattle.number.proofs.magnitude.zeros.Given as goal

abbrev pub invariant-loop-i : goal.invariant-loop-i
invariant-loop-i l = l.i + FirstDigit.zeros (map digit (drop l.i l.s)) ≡ FirstDigit.zeros (map digit l.s)
