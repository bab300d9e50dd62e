-- `number::magnitude::compare` meets its contract: what is left from `i` on decides as the whole does, at each turn. The table read here is `bound`: both are written out, and the check compares the two.
use Prim.Native.Nat.{◌-◌, ◌≤◌}
use mathlib.Core.List.{map, ◌++◌}
use Rattle.number.specs.Bound.{bound}
use Rattle.number.specs.Finite.{digit}
use Rattle.number.proofs.Digits.{Left}
use Rattle.number.proofs.magnitude.compare.Given as goal

abbrev pub invariant-loop-i : goal.invariant-loop-i
invariant-loop-i l = Left (map digit (l.high ++ l.low)) bound l.i
