-- `number::magnitude::capped` meets its contract: what the digits that are left write after `v` is what the whole text writes, at each turn; one more digit after a tenth of LARGEST passes it.
use Prim.Native.Nat.{◌+◌, ◌-◌, ◌<◌}
use mathlib.Core.Path.{◌≡◌}
use mathlib.Core.List.{map}
use lib.ListN.{length, drop}
use Rattle.number.specs.Finite.{numeral_from, value, digit}
use Rattle.number.specs.FirstDigit.{largest}
use Rattle.number.proofs.magnitude.capped.Given as goal

abbrev pub invariant-loop-b : goal.invariant-loop-b
invariant-loop-b l = (numeral_from l.v (map digit (drop l.b-index l.s)) ≡ value l.s) × (l.v < largest + 256)
