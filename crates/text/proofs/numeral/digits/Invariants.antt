-- `text::numeral::digits` meets its contract. The digits from `i` on, after `value`, are those from `at` on, after `first`.
use Prim.Native.Nat.{◌≤◌, ◌-◌}
use mathlib.Core.Path.{◌≡◌}
use lib.ListN.{length, drop}
use Rattle.text.specs.Numeral.{digits}
use Rattle.text.proofs.numeral.digits.Given as goal

abbrev pub invariant-loop-i : goal.invariant-loop-i
invariant-loop-i l = digits l.value (drop l.i l.s) ≡ digits l.first (drop l.at l.s)
