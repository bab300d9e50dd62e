-- `rule::keys::stands_among` meets its contract: the loop's invariant is that what is right for the keys left is right for all.
use Prim.Native.Nat.{◌-◌}
use mathlib.Core.Bool.{Bool}
use Rattle.rule.specs.Keys.{StandsAmong}
use Rattle.rule.proofs.keys.stands_among.Given as goal

abbrev pub invariant-loop : goal.invariant-loop
invariant-loop l = (r : Bool) → StandsAmong l.s l.words l.entry l.i (l.count - l.counter) r → StandsAmong l.s l.words l.entry l.first l.count r
