-- `rule::keys::few_differ` meets its contract: the loop's invariant is that what is right for the keys left is right for all.
use Prim.Native.Nat.{◌-◌}
use mathlib.Core.Bool.{Bool}
use Rattle.rule.specs.Keys.{NoneTwice}
use Rattle.rule.proofs.keys.few_differ.Given as goal

abbrev pub invariant-loop-seen : goal.invariant-loop-seen
invariant-loop-seen l = (r : Bool) → NoneTwice l.s l.words l.i (l.count - l.seen) r → NoneTwice l.s l.words l.first l.count r
