-- `rule::keys::many_differ` meets its contract: the loop's invariant is the table of the keys before, and that what is right for the keys left is right for all.
use Prim.Native.Nat.{◌-◌}
use Rattle.rule.proofs.TableLaws.{Sofar}
use Rattle.rule.proofs.keys.many_differ.Given as goal

abbrev pub invariant-loop : goal.invariant-loop
invariant-loop l = Sofar l.s l.words l.links l.heads l.first l.count l.i (l.count - l.counter)
