-- `rule::keys::is_chained` meets its contract: the loop's invariant is that what is right for the chain left is right for all of it.
use mathlib.Core.Bool.{Bool}
use Rattle.rule.specs.Table.{Falls, IsChained}
use Rattle.rule.proofs.keys.is_chained.Given as goal

abbrev pub invariant-loop-x : goal.invariant-loop-x
invariant-loop-x l = Falls l.links l.x × ((r : Bool) → IsChained l.s l.words l.links l.entry l.x r → IsChained l.s l.words l.links l.entry l.from r)

abbrev pub decreases-loop-x : goal.decreases-loop-x
decreases-loop-x l = l.x
