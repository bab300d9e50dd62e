use native.Mathlib.Omega.{arith}
use Prim.Native.Nat.{◌-◌}
use mathlib.Core.Path.{refl}
use Rattle.schema_edits.proofs.CountSteps.{counting-start, counting-unread, counting_more, counting-end}
use Rattle.schema_edits.proofs.count.count_entries.Goals as goal

pub loop-at-init : goal.loop-at-init
loop-at-init c = counting-start refl refl

pub returns-in_default : goal.returns-in_default
returns-in_default c = counting-unread c.loop-at.invariant (omega arith) c.known_field.ensures c.in_default.is

pub overflow_add-n : goal.overflow_add-n
overflow_add-n c = omega (arith, c.loop-at.invariant.reached)

pub loop-at-smaller : goal.loop-at-smaller
loop-at-smaller c = let known = rw c.in-Some.is at c.known_field.ensures in omega (arith, known.past, known.within)

pub loop-at-preserved : goal.loop-at-preserved
loop-at-preserved c = counting_more c.loop-at.invariant (omega arith) c.known_field.ensures c.in-Some.is refl

pub returns : goal.returns
returns c = counting-end c.loop-at.invariant (omega arith)
