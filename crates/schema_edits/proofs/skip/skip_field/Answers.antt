use native.Mathlib.Omega.{arith}
use borrow.Author.Rules.{rules}
use Prim.Native.Nat.{ℕ, ◌+◌, ◌-◌}
use mathlib.Core.Path.{ap}
use Rattle.schema_edits.proofs.SkipSteps.{skip-start, skip-unread, skip-more, skip-end}
use Rattle.schema_edits.proofs.skip.skip_field.Goals as goal

pub loop-pending-init : goal.loop-pending-init
loop-pending-init c = search (skip-start, rules)

pub returns-in_default : goal.returns-in_default
returns-in_default c = skip-unread c.loop-pending.invariant c.known_field.ensures c.in_default.is (omega arith)

pub overflow_add-pending : goal.overflow_add-pending
overflow_add-pending c = let known = rw c.in-Some.is at c.known_field.ensures in omega (arith, known.past, known.within, c.loop-pending.invariant.few, c.to_count.ensures.1)

pub overflow_add-pending-in-loop-pending : goal.overflow_add-pending-in-loop-pending
overflow_add-pending-in-loop-pending c = let known = rw c.in-Some.is at c.known_field.ensures in omega (arith, known.past, known.within, known.count, c.loop-pending.invariant.few, c.to_count.ensures.1)

pub loop-pending-smaller : goal.loop-pending-smaller
loop-pending-smaller c = let known = rw c.in-Some.is at c.known_field.ensures in omega (arith, known.past, known.within)

pub loop-pending-preserved : goal.loop-pending-preserved
loop-pending-preserved c =
    skip-more c.loop-pending.invariant c.known_field.ensures c.in-Some.is (omega arith) (ap (λ (n : ℕ). c.loop-pending.pending - 1 + n + c.in-Some.head.count) c.to_count.ensures.0)

pub returns : goal.returns
returns c = skip-end c.loop-pending.invariant (omega arith)
