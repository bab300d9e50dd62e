use native.Mathlib.Omega.{arith}
use Rattle.drafts.proofs.LentSteps.{looked-start, looked-next, looked-end}
use borrow.Author.Rules.{rules}
use Rattle.drafts.proofs.refusals.refused_rules.Goals as goal

pub loop-i-init : goal.loop-i-init
loop-i-init c = (search rules, looked-start _ _)

pub lent_at-l-requires : goal.lent_at-l-requires
lent_at-l-requires c = (omega (arith, c.loop-i.invariant.0), c.loop-i.invariant.1.placed)

pub slice_bounds-label-count : goal.slice_bounds-label-count
slice_bounds-label-count c = omega (arith, c.lent_at-l.ensures.first, c.lent_at-l.ensures.second, c.lent_at-l.ensures.within)

pub slice_bounds-label-start : goal.slice_bounds-label-start
slice_bounds-label-start c = omega (arith, c.lent_at-l.ensures.first, c.lent_at-l.ensures.second, c.lent_at-l.ensures.within)

pub slice_bounds-label-end : goal.slice_bounds-label-end
slice_bounds-label-end c = omega (arith, c.lent_at-l.ensures.first, c.lent_at-l.ensures.second, c.lent_at-l.ensures.within)

pub loop-i-preserved : goal.loop-i-preserved
loop-i-preserved c = (c.loop-i.invariant.0, looked-next _ _ c.loop-i.invariant.1 (omega (arith, c.loop-i.invariant.0)) c.lent_at-l.ensures c.refused_settings-number.ensures c.sooner_of-found.ensures)

pub returns : goal.returns
returns c = looked-end _ _ c.loop-i.invariant.1 (omega (arith, c.loop-i.invariant.0))
