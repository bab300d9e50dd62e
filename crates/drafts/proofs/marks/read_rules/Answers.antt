use mathlib.Core.Path.{◌∙◌}
use native.Mathlib.Omega.{arith}
use Rattle.drafts.proofs.MarkSteps.{read-start, read_next, read-bad, read-end}
use borrow.Author.Rules.{rules}
use Rattle.drafts.proofs.marks.read_rules.Goals as goal

pub loop-i-init : goal.loop-i-init
loop-i-init c = (search rules, read-start _ _ _ _ _)

pub lent_at-l-requires : goal.lent_at-l-requires
lent_at-l-requires c = (omega (arith, c.loop-i.invariant.0), c.loop-i.invariant.1.placed)

pub slice_bounds-sheet-count : goal.slice_bounds-sheet-count
slice_bounds-sheet-count c = omega (arith, c.lent_at-l.ensures.first, c.lent_at-l.ensures.second, c.lent_at-l.ensures.within)

pub slice_bounds-sheet-start : goal.slice_bounds-sheet-start
slice_bounds-sheet-start c = omega (arith, c.lent_at-l.ensures.first, c.lent_at-l.ensures.second, c.lent_at-l.ensures.within)

pub slice_bounds-sheet-end : goal.slice_bounds-sheet-end
slice_bounds-sheet-end c = omega (arith, c.lent_at-l.ensures.first, c.lent_at-l.ensures.second, c.lent_at-l.ensures.within)

pub read_rule-requires : goal.read_rule-requires
read_rule-requires c = omega (arith, c.loop-i.invariant.1.kept.len, c.requires.1)

pub shape_of-marks-in_default : goal.shape_of-marks-in_default
shape_of-marks-in_default c = c.loop-i.invariant.1.size

pub shape_of-scratch-in_default : goal.shape_of-scratch-in_default
shape_of-scratch-in_default c = let bad = rw c.in_default.is at c.read_rule.ensures in bad.1.len ∙ c.loop-i.invariant.1.kept.len

pub returns-in_default : goal.returns-in_default
returns-in_default c = let bad = rw c.in_default.is at c.read_rule.ensures in read-bad _ _ _ _ _ c.loop-i.invariant.1 (omega (arith, c.loop-i.invariant.0)) c.lent_at-l.ensures bad.0 bad.1

pub mentions-requires : goal.mentions-requires
mentions-requires c = let good = rw c.in-Some.is at c.read_rule.ensures in omega (arith, good.within)

pub bounds-marks-i : goal.bounds-marks-i
bounds-marks-i c = omega (arith, c.loop-i.invariant.0, c.loop-i.invariant.1.size, c.requires.0)

pub loop-i-preserved : goal.loop-i-preserved
loop-i-preserved c = let good = rw c.in-Some.is at c.read_rule.ensures in (c.loop-i.invariant.0, read_next _ _ _ _ _ c.loop-i.invariant.1 (omega (arith, c.loop-i.invariant.0)) c.lent_at-l.ensures good c.mentions.ensures c.mark_of.ensures)

pub shape_of-marks : goal.shape_of-marks
shape_of-marks c = c.loop-i.invariant.1.size

pub shape_of-scratch : goal.shape_of-scratch
shape_of-scratch c = c.loop-i.invariant.1.kept.len

pub returns : goal.returns
returns c = read-end _ _ _ _ _ c.loop-i.invariant.1 (omega (arith, c.loop-i.invariant.0))
