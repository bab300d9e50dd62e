use Prim.Native.Nat.{◌<◌}
use native.Mathlib.Omega.{arith}
use lib.ListN.{length}
use Rattle.drafts.proofs.CheckedSteps.{checked-start, checked-new, checked-kept, checked-end}
use borrow.Author.Rules.{rules}
use Rattle.drafts.proofs.checked.check_marked.Goals as goal
use Rattle.drafts.proofs.checked.check_marked.Goals.{then-marks-i-ne0, else-marks-i-ne0}

pub loop-i-init : goal.loop-i-init
loop-i-init c = (search rules, checked-start _ _ _ _ _ _ _ _ _)

pub lent_at-l-requires : goal.lent_at-l-requires
lent_at-l-requires c = (omega (arith, c.loop-i.invariant.0), c.loop-i.invariant.1.placed)

pub bounds-marks-i : goal.bounds-marks-i
bounds-marks-i c = omega (arith, c.loop-i.invariant.0, c.requires.0)

pub overflow_mul-place : goal.overflow_mul-place
overflow_mul-place c = omega (arith, c.loop-i.invariant.0, c.requires.1)

pub check_rule-requires : goal.check_rule-requires
check_rule-requires c = (c.lent_at-l.ensures.first, c.lent_at-l.ensures.second, c.lent_at-l.ensures.within, omega (arith, c.loop-i.invariant.1.kept.len, c.requires.2))

pub loop-i-preserved : goal.loop-i-preserved
loop-i-preserved c =
    let t = c.loop-i.invariant in
    let within : c.loop-i.i < length c.args.marks.now = omega (arith, t.0, c.requires.0) in
    elim c.if-marks-i-ne0.branch [
      | then-marks-i-ne0 w ↦ (t.0, rw (w.records-is, w.path-is, w.scratch-is) (checked-new _ _ _ _ _ _ _ _ _ t.1 (omega (arith, t.0)) within c.requires.1 c.lent_at-l.ensures w.if-marks-i-ne0.true w.check_rule.ensures))
      | else-marks-i-ne0 w ↦ (t.0, rw (w.records-is, w.path-is, w.scratch-is) (checked-kept _ _ _ _ _ _ _ _ _ t.1 (omega (arith, t.0)) within c.requires.1 c.lent_at-l.ensures w.if-marks-i-ne0.false))
    ]

pub shape_of-records : goal.shape_of-records
shape_of-records c = c.loop-i.invariant.1.size

pub shape_of-path : goal.shape_of-path
shape_of-path c = c.loop-i.invariant.1.size_path

pub shape_of-scratch : goal.shape_of-scratch
shape_of-scratch c = c.loop-i.invariant.1.kept.len

pub returns : goal.returns
returns c = checked-end _ _ _ _ _ _ _ _ _ c.loop-i.invariant.1 (omega (arith, c.loop-i.invariant.0))
