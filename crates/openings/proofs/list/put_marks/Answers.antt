use native.Mathlib.Omega.{arith}
use Rattle.buffer.specs.WroteLaws.{wrote_kept}
use Rattle.openings.proofs.ListSteps.{listing-starts, listing-marked, listing-other, listing-ends}
use Rattle.openings.proofs.list.put_marks.Goals as goal
use Rattle.openings.proofs.list.put_marks.Goals.{then-marks-e-ne0, else-marks-e-ne0}

pub loop-e-init : goal.loop-e-init
loop-e-init c = listing-starts _ _

pub bounds-marks-e : goal.bounds-marks-e
bounds-marks-e c = omega (arith, c.requires)

pub overflow_add-count : goal.overflow_add-count
overflow_add-count c = omega (arith, c.loop-e.invariant.fewer, c.loop-e.invariant.few)

pub loop-e-preserved : goal.loop-e-preserved
loop-e-preserved c =
    elim c.if-marks-e-ne0.branch [
      | then-marks-e-ne0 w ↦ rw (w.list-is, w.count-is, w.at-is) (listing-marked c.loop-e.invariant (omega arith) w.if-marks-e-ne0.true w.put_u32-at.ensures)
      | else-marks-e-ne0 w ↦ rw (w.list-is, w.count-is, w.at-is) (listing-other c.loop-e.invariant (omega arith) w.if-marks-e-ne0.false)
    ]

pub shape_of-list : goal.shape_of-list
shape_of-list c = wrote_kept c.loop-e.invariant.written

pub returns : goal.returns
returns c = listing-ends c.loop-e.invariant (omega arith)
