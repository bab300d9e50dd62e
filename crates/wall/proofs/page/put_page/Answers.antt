use Rattle.buffer.specs.WroteLaws.{wrote_kept}
use mathlib.Core.Path.{◌∙◌}
use Rattle.wall.proofs.PageSteps.{one_at_most, paging-start, paging-step, paging-end}
use native.Mathlib.Omega.{arith}
use Rattle.wall.proofs.page.put_page.Goals as goal

pub overflow_mul-first : goal.overflow_mul-first
overflow_mul-first c = omega (arith, c.requires.1)

pub overflow_add-first : goal.overflow_add-first
overflow_add-first c = omega (arith, c.requires.1)

pub overflow_add-before : goal.overflow_add-before
overflow_add-before c = omega (arith, c.requires.1)

pub loop-row-init : goal.loop-row-init
loop-row-init c = paging-start c.requires.0

pub overflow_add-first-in-loop-row : goal.overflow_add-first-in-loop-row
overflow_add-first-in-loop-row c = omega (arith, c.requires.1)

pub put_row-r-requires : goal.put_row-r-requires
put_row-r-requires c = c.loop-row.invariant.advanced.ready

pub overflow_add-accepted : goal.overflow_add-accepted
overflow_add-accepted c = omega (arith, c.loop-row.invariant.few, one_at_most c.loop-row.invariant c.put_row-r.ensures)

pub loop-row-preserved : goal.loop-row-preserved
loop-row-preserved c = paging-step c.loop-row.invariant c.put_row-r.ensures (omega arith) (omega arith)

pub shape_of-path : goal.shape_of-path
shape_of-path c = c.loop-row.invariant.advanced.kept.size

pub shape_of-scratch : goal.shape_of-scratch
shape_of-scratch c = c.loop-row.invariant.advanced.front.size

pub shape_of-pages : goal.shape_of-pages
shape_of-pages c = wrote_kept c.put_foot-line.ensures ∙ c.loop-row.invariant.size ∙ wrote_kept c.put_heading-line.ensures

pub returns : goal.returns
returns c = paging-end c.put_heading-line.ensures c.loop-row.invariant (omega arith) c.put_foot-line.ensures
