-- `drafts::marks::check_rule` meets its contract.
use native.Mathlib.Omega.{arith}
use Rattle.drafts.proofs.MarkSteps.{rule-refused, rule-checked}
use Rattle.drafts.proofs.marks.check_rule.Goals as goal

pub returns-in_default : goal.returns-in_default
returns-in_default c = rule-refused _ _ _ _ _ _ _ (rw c.in_default.is at c.settle.ensures)

pub slice_bounds-label-count : goal.slice_bounds-label-count
slice_bounds-label-count c = omega (arith, c.requires.0)

pub slice_bounds-label-start : goal.slice_bounds-label-start
slice_bounds-label-start c = omega (arith, c.requires.0, c.requires.1, c.requires.2)

pub slice_bounds-label-end : goal.slice_bounds-label-end
slice_bounds-label-end c = omega (arith, c.requires.1, c.requires.2)

pub slice_bounds-sheet-count : goal.slice_bounds-sheet-count
slice_bounds-sheet-count c = omega (arith, c.requires.1)

pub slice_bounds-sheet-start : goal.slice_bounds-sheet-start
slice_bounds-sheet-start c = omega (arith, c.requires.1, c.requires.2)

pub slice_bounds-sheet-end : goal.slice_bounds-sheet-end
slice_bounds-sheet-end c = omega (arith, c.requires.2)

pub check_sheet-o-requires : goal.check_sheet-o-requires
check_sheet-o-requires c = c.requires.3

pub returns : goal.returns
returns c = rule-checked _ _ _ _ _ _ _ _ (rw c.in-Ok.is at c.settle.ensures) c.check_sheet-o.ensures c.put_record.ensures c.check_sheet-o.auto.path
