use mathlib.Core.Path.{refl}
use Rattle.defect_message.proofs.RefusalLaws.{end-placed, refusal-none, refusal-past, refusal-laid}
use Rattle.walk.specs.DotLaws.{ends-length}
use native.Mathlib.Omega.{arith}
use borrow.Author.Rules.{rules}
use Rattle.defect_message.proofs.refusal.lay_refusal.Goals as goal

pub returns-then-at-from : goal.returns-then-at-from
returns-then-at-from c = refusal-none (omega arith)

pub returns-then-text-at : goal.returns-then-text-at
returns-then-text-at c = refusal-past (omega arith)

pub slice_bounds-lay_segment-end-2 : goal.slice_bounds-lay_segment-end-2
slice_bounds-lay_segment-end-2 c = search (ends-length, rules)

pub overflow_add-at : goal.overflow_add-at
overflow_add-at c = search (end-placed, rules)

pub slice_bounds-lay_segment-count-2 : goal.slice_bounds-lay_segment-count-2
slice_bounds-lay_segment-count-2 c = search (end-placed, rules)

pub slice_bounds-lay_segment-start-2 : goal.slice_bounds-lay_segment-start-2
slice_bounds-lay_segment-start-2 c = search (end-placed, rules)

pub slice_bounds-lay_segment-end-3 : goal.slice_bounds-lay_segment-end-3
slice_bounds-lay_segment-end-3 c = search (end-placed, rules)

pub returns : goal.returns
returns c = refusal-laid c.indexed_field-field.ensures refl c.first_end-end.ensures c.behind_dot.ensures c.lay_segment.ensures
