use native.Mathlib.Omega.{arith}
use Rattle.schema_edits.proofs.EditSteps.{removes-headless, removes-none, removes-laid}
use Rattle.schema_edits.proofs.edit.remove_field.Goals as goal

pub returns-in_default : goal.returns-in_default
returns-in_default c = removes-headless c.args.s.now _ c.schema_head.ensures c.in_default.is

pub returns-then-count-eq0 : goal.returns-then-count-eq0
returns-then-count-eq0 c = removes-none c.args.s.now _ c.schema_head.ensures c.in-Some.is (omega arith)

pub overflow_sub-count : goal.overflow_sub-count
overflow_sub-count c = omega arith

pub overflow_add-digits : goal.overflow_add-digits
overflow_add-digits c = let read = rw c.in-Some.is at c.schema_head.ensures in omega (arith, read.1, c.digits.ensures.1)

pub shape_of-out : goal.shape_of-out
shape_of-out c = c.lay_edited.ensures.len

pub returns : goal.returns
returns c = removes-laid c.args.s.now _ c.schema_head.ensures c.in-Some.is c.digits.ensures.0 c.lay_edited.ensures c.between.ensures (omega arith) (omega arith) (omega arith)
