use native.Mathlib.Omega.{arith}
use Rattle.schema_edits.proofs.EditSteps.{adds-headless, adds-laid}
use Rattle.schema_edits.proofs.edit.add_field.Goals as goal

pub returns-in_default : goal.returns-in_default
returns-in_default c = adds-headless c.args.s.now _ c.schema_head.ensures c.in_default.is

pub overflow_add-count : goal.overflow_add-count
overflow_add-count c = let read = rw c.in-Some.is at c.schema_head.ensures in omega (arith, read.1)

pub overflow_add-digits : goal.overflow_add-digits
overflow_add-digits c = let read = rw c.in-Some.is at c.schema_head.ensures in omega (arith, read.1, c.digits.ensures.1)

pub shape_of-out : goal.shape_of-out
shape_of-out c = c.lay_edited.ensures.len

pub returns : goal.returns
returns c = adds-laid c.args.s.now _ c.schema_head.ensures c.in-Some.is c.digits.ensures.0 c.lay_edited.ensures (omega arith) (omega arith) (omega arith)
