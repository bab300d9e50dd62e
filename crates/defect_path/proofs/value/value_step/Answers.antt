use Rattle.defect_path.proofs.ValueSteps.{value-refused-step, constant-step, number_step, string-step, array-step, object-step}
use Rattle.sheet.specs.Places.{value_of}
use native.Mathlib.Omega.{arith}
use Rattle.defect_path.proofs.value.value_step.Goals as goal

pub returns-in_default : goal.returns-in_default
returns-in_default c = (value-refused-step c.start_of.ensures (rw c.in_default.is at c.value_head.ensures), omega arith)

pub returns-in-Constant : goal.returns-in-Constant
unfolding value_of
returns-in-Constant c = (constant-step c.start_of.ensures (rw c.in-Constant.is at (rw c.in-Some.is at c.value_head.ensures)).0.reads c.requires.0, omega arith)

pub returns-in-Number : goal.returns-in-Number
unfolding value_of
returns-in-Number c = (number_step c.start_of.ensures (rw c.in-Number.is at (rw c.in-Some.is at c.value_head.ensures)).0.reads c.requires.0, omega arith)

pub returns-in-Text : goal.returns-in-Text
unfolding value_of
returns-in-Text c = (string-step c.start_of.ensures (rw c.in-Text.is at (rw c.in-Some.is at c.value_head.ensures)).0.reads c.requires.0, omega arith)

pub returns-in-Array : goal.returns-in-Array
unfolding value_of
returns-in-Array c = (array-step c.start_of.ensures (rw c.in-Array.is at (rw c.in-Some.is at c.value_head.ensures)).0.reads c.requires.0 c.find_sibling-inner.ensures.0 c.put_index-next.ensures, omega (arith, c.find_sibling-inner.ensures.1))

pub returns-in-Object : goal.returns-in-Object
unfolding value_of
returns-in-Object c = (object-step c.start_of.ensures (rw c.in-Object.is at (rw c.in-Some.is at c.value_head.ensures)).0.reads c.requires.0 c.find_sibling-inner.ensures.0 c.put_key-next.ensures, omega (arith, c.find_sibling-inner.ensures.1))
