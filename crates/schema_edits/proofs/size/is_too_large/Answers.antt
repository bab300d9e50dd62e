use native.Mathlib.Omega.{arith}
use Rattle.schema_edits.proofs.SizeSteps.{large-sheet, large-field, headless, too_many, few-enough}
use Rattle.schema_edits.proofs.size.is_too_large.Goals as goal

pub returns-then-s-gt-MAX_SHEET_BYTES : goal.returns-then-s-gt-MAX_SHEET_BYTES
returns-then-s-gt-MAX_SHEET_BYTES c = large-sheet c.args.s.now c.args.field.now (omega arith)

pub returns-then-field-gt-MAX_SHEET_BYTES : goal.returns-then-field-gt-MAX_SHEET_BYTES
returns-then-field-gt-MAX_SHEET_BYTES c = large-field c.args.s.now c.args.field.now (omega arith)

pub returns-in_default : goal.returns-in_default
returns-in_default c = headless c.args.s.now c.args.field.now _ c.schema_head.ensures c.in_default.is

pub overflow_add-count_entries : goal.overflow_add-count_entries
overflow_add-count_entries c = omega (arith, c.count_entries.ensures.few)

pub overflow_add-count_entries-2 : goal.overflow_add-count_entries-2
overflow_add-count_entries-2 c = omega (arith, c.count_entries.ensures.few, c.count_entries-2.ensures.few)

pub returns-then-count_entries-gt-MAX_SCHEMA_ENTRIES : goal.returns-then-count_entries-gt-MAX_SCHEMA_ENTRIES
returns-then-count_entries-gt-MAX_SCHEMA_ENTRIES c = too_many c.args.s.now _ c.schema_head.ensures c.in-Some.is c.args.field.now c.count_entries.ensures c.count_entries-2.ensures (omega arith)

pub overflow_add-result : goal.overflow_add-result
overflow_add-result c = let read = rw c.in-Some.is at c.schema_head.ensures in omega (arith, read.1, c.digits.ensures.1)

pub overflow_add-count : goal.overflow_add-count
overflow_add-count c = let read = rw c.in-Some.is at c.schema_head.ensures in omega (arith, read.1)

pub overflow_add-result-3 : goal.overflow_add-result-3
overflow_add-result-3 c = let read = rw c.in-Some.is at c.schema_head.ensures in omega (arith, read.1, c.digits-2.ensures.1)

pub returns : goal.returns
returns c = few-enough c.args.s.now _ c.schema_head.ensures c.in-Some.is c.args.field.now c.count_entries.ensures c.count_entries-2.ensures (omega arith) c.digits.ensures.0 c.digits-2.ensures.0
