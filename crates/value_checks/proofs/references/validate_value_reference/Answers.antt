-- `value_checks::references::validate_value_reference` meets its contract: only a string that is a reference is asked.
use borrow.Author.Rules.{rules}
use native.Mathlib.Omega.{arith}
use Rattle.value_checks.proofs.ReferenceSteps.{reference-long, reference-other, reference-none, reference-passes, reference-fails}
use Rattle.value_checks.proofs.references.validate_value_reference.Goals as goal

pub slice_bounds-validate_reference-count : goal.slice_bounds-validate_reference-count
slice_bounds-validate_reference-count c = let h = reference-long c.bytes_of-text.result.now (rw c.if-is_reference.true at c.is_reference.ensures) in omega arith

pub slice_bounds-validate_reference-start : goal.slice_bounds-validate_reference-start
slice_bounds-validate_reference-start c = let h = reference-long c.bytes_of-text.result.now (rw c.if-is_reference.true at c.is_reference.ensures) in search rules

pub slice_bounds-validate_reference-end : goal.slice_bounds-validate_reference-end
slice_bounds-validate_reference-end c = let h = reference-long c.bytes_of-text.result.now (rw c.if-is_reference.true at c.is_reference.ensures) in search rules

pub pass-requires : goal.pass-requires
pass-requires c = c.requires.0

pub returns-in_default : goal.returns-in_default
returns-in_default c = reference-passes c.start_of-at.ensures c.has_type.ensures c.if-has_type.true c.text_at.ensures c.bytes_of-text.ensures (rw c.if-is_reference.true at c.is_reference.ensures) c.validate_reference-found.ensures c.in_default.is c.pass.ensures

pub returns-then-is_reference : goal.returns-then-is_reference
returns-then-is_reference c = reference-fails c.start_of-at.ensures c.has_type.ensures c.if-has_type.true c.text_at.ensures c.bytes_of-text.ensures (rw c.if-is_reference.true at c.is_reference.ensures) c.validate_reference-found.ensures c.in-Err.is c.fail.ensures

pub returns-then-has_type : goal.returns-then-has_type
returns-then-has_type c = rw c.going.ensures (reference-none c.start_of-at.ensures c.has_type.ensures c.if-has_type.true c.text_at.ensures c.bytes_of-text.ensures (rw c.if-is_reference.false at c.is_reference.ensures))

pub returns : goal.returns
returns c = rw c.going-2.ensures (reference-other c.start_of-at.ensures c.has_type.ensures c.if-has_type.false)
