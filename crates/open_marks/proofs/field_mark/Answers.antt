use native.Mathlib.Omega.{arith}
use borrow.Author.Rules.{rules}
use Rattle.open_marks.proofs.FieldSteps.{sought-start, sought-unread, sought-more, sought-one, sought-two}
use Rattle.open_marks.proofs.field_mark.Goals as goal

pub loop-init : goal.loop-init
loop-init c = sought-start (omega arith) (omega arith)

pub returns-in_default : goal.returns-in_default
returns-in_default c = search (sought-unread, rules)

pub loop-preserved : goal.loop-preserved
loop-preserved c =
    sought-more c.loop.invariant c.known_field.ensures
    c.in-Some.is (omega arith) (omega arith)

pub returns-in_default-known_field : goal.returns-in_default-known_field
returns-in_default-known_field c = search (sought-unread, rules)

pub overflow_add-result : goal.overflow_add-result
overflow_add-result c =
    let known = rw c.in-Some-known_field.is at c.known_field-2.ensures in
    omega (arith, known.past, known.within)

pub overflow_add-result-else-head-lt10 : goal.overflow_add-result-else-head-lt10
overflow_add-result-else-head-lt10 c =
    let known = rw c.in-Some-known_field.is at c.known_field-2.ensures in
    omega (arith, known.past, known.within)

pub returns-then-head-lt10 : goal.returns-then-head-lt10
returns-then-head-lt10 c =
    sought-one c.loop.invariant
    c.known_field-2.ensures c.in-Some-known_field.is
    (omega arith) (omega arith) (omega arith)

pub returns-else-head-lt10 : goal.returns-else-head-lt10
returns-else-head-lt10 c =
    sought-two c.loop.invariant
    c.known_field-2.ensures c.in-Some-known_field.is
    (omega arith) (omega arith) (omega arith)
