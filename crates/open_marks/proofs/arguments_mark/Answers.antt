-- `open_marks::arguments_mark` meets its contract.
use native.Mathlib.Omega.{arith}
use borrow.Author.Rules.{rules}
use Rattle.open_marks.proofs.HeadSteps.{arguments-uncounted, arguments-absent, arguments-present}
use Rattle.open_marks.proofs.arguments_mark.Goals as goal

pub returns-in_default : goal.returns-in_default
returns-in_default c = search (arguments-uncounted, rules)

pub returns-then-is_dashed : goal.returns-then-is_dashed
returns-then-is_dashed c =
    arguments-absent c.item.ensures
    c.in-Some.is c.in-Some.behind c.is_dashed.ensures c.if-is_dashed.true (omega arith)

pub overflow_add-result : goal.overflow_add-result
overflow_add-result c =
    let count = rw c.in-Some.is at c.item.ensures in
    omega (arith, count.0.within)

pub returns : goal.returns
returns c =
    arguments-present c.item.ensures
    c.in-Some.is c.in-Some.behind c.is_dashed.ensures c.if-is_dashed.false (omega arith)
    (omega arith)
