-- `open_marks::mark_place` meets its contract.
use native.Mathlib.Omega.{arith}
use borrow.Author.Rules.{rules}
use Rattle.open_marks.proofs.HeadSteps.{place-headless, place-arguments, place-record, place-field}
use Rattle.open_marks.proofs.mark_place.Goals as goal

pub returns-in_default : goal.returns-in_default
returns-in_default c = search (place-headless, rules)

pub returns-then-entry-eq0 : goal.returns-then-entry-eq0
returns-then-entry-eq0 c = place-arguments (omega arith) c.arguments_mark.ensures

pub returns-then-entry-eq1 : goal.returns-then-entry-eq1
returns-then-entry-eq1 c = place-record _ (omega arith) (omega arith)

pub returns : goal.returns
returns c = search (place-field, rules)
