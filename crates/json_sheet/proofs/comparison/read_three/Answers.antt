-- `json_sheet::comparison::read_three` meets its contract.
use native.Mathlib.Omega.{arith}
use mathlib.Core.Path.{◌∙◌}
use Rattle.json_sheet.proofs.Comparing.{three-unread, three-second, three_third, three-few, three-other, three-given}
use Rattle.json_sheet.proofs.comparison.read_three.Goals as goal

pub shape_of-out-in_err-first : goal.shape_of-out-in_err-first
shape_of-out-in_err-first c = c.read_next.auto.out

pub returns-in_err-first : goal.returns-in_err-first
returns-in_err-first c = rw c.from_residual.ensures (three-unread c.args.depth c.behind_spaces-i.ensures (rw c.in_err-first.was at c.read_next.ensures))

pub shape_of-out-in_err-second : goal.shape_of-out-in_err-second
shape_of-out-in_err-second c = c.read_next-2.auto.out ∙ c.read_next.auto.out

pub returns-in_err-second : goal.returns-in_err-second
returns-in_err-second c = rw c.from_residual-in_err-second.ensures (three-second c.args.depth c.behind_spaces-i.ensures (rw c.in_ok-first.was at c.read_next.ensures) (rw c.in_err-second.was at c.read_next-2.ensures))

pub shape_of-out-in_err-third : goal.shape_of-out-in_err-third
shape_of-out-in_err-third c = c.read_last.auto.out ∙ c.read_next-2.auto.out ∙ c.read_next.auto.out

pub returns-in_err-third : goal.returns-in_err-third
returns-in_err-third c = rw c.from_residual-in_err-third.ensures (three_third c.args.depth c.behind_spaces-i.ensures (rw c.in_ok-first.was at c.read_next.ensures) (rw c.in_ok-second.was at c.read_next-2.ensures) (rw c.in_err-third.was at c.read_last.ensures))

pub overflow_add-first : goal.overflow_add-first
overflow_add-first c = let few = three-few c.args.depth c.behind_spaces-i.ensures (rw c.in_ok-first.was at c.read_next.ensures) (rw c.in_ok-second.was at c.read_next-2.ensures) (rw c.in_ok-third.was at c.read_last.ensures) in omega (arith, few.0, few.1, few.2)

pub overflow_add-first-2 : goal.overflow_add-first-2
overflow_add-first-2 c = let few = three-few c.args.depth c.behind_spaces-i.ensures (rw c.in_ok-first.was at c.read_next.ensures) (rw c.in_ok-second.was at c.read_next-2.ensures) (rw c.in_ok-third.was at c.read_last.ensures) in omega (arith, few.0, few.1, few.2)

pub overflow_add-result : goal.overflow_add-result
overflow_add-result c = let few = three-few c.args.depth c.behind_spaces-i.ensures (rw c.in_ok-first.was at c.read_next.ensures) (rw c.in_ok-second.was at c.read_next-2.ensures) (rw c.in_ok-third.was at c.read_last.ensures) in omega (arith, few.3, few.4, few.5)

pub overflow_add-result-then-first-second-eq-ALL : goal.overflow_add-result-then-first-second-eq-ALL
overflow_add-result-then-first-second-eq-ALL c = let few = three-few c.args.depth c.behind_spaces-i.ensures (rw c.in_ok-first.was at c.read_next.ensures) (rw c.in_ok-second.was at c.read_next-2.ensures) (rw c.in_ok-third.was at c.read_last.ensures) in omega (arith, few.3, few.4, few.5)

pub shape_of-out-then-first-second-eq-ALL : goal.shape_of-out-then-first-second-eq-ALL
shape_of-out-then-first-second-eq-ALL c = c.read_last.auto.out ∙ c.read_next-2.auto.out ∙ c.read_next.auto.out

pub returns-then-first-second-eq-ALL : goal.returns-then-first-second-eq-ALL
returns-then-first-second-eq-ALL c = three-given c.args.depth c.behind_spaces-i.ensures (rw c.in_ok-first.was at c.read_next.ensures) (rw c.in_ok-second.was at c.read_next-2.ensures) (rw c.in_ok-third.was at c.read_last.ensures) (omega (arith, c.type_inv)) (omega (arith, c.if-first-second-eq-ALL.true)) c.middle_of.ensures

pub shape_of-out : goal.shape_of-out
shape_of-out c = c.read_last.auto.out ∙ c.read_next-2.auto.out ∙ c.read_next.auto.out

pub returns : goal.returns
returns c = three-other c.args.depth c.behind_spaces-i.ensures (rw c.in_ok-first.was at c.read_next.ensures) (rw c.in_ok-second.was at c.read_next-2.ensures) (rw c.in_ok-third.was at c.read_last.ensures) (omega (arith, c.type_inv)) c.if-first-second-eq-ALL.false
