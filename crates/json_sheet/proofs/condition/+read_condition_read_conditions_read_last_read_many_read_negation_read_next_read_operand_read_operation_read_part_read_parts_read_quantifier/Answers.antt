use Rattle.std.specs.Prelude.{Some, None}
use native.Mathlib.Omega.{arith}
use mathlib.Core.Path.{◌∙◌}
use mathlib.Core.List.{[]}
use lib.ListN.{drop}
use Rattle.sheet.specs.Operators as Operators
use Rattle.json_text.specs.BetweenAt.{MoreAt, EndAt}
use Rattle.json_text.proofs.Separating.{spaces-full}
use Rattle.json_rule.specs.Streamed.{streamed}
use Rattle.json_sheet.specs.Places.{operand_in}
use Rattle.json_sheet.specs.Quantified.{quantified, unread}
use Rattle.json_sheet.proofs.Siblings.{walking_start, walking-unread, walking-alone, walking-more, walking-end}
use Rattle.json_sheet.proofs.Operands.{is-negation, many_rest, many-flat, many-deep, bracket-flat, bracket-unopened, bracket-opened}
use Rattle.json_sheet.proofs.Conditions.{conditions-kind, many-empty, many-bad, many-given, operation-unnamed, operation-unread, operation-alone, operation-second, operation-given, no_operand, as_many, as-negation, as-exists, as-two, as-comparison, as-truthy, as-quantifier, condition-out, condition-flat, is-operation, is-literal}
use Rattle.json_sheet.proofs.Quantifying.{part-unnamed, part-other, over-unread, body-unread, bind-unread, part-over, part-bound, part_body, followed, not-followed, otherwise, three-unread, three-second, three_third, three-few, three-other, three-given, quantifier-flat, quantifier-deep}
use Prim.Native.Nat.{◌+◌, ◌-◌}
use Rattle.json_sheet.proofs.condition.+read_condition_read_conditions_read_last_read_many_read_negation_read_next_read_operand_read_operation_read_part_read_parts_read_quantifier.Goals as goal

pub read_condition-returns-then-s-at : goal.read_condition-returns-then-s-at
read_condition-returns-then-s-at t c = condition-out c.args.s.now c.args.at c.args.depth c.if-s-at.true

pub read_condition-returns-then-depth-eq0 : goal.read_condition-returns-then-depth-eq0
read_condition-returns-then-depth-eq0 t c = condition-flat c.args.s.now c.args.at c.args.depth c.if-s-at.false c.if-s-at-eq123.true c.if-depth-eq0.true

pub read_condition-read_operation-requires : goal.read_condition-read_operation-requires
read_condition-read_operation-requires t c = omega arith

pub read_condition-returns-then-s-at-eq123 : goal.read_condition-returns-then-s-at-eq123
read_condition-returns-then-s-at-eq123 t c = is-operation c.args.s.now c.args.at c.args.depth c.if-s-at.false c.read_operation.result _ _ _ c.if-s-at-eq123.true c.if-depth-eq0.false c.read_operation.ensures

pub read_condition-returns : goal.read_condition-returns
read_condition-returns t c = is-literal c.args.s.now c.args.at c.args.depth c.if-s-at.false c.read_literal.result _ _ _ c.if-s-at-eq123.false c.read_literal.ensures

pub read_conditions-loop-next-init : goal.read_conditions-loop-next-init
read_conditions-loop-next-init t c = walking_start _ _ _ _ _ _ _ _ c.args.s.now c.args.at c.args.out.now c.args.o (omega arith) c.requires.0 c.requires.1

pub read_conditions-shape_of-out-in_err-next : goal.read_conditions-shape_of-out-in_err-next
read_conditions-shape_of-out-in_err-next t c = c.read_condition.auto.out ∙ c.loop-next.invariant.len

pub read_conditions-returns-in_err-next : goal.read_conditions-returns-in_err-next
read_conditions-returns-in_err-next t c = rw c.from_residual.ensures (walking-unread _ _ _ _ _ _ _ _ (conditions-kind (streamed c.args.depth)) c.args.s.now c.args.at c.args.out.now c.loop-next.out c.args.o c.loop-next.i c.loop-next.e c.loop-next.n c.loop-next.invariant (rw c.in_err-next.was at c.read_condition.ensures))

pub read_conditions-overflow_add-n : goal.read_conditions-overflow_add-n
read_conditions-overflow_add-n t c = let g = rw c.in_ok-next.was at c.read_condition.ensures in omega (arith, c.loop-next.invariant.few, g.read.past, g.read.within)

pub read_conditions-read_separator-requires : goal.read_conditions-read_separator-requires
read_conditions-read_separator-requires t c = let g = rw c.in_ok-next.was at c.read_condition.ensures in g.read.within

pub read_conditions-loop-next-smaller : goal.read_conditions-loop-next-smaller
read_conditions-loop-next-smaller t c = let g = rw c.in_ok-next.was at c.read_condition.ensures in let m = rw c.in-More.is at (rw c.in_ok-place.was at c.read_separator.ensures) in omega (arith, g.read.past, m.past, m.within)

pub read_conditions-loop-next-preserved : goal.read_conditions-loop-next-preserved
read_conditions-loop-next-preserved t c = let g = rw c.in_ok-next.was at c.read_condition.ensures in walking-more _ _ _ _ _ _ _ _ (conditions-kind (streamed c.args.depth)) c.args.s.now c.args.at c.args.out.now c.loop-next.out c.args.o c.loop-next.i c.loop-next.e c.loop-next.n c.loop-next.invariant g.tree (omega arith) g.read g.lies (rw c.in-More.is at (rw c.in_ok-place.was at c.read_separator.ensures))

pub read_conditions-shape_of-out-in-End : goal.read_conditions-shape_of-out-in-End
read_conditions-shape_of-out-in-End t c = c.read_condition.auto.out ∙ c.loop-next.invariant.len

pub read_conditions-returns-in-End : goal.read_conditions-returns-in-End
read_conditions-returns-in-End t c = let g = rw c.in_ok-next.was at c.read_condition.ensures in walking-end _ _ _ _ _ _ _ _ (conditions-kind (streamed c.args.depth)) c.args.s.now c.args.at c.args.out.now c.loop-next.out c.args.o c.loop-next.i c.loop-next.e c.loop-next.n c.loop-next.invariant g.tree (omega arith) g.read g.lies (rw c.in-End.is at (rw c.in_ok-place.was at c.read_separator.ensures))

pub read_conditions-shape_of-out-in_err-place : goal.read_conditions-shape_of-out-in_err-place
read_conditions-shape_of-out-in_err-place t c = c.read_condition.auto.out ∙ c.loop-next.invariant.len

pub read_conditions-returns-in_err-place : goal.read_conditions-returns-in_err-place
read_conditions-returns-in_err-place t c = rw c.from_residual-in_err-place.ensures (let g = rw c.in_ok-next.was at c.read_condition.ensures in walking-alone _ _ _ _ _ _ _ _ (conditions-kind (streamed c.args.depth)) c.args.s.now c.args.at c.args.out.now c.loop-next.out c.args.o c.loop-next.i c.loop-next.e c.loop-next.n c.loop-next.invariant g.tree (omega arith) g.read g.lies (rw c.in_err-place.was at c.read_separator.ensures))

pub read_last-returns-in_err-kind : goal.read_last-returns-in_err-kind
read_last-returns-in_err-kind t c = rw c.from_residual.ensures (unread (rw c.in_err-kind.was at c.read_part.ensures))

pub read_last-read_separator-requires : goal.read_last-read_separator-requires
read_last-read_separator-requires t c = let g = (rw c.in_ok-kind.was at c.read_part.ensures) in g.read.within

pub read_last-returns-in-More : goal.read_last-returns-in-More
read_last-returns-in-More t c = otherwise (rw c.in_ok-kind.was at c.read_part.ensures) (MoreAt 0x7D) (rw c.in-More.is at (rw c.in_ok-next.was at c.read_separator.ensures))

pub read_last-returns-in-End : goal.read_last-returns-in-End
read_last-returns-in-End t c = followed (rw c.in_ok-kind.was at c.read_part.ensures) (EndAt 0x7D) (rw c.in-End.is at (rw c.in_ok-next.was at c.read_separator.ensures))

pub read_last-returns-in_err-next : goal.read_last-returns-in_err-next
read_last-returns-in_err-next t c = rw c.from_residual-in_err-next.ensures (not-followed (rw c.in_ok-kind.was at c.read_part.ensures) (MoreAt 0x7D) (rw c.in_err-next.was at c.read_separator.ensures))

pub read_many-returns-then-depth-eq0 : goal.read_many-returns-then-depth-eq0
read_many-returns-then-depth-eq0 t c = bracket-flat (operand_in Operators.many c.args.op c.args.depth) (many_rest c.args.op (c.args.depth - 1)) c.args.depth 0x5B (many-flat c.args.op c.args.depth) (many-deep c.args.op c.args.depth) c.args.s.now c.args.at c.if-depth-eq0.true

pub read_many-overflow_add-at : goal.read_many-overflow_add-at
read_many-overflow_add-at t c = let b = (rw c.if-starts_with.true at c.starts_with.ensures) in omega (arith, b.within)

pub read_many-behind_spaces-i-requires : goal.read_many-behind_spaces-i-requires
read_many-behind_spaces-i-requires t c = let b = (rw c.if-starts_with.true at c.starts_with.ensures) in b.within

pub read_many-returns-then-starts_with-2 : goal.read_many-returns-then-starts_with-2
read_many-returns-then-starts_with-2 t c = bracket-opened (operand_in Operators.many c.args.op c.args.depth) (many_rest c.args.op (c.args.depth - 1)) c.args.depth 0x5B (many-flat c.args.op c.args.depth) (many-deep c.args.op c.args.depth) c.args.s.now c.args.at (Some (_, _)) _ _ _ c.if-depth-eq0.false (rw c.if-starts_with.true at c.starts_with.ensures) (many-empty c.args.op (c.args.depth - 1) c.args.s.now (c.args.at + 1) c.behind_spaces-i.result c.behind_spaces-i.ensures (omega (arith, c.type_inv)) c.lay_operator-count.ensures c.lay-start.ensures (rw c.if-starts_with-2.true at c.starts_with-then-starts_with.ensures))

pub read_many-read_conditions-requires : goal.read_many-read_conditions-requires
read_many-read_conditions-requires t c = (omega arith, (c.behind_spaces-i.ensures.within, spaces-full (drop (c.args.at + 1) c.args.s.now) c.behind_spaces-i.ensures.skips))

pub read_many-returns-in_err-next : goal.read_many-returns-in_err-next
read_many-returns-in_err-next t c = rw c.from_residual.ensures (bracket-opened (operand_in Operators.many c.args.op c.args.depth) (many_rest c.args.op (c.args.depth - 1)) c.args.depth 0x5B (many-flat c.args.op c.args.depth) (many-deep c.args.op c.args.depth) c.args.s.now c.args.at None [] [] 0 c.if-depth-eq0.false (rw c.if-starts_with.true at c.starts_with.ensures) (many-bad c.args.op (c.args.depth - 1) c.args.s.now (c.args.at + 1) c.behind_spaces-i.result c.behind_spaces-i.ensures (rw c.if-starts_with-2.false at c.starts_with-then-starts_with.ensures) (rw c.in_err-next.was at c.read_conditions.ensures)))

pub read_many-returns-then-starts_with : goal.read_many-returns-then-starts_with
read_many-returns-then-starts_with t c = bracket-opened (operand_in Operators.many c.args.op c.args.depth) (many_rest c.args.op (c.args.depth - 1)) c.args.depth 0x5B (many-flat c.args.op c.args.depth) (many-deep c.args.op c.args.depth) c.args.s.now c.args.at (Some (_, _)) _ _ _ c.if-depth-eq0.false (rw c.if-starts_with.true at c.starts_with.ensures) (many-given c.args.op (c.args.depth - 1) c.args.s.now (c.args.at + 1) c.behind_spaces-i.result c.behind_spaces-i.ensures (omega (arith, c.type_inv)) c.lay_operator-count.ensures c.lay-start.ensures (rw c.if-starts_with-2.false at c.starts_with-then-starts_with.ensures) (rw c.in_ok-next.was at c.read_conditions.ensures) c.recount.ensures)

pub read_many-returns : goal.read_many-returns
read_many-returns t c = bracket-unopened (operand_in Operators.many c.args.op c.args.depth) (many_rest c.args.op (c.args.depth - 1)) c.args.depth 0x5B (many-flat c.args.op c.args.depth) (many-deep c.args.op c.args.depth) c.args.s.now c.args.at (rw c.if-starts_with.false at c.starts_with.ensures)

pub read_negation-returns : goal.read_negation-returns
read_negation-returns t c = is-negation c.args.depth c.args.s.now c.args.at c.read_condition.result _ _ _ _ _ (omega arith) c.lay_plain-e.ensures c.read_condition.ensures

pub read_next-returns-in_err-kind : goal.read_next-returns-in_err-kind
read_next-returns-in_err-kind t c = rw c.from_residual.ensures (unread (rw c.in_err-kind.was at c.read_part.ensures))

pub read_next-read_separator-requires : goal.read_next-read_separator-requires
read_next-read_separator-requires t c = let g = (rw c.in_ok-kind.was at c.read_part.ensures) in g.read.within

pub read_next-returns-in-More : goal.read_next-returns-in-More
read_next-returns-in-More t c = followed (rw c.in_ok-kind.was at c.read_part.ensures) (MoreAt 0x7D) (rw c.in-More.is at (rw c.in_ok-next.was at c.read_separator.ensures))

pub read_next-returns-in-End : goal.read_next-returns-in-End
read_next-returns-in-End t c = otherwise (rw c.in_ok-kind.was at c.read_part.ensures) (EndAt 0x7D) (rw c.in-End.is at (rw c.in_ok-next.was at c.read_separator.ensures))

pub read_next-returns-in_err-next : goal.read_next-returns-in_err-next
read_next-returns-in_err-next t c = rw c.from_residual-in_err-next.ensures (not-followed (rw c.in_ok-kind.was at c.read_part.ensures) (EndAt 0x7D) (rw c.in_err-next.was at c.read_separator.ensures))

pub read_operand-returns-then-op-le1 : goal.read_operand-returns-then-op-le1
read_operand-returns-then-op-le1 t c = no_operand c.args.op c.args.depth c.args.s.now c.args.at c.if-op-le1.true

pub read_operand-returns-then-op-le3 : goal.read_operand-returns-then-op-le3
read_operand-returns-then-op-le3 t c = as_many c.args.op c.args.depth c.args.s.now c.args.at c.read_many.result _ _ _ c.if-op-le1.false c.if-op-le3.true c.read_many.ensures

pub read_operand-returns-then-op-le4 : goal.read_operand-returns-then-op-le4
read_operand-returns-then-op-le4 t c = as-negation c.args.op c.args.depth c.args.s.now c.args.at c.read_negation.result _ _ _ c.if-op-le3.false c.if-op-le4.true c.read_negation.ensures

pub read_operand-returns-then-op-le5 : goal.read_operand-returns-then-op-le5
read_operand-returns-then-op-le5 t c = as-exists c.args.op c.args.depth c.args.s.now c.args.at c.read_one.result _ _ _ c.if-op-le4.false c.if-op-le5.true c.read_one.ensures

pub read_operand-returns-then-op-le17 : goal.read_operand-returns-then-op-le17
read_operand-returns-then-op-le17 t c = as-two c.args.op c.args.depth c.args.s.now c.args.at c.read_two.result _ _ _ c.if-op-le5.false c.if-op-le17.true c.read_two.ensures

pub read_operand-returns-then-op-le18 : goal.read_operand-returns-then-op-le18
read_operand-returns-then-op-le18 t c = as-comparison c.args.op c.args.depth c.args.s.now c.args.at c.read_comparison.result _ _ _ c.if-op-le17.false c.if-op-le18.true c.read_comparison.ensures

pub read_operand-returns-then-op-le19 : goal.read_operand-returns-then-op-le19
read_operand-returns-then-op-le19 t c = as-truthy c.args.op c.args.depth c.args.s.now c.args.at c.read_one-then-op-le19.result _ _ _ c.if-op-le18.false c.if-op-le19.true c.read_one-then-op-le19.ensures

pub read_operand-returns : goal.read_operand-returns
read_operand-returns t c = as-quantifier c.args.op c.args.depth c.args.s.now c.args.at c.read_quantifier.result _ _ _ c.if-op-le19.false c.read_quantifier.ensures

pub read_operation-returns-in_err-op : goal.read_operation-returns-in_err-op
read_operation-returns-in_err-op t c = rw c.from_residual.ensures (operation-unnamed c.args.depth c.behind_spaces-i.ensures (rw c.in_err-op.was at c.read_operator.ensures))

pub read_operation-returns-in_err-behind : goal.read_operation-returns-in_err-behind
read_operation-returns-in_err-behind t c = rw c.from_residual-in_err-behind.ensures (operation-unread c.args.depth c.behind_spaces-i.ensures (rw c.in_ok-op.was at c.read_operator.ensures) (rw c.in_err-behind.was at c.read_operand.ensures))

pub read_operation-read_separator-requires : goal.read_operation-read_separator-requires
read_operation-read_separator-requires t c = let g = (rw c.in_ok-behind.was at c.read_operand.ensures) in g.read.within

pub read_operation-returns-in-More : goal.read_operation-returns-in-More
read_operation-returns-in-More t c = operation-second c.args.depth c.behind_spaces-i.ensures (rw c.in_ok-op.was at c.read_operator.ensures) (rw c.in_ok-behind.was at c.read_operand.ensures) (rw c.in-More.is at (rw c.in_ok-j.was at c.read_separator.ensures))

pub read_operation-returns-in-End : goal.read_operation-returns-in-End
read_operation-returns-in-End t c = operation-given c.args.depth c.behind_spaces-i.ensures (rw c.in_ok-op.was at c.read_operator.ensures) (rw c.in_ok-behind.was at c.read_operand.ensures) (rw c.in-End.is at (rw c.in_ok-j.was at c.read_separator.ensures))

pub read_operation-returns-in_err-j : goal.read_operation-returns-in_err-j
read_operation-returns-in_err-j t c = rw c.from_residual-in_err-j.ensures (operation-alone c.args.depth c.behind_spaces-i.ensures (rw c.in_ok-op.was at c.read_operator.ensures) (rw c.in_ok-behind.was at c.read_operand.ensures) (rw c.in_err-j.was at c.read_separator.ensures))

pub read_part-returns-in_err-place : goal.read_part-returns-in_err-place
read_part-returns-in_err-place t c = rw c.from_residual.ensures (part-unnamed c.args.depth c.args.s.now c.args.at (rw c.in_err-place.was at c.read_place.ensures))

pub read_part-returns-in_err-behind : goal.read_part-returns-in_err-behind
read_part-returns-in_err-behind t c = rw c.from_residual-in_err-behind.ensures (over-unread c.args.op c.args.depth (rw c.in_ok-place.was at c.read_place.ensures) c.if-place-eq1.true (rw c.in_err-behind.was at c.read_value.ensures))

pub read_part-returns-then-place-eq1 : goal.read_part-returns-then-place-eq1
read_part-returns-then-place-eq1 t c = part-over c.args.op c.args.depth (rw c.in_ok-place.was at c.read_place.ensures) c.if-place-eq1.true (rw c.in_ok-behind.was at c.read_value.ensures)

pub read_part-returns-in_err-behind-2 : goal.read_part-returns-in_err-behind-2
read_part-returns-in_err-behind-2 t c = rw c.from_residual-in_err-behind-2.ensures (bind-unread c.args.op c.args.depth (rw c.in_ok-place.was at c.read_place.ensures) c.if-place-eq2.true (rw c.in_err-behind-2.was at c.read_bound.ensures))

pub read_part-returns-then-place-eq2 : goal.read_part-returns-then-place-eq2
read_part-returns-then-place-eq2 t c = part-bound c.args.op c.args.depth (rw c.in_ok-place.was at c.read_place.ensures) c.if-place-eq2.true (rw c.in_ok-behind-2.was at c.read_bound.ensures)

pub read_part-returns-in_err-behind-3 : goal.read_part-returns-in_err-behind-3
read_part-returns-in_err-behind-3 t c = rw c.from_residual-in_err-behind-3.ensures (body-unread c.args.op c.args.depth (rw c.in_ok-place.was at c.read_place.ensures) c.if-place-eq3.true (rw c.in_err-behind-3.was at c.read_condition.ensures))

pub read_part-returns-then-place-eq3 : goal.read_part-returns-then-place-eq3
read_part-returns-then-place-eq3 t c = part_body c.args.op c.args.depth (rw c.in_ok-place.was at c.read_place.ensures) c.if-place-eq3.true (rw c.in_ok-behind-3.was at c.read_condition.ensures)

pub read_part-returns : goal.read_part-returns
read_part-returns t c = part-other c.args.op c.args.depth (rw c.in_ok-place.was at c.read_place.ensures) c.if-place-eq1.false c.if-place-eq2.false c.if-place-eq3.false

pub read_parts-shape_of-out-in_err-a : goal.read_parts-shape_of-out-in_err-a
read_parts-shape_of-out-in_err-a t c = c.read_next.auto.out

pub read_parts-returns-in_err-a : goal.read_parts-returns-in_err-a
read_parts-returns-in_err-a t c = rw c.from_residual.ensures (three-unread c.args.op c.args.depth c.behind_spaces-i.ensures (rw c.in_err-a.was at c.read_next.ensures))

pub read_parts-shape_of-out-in_err-b : goal.read_parts-shape_of-out-in_err-b
read_parts-shape_of-out-in_err-b t c = c.read_next-2.auto.out ∙ c.read_next.auto.out

pub read_parts-returns-in_err-b : goal.read_parts-returns-in_err-b
read_parts-returns-in_err-b t c = rw c.from_residual-in_err-b.ensures (three-second c.args.op c.args.depth c.behind_spaces-i.ensures (rw c.in_ok-a.was at c.read_next.ensures) (rw c.in_err-b.was at c.read_next-2.ensures))

pub read_parts-shape_of-out-in_err-c : goal.read_parts-shape_of-out-in_err-c
read_parts-shape_of-out-in_err-c t c = c.read_last.auto.out ∙ c.swap.ensures.len ∙ c.read_next-2.auto.out ∙ c.read_next.auto.out

pub read_parts-returns-in_err-c : goal.read_parts-returns-in_err-c
read_parts-returns-in_err-c t c = rw c.from_residual-in_err-c.ensures (three_third c.args.op c.args.depth c.behind_spaces-i.ensures (rw c.in_ok-a.was at c.read_next.ensures) (rw c.in_ok-b.was at c.read_next-2.ensures) (rw c.in_err-c.was at c.read_last.ensures))

pub read_parts-overflow_add-a : goal.read_parts-overflow_add-a
read_parts-overflow_add-a t c = let few = three-few c.args.op c.args.depth c.behind_spaces-i.ensures (rw c.in_ok-a.was at c.read_next.ensures) (rw c.in_ok-b.was at c.read_next-2.ensures) (rw c.in_ok-c.was at c.read_last.ensures) in omega (arith, few.0, few.1, few.2)

pub read_parts-overflow_add-a-2 : goal.read_parts-overflow_add-a-2
read_parts-overflow_add-a-2 t c = let few = three-few c.args.op c.args.depth c.behind_spaces-i.ensures (rw c.in_ok-a.was at c.read_next.ensures) (rw c.in_ok-b.was at c.read_next-2.ensures) (rw c.in_ok-c.was at c.read_last.ensures) in omega (arith, few.0, few.1, few.2)

pub read_parts-shape_of-out-then-a-b-eq-ALL : goal.read_parts-shape_of-out-then-a-b-eq-ALL
read_parts-shape_of-out-then-a-b-eq-ALL t c = c.arrange.ensures.len ∙ c.read_last.auto.out ∙ c.swap.ensures.len ∙ c.read_next-2.auto.out ∙ c.read_next.auto.out

pub read_parts-returns-then-a-b-eq-ALL : goal.read_parts-returns-then-a-b-eq-ALL
read_parts-returns-then-a-b-eq-ALL t c = three-given c.args.op c.args.depth c.behind_spaces-i.ensures (rw c.in_ok-a.was at c.read_next.ensures) (rw c.in_ok-b.was at c.read_next-2.ensures) (rw c.in_ok-c.was at c.read_last.ensures) (omega (arith, c.type_inv)) c.if-a-b-eq-ALL.true c.middle_of.ensures c.swap.ensures c.arrange.ensures

pub read_parts-shape_of-out : goal.read_parts-shape_of-out
read_parts-shape_of-out t c = c.read_last.auto.out ∙ c.swap.ensures.len ∙ c.read_next-2.auto.out ∙ c.read_next.auto.out

pub read_parts-returns : goal.read_parts-returns
read_parts-returns t c = three-other c.args.op c.args.depth c.behind_spaces-i.ensures (rw c.in_ok-a.was at c.read_next.ensures) (rw c.in_ok-b.was at c.read_next-2.ensures) (rw c.in_ok-c.was at c.read_last.ensures) c.if-a-b-eq-ALL.false

pub read_quantifier-returns-then-depth-eq0 : goal.read_quantifier-returns-then-depth-eq0
read_quantifier-returns-then-depth-eq0 t c = bracket-flat (operand_in Operators.quantifier c.args.op c.args.depth) (quantified c.args.op (c.args.depth - 1)) c.args.depth 0x7B (quantifier-flat c.args.op c.args.depth) (quantifier-deep c.args.op c.args.depth) c.args.s.now c.args.at c.if-depth-eq0.true

pub read_quantifier-overflow_add-at : goal.read_quantifier-overflow_add-at
read_quantifier-overflow_add-at t c = let b = (rw c.if-starts_with.true at c.starts_with.ensures) in omega (arith, b.within)

pub read_quantifier-read_parts-requires : goal.read_quantifier-read_parts-requires
read_quantifier-read_parts-requires t c = (omega arith, let b = (rw c.if-starts_with.true at c.starts_with.ensures) in b.within)

pub read_quantifier-returns-then-starts_with : goal.read_quantifier-returns-then-starts_with
read_quantifier-returns-then-starts_with t c = bracket-opened (operand_in Operators.quantifier c.args.op c.args.depth) (quantified c.args.op (c.args.depth - 1)) c.args.depth 0x7B (quantifier-flat c.args.op c.args.depth) (quantifier-deep c.args.op c.args.depth) c.args.s.now c.args.at c.read_parts.result _ _ _ c.if-depth-eq0.false (rw c.if-starts_with.true at c.starts_with.ensures) c.read_parts.ensures

pub read_quantifier-returns : goal.read_quantifier-returns
read_quantifier-returns t c = bracket-unopened (operand_in Operators.quantifier c.args.op c.args.depth) (quantified c.args.op (c.args.depth - 1)) c.args.depth 0x7B (quantifier-flat c.args.op c.args.depth) (quantifier-deep c.args.op c.args.depth) c.args.s.now c.args.at (rw c.if-starts_with.false at c.starts_with.ensures)
