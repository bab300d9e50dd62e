use native.Mathlib.Omega.{arith}
use mathlib.Core.Path.{◌∙◌}
use lib.ListN.{drop}
use Rattle.json_text.specs.Grammar.{value}
use Rattle.json_text.proofs.Separating.{spaces-full}
use Rattle.json_sheet.proofs.Siblings.{walking_start, walking-unread, walking-alone, walking-more, walking-end}
use Rattle.json_sheet.proofs.Held.{elements-kind, members-kind, member-unread, member_is, array-empty, array-bad, array-given, object-empty, object-bad, object-given, value_out, array-flat, object-flat, is-array, is-object, is-scalar}
use Prim.Native.Nat.{◌-◌}
use Rattle.json_sheet.proofs.value.+read_array_read_elements_read_member_read_members_read_object_read_value.Goals as goal

pub read_array-returns-then-starts_with : goal.read_array-returns-then-starts_with
read_array-returns-then-starts_with t c = array-empty (value c.args.depth) c.args.s.now c.args.at c.behind_spaces-i.result c.behind_spaces-i.ensures (omega arith) c.lay-count.ensures c.lay-start.ensures (rw c.if-starts_with.true at c.starts_with.ensures)

pub read_array-read_elements-requires : goal.read_array-read_elements-requires
read_array-read_elements-requires t c = (omega arith, (c.behind_spaces-i.ensures.within, spaces-full (drop c.args.at c.args.s.now) c.behind_spaces-i.ensures.skips))

pub read_array-returns-in_err-next : goal.read_array-returns-in_err-next
read_array-returns-in_err-next t c = rw c.from_residual.ensures (array-bad (value c.args.depth) c.args.s.now c.args.at c.behind_spaces-i.result c.behind_spaces-i.ensures (rw c.if-starts_with.false at c.starts_with.ensures) (rw c.in_err-next.was at c.read_elements.ensures))

pub read_array-returns : goal.read_array-returns
read_array-returns t c = array-given (value c.args.depth) c.args.s.now c.args.at c.behind_spaces-i.result c.behind_spaces-i.ensures (omega (arith, c.type_inv)) c.lay-count.ensures c.lay-start.ensures (rw c.if-starts_with.false at c.starts_with.ensures) (rw c.in_ok-next.was at c.read_elements.ensures) c.recount.ensures

pub read_elements-loop-next-init : goal.read_elements-loop-next-init
read_elements-loop-next-init t c = walking_start _ _ _ _ _ _ _ _ c.args.s.now c.args.at c.args.out.now c.args.o (omega arith) c.requires.0 c.requires.1

pub read_elements-shape_of-out-in_err-next : goal.read_elements-shape_of-out-in_err-next
read_elements-shape_of-out-in_err-next t c = c.read_value.auto.out ∙ c.loop-next.invariant.len

pub read_elements-returns-in_err-next : goal.read_elements-returns-in_err-next
read_elements-returns-in_err-next t c = rw c.from_residual.ensures (walking-unread _ _ _ _ _ _ _ _ (elements-kind (value c.args.depth)) c.args.s.now c.args.at c.args.out.now c.loop-next.out c.args.o c.loop-next.i c.loop-next.e c.loop-next.n c.loop-next.invariant (rw c.in_err-next.was at c.read_value.ensures))

pub read_elements-overflow_add-n : goal.read_elements-overflow_add-n
read_elements-overflow_add-n t c = let g = rw c.in_ok-next.was at c.read_value.ensures in omega (arith, c.loop-next.invariant.few, g.read.past, g.read.within)

pub read_elements-read_separator-requires : goal.read_elements-read_separator-requires
read_elements-read_separator-requires t c = let g = rw c.in_ok-next.was at c.read_value.ensures in g.read.within

pub read_elements-loop-next-smaller : goal.read_elements-loop-next-smaller
read_elements-loop-next-smaller t c = let g = rw c.in_ok-next.was at c.read_value.ensures in let m = rw c.in-More.is at (rw c.in_ok-place.was at c.read_separator.ensures) in omega (arith, g.read.past, m.past, m.within)

pub read_elements-loop-next-preserved : goal.read_elements-loop-next-preserved
read_elements-loop-next-preserved t c = let g = rw c.in_ok-next.was at c.read_value.ensures in walking-more _ _ _ _ _ _ _ _ (elements-kind (value c.args.depth)) c.args.s.now c.args.at c.args.out.now c.loop-next.out c.args.o c.loop-next.i c.loop-next.e c.loop-next.n c.loop-next.invariant g.tree (omega arith) g.read g.lies (rw c.in-More.is at (rw c.in_ok-place.was at c.read_separator.ensures))

pub read_elements-shape_of-out-in-End : goal.read_elements-shape_of-out-in-End
read_elements-shape_of-out-in-End t c = c.read_value.auto.out ∙ c.loop-next.invariant.len

pub read_elements-returns-in-End : goal.read_elements-returns-in-End
read_elements-returns-in-End t c = let g = rw c.in_ok-next.was at c.read_value.ensures in walking-end _ _ _ _ _ _ _ _ (elements-kind (value c.args.depth)) c.args.s.now c.args.at c.args.out.now c.loop-next.out c.args.o c.loop-next.i c.loop-next.e c.loop-next.n c.loop-next.invariant g.tree (omega arith) g.read g.lies (rw c.in-End.is at (rw c.in_ok-place.was at c.read_separator.ensures))

pub read_elements-shape_of-out-in_err-place : goal.read_elements-shape_of-out-in_err-place
read_elements-shape_of-out-in_err-place t c = c.read_value.auto.out ∙ c.loop-next.invariant.len

pub read_elements-returns-in_err-place : goal.read_elements-returns-in_err-place
read_elements-returns-in_err-place t c = rw c.from_residual-in_err-place.ensures (let g = rw c.in_ok-next.was at c.read_value.ensures in walking-alone _ _ _ _ _ _ _ _ (elements-kind (value c.args.depth)) c.args.s.now c.args.at c.args.out.now c.loop-next.out c.args.o c.loop-next.i c.loop-next.e c.loop-next.n c.loop-next.invariant g.tree (omega arith) g.read g.lies (rw c.in_err-place.was at c.read_separator.ensures))

pub read_member-returns-in_err-len : goal.read_member-returns-in_err-len
read_member-returns-in_err-len t c = rw c.from_residual.ensures (member-unread (value c.args.depth) c.args.s.now c.args.at (rw c.in_err-len.was at c.read_key.ensures))

pub read_member-overflow_add-at : goal.read_member-overflow_add-at
read_member-overflow_add-at t c = let k = rw c.in_ok-len.was at c.read_key.ensures in omega (arith, k.read.past, k.read.within)

pub read_member-lay_headed-e-requires : goal.read_member-lay_headed-e-requires
read_member-lay_headed-e-requires t c = let k = rw c.in_ok-len.was at c.read_key.ensures in omega (arith, k.quoted.past, k.quoted.within)

pub read_member-returns : goal.read_member-returns
read_member-returns t c = member_is (value c.args.depth) c.args.s.now c.args.at _ _ c.args.out.now _ _ _ _ (omega arith) (rw c.in_ok-len.was at c.read_key.ensures) c.lay_headed-e.ensures c.read_value.result c.read_value.ensures

pub read_members-loop-next-init : goal.read_members-loop-next-init
read_members-loop-next-init t c = walking_start _ _ _ _ _ _ _ _ c.args.s.now c.args.at c.args.out.now c.args.o (omega arith) c.requires.0 c.requires.1

pub read_members-shape_of-out-in_err-next : goal.read_members-shape_of-out-in_err-next
read_members-shape_of-out-in_err-next t c = c.read_member.auto.out ∙ c.loop-next.invariant.len

pub read_members-returns-in_err-next : goal.read_members-returns-in_err-next
read_members-returns-in_err-next t c = rw c.from_residual.ensures (walking-unread _ _ _ _ _ _ _ _ (members-kind (value c.args.depth)) c.args.s.now c.args.at c.args.out.now c.loop-next.out c.args.o c.loop-next.i c.loop-next.e c.loop-next.n c.loop-next.invariant (rw c.in_err-next.was at c.read_member.ensures))

pub read_members-overflow_add-n : goal.read_members-overflow_add-n
read_members-overflow_add-n t c = let g = rw c.in_ok-next.was at c.read_member.ensures in omega (arith, c.loop-next.invariant.few, g.read.past, g.read.within)

pub read_members-read_separator-requires : goal.read_members-read_separator-requires
read_members-read_separator-requires t c = let g = rw c.in_ok-next.was at c.read_member.ensures in g.read.within

pub read_members-loop-next-smaller : goal.read_members-loop-next-smaller
read_members-loop-next-smaller t c = let g = rw c.in_ok-next.was at c.read_member.ensures in let m = rw c.in-More.is at (rw c.in_ok-place.was at c.read_separator.ensures) in omega (arith, g.read.past, m.past, m.within)

pub read_members-loop-next-preserved : goal.read_members-loop-next-preserved
read_members-loop-next-preserved t c = let g = rw c.in_ok-next.was at c.read_member.ensures in walking-more _ _ _ _ _ _ _ _ (members-kind (value c.args.depth)) c.args.s.now c.args.at c.args.out.now c.loop-next.out c.args.o c.loop-next.i c.loop-next.e c.loop-next.n c.loop-next.invariant g.member (omega arith) g.read g.lies (rw c.in-More.is at (rw c.in_ok-place.was at c.read_separator.ensures))

pub read_members-shape_of-out-in-End : goal.read_members-shape_of-out-in-End
read_members-shape_of-out-in-End t c = c.read_member.auto.out ∙ c.loop-next.invariant.len

pub read_members-returns-in-End : goal.read_members-returns-in-End
read_members-returns-in-End t c = let g = rw c.in_ok-next.was at c.read_member.ensures in walking-end _ _ _ _ _ _ _ _ (members-kind (value c.args.depth)) c.args.s.now c.args.at c.args.out.now c.loop-next.out c.args.o c.loop-next.i c.loop-next.e c.loop-next.n c.loop-next.invariant g.member (omega arith) g.read g.lies (rw c.in-End.is at (rw c.in_ok-place.was at c.read_separator.ensures))

pub read_members-shape_of-out-in_err-place : goal.read_members-shape_of-out-in_err-place
read_members-shape_of-out-in_err-place t c = c.read_member.auto.out ∙ c.loop-next.invariant.len

pub read_members-returns-in_err-place : goal.read_members-returns-in_err-place
read_members-returns-in_err-place t c = rw c.from_residual-in_err-place.ensures (let g = rw c.in_ok-next.was at c.read_member.ensures in walking-alone _ _ _ _ _ _ _ _ (members-kind (value c.args.depth)) c.args.s.now c.args.at c.args.out.now c.loop-next.out c.args.o c.loop-next.i c.loop-next.e c.loop-next.n c.loop-next.invariant g.member (omega arith) g.read g.lies (rw c.in_err-place.was at c.read_separator.ensures))

pub read_object-returns-then-starts_with : goal.read_object-returns-then-starts_with
read_object-returns-then-starts_with t c = object-empty (value c.args.depth) c.args.s.now c.args.at c.behind_spaces-i.result c.behind_spaces-i.ensures (omega arith) c.lay-count.ensures c.lay-start.ensures (rw c.if-starts_with.true at c.starts_with.ensures)

pub read_object-read_members-requires : goal.read_object-read_members-requires
read_object-read_members-requires t c = (omega arith, (c.behind_spaces-i.ensures.within, spaces-full (drop c.args.at c.args.s.now) c.behind_spaces-i.ensures.skips))

pub read_object-returns-in_err-next : goal.read_object-returns-in_err-next
read_object-returns-in_err-next t c = rw c.from_residual.ensures (object-bad (value c.args.depth) c.args.s.now c.args.at c.behind_spaces-i.result c.behind_spaces-i.ensures (rw c.if-starts_with.false at c.starts_with.ensures) (rw c.in_err-next.was at c.read_members.ensures))

pub read_object-returns : goal.read_object-returns
read_object-returns t c = object-given (value c.args.depth) c.args.s.now c.args.at c.behind_spaces-i.result c.behind_spaces-i.ensures (omega (arith, c.type_inv)) c.lay-count.ensures c.lay-start.ensures (rw c.if-starts_with.false at c.starts_with.ensures) (rw c.in_ok-next.was at c.read_members.ensures) c.recount.ensures

pub read_value-returns-then-s-at : goal.read_value-returns-then-s-at
read_value-returns-then-s-at t c = value_out c.args.s.now c.args.at c.args.depth c.if-s-at.true

pub read_value-returns-then-depth-eq0 : goal.read_value-returns-then-depth-eq0
read_value-returns-then-depth-eq0 t c = array-flat c.args.s.now c.args.at c.args.depth c.if-s-at.false c.if-b-eq91.true c.if-depth-eq0.true

pub read_value-read_array-requires : goal.read_value-read_array-requires
read_value-read_array-requires t c = omega arith

pub read_value-returns-then-b-eq91 : goal.read_value-returns-then-b-eq91
read_value-returns-then-b-eq91 t c = is-array c.args.s.now c.args.at c.args.depth c.if-s-at.false c.read_array.result _ _ _ c.if-b-eq91.true c.if-depth-eq0.false c.read_array.ensures

pub read_value-returns-then-depth-eq0-2 : goal.read_value-returns-then-depth-eq0-2
read_value-returns-then-depth-eq0-2 t c = object-flat c.args.s.now c.args.at c.args.depth c.if-s-at.false c.if-b-eq123.true c.if-depth-eq0-2.true

pub read_value-read_object-requires : goal.read_value-read_object-requires
read_value-read_object-requires t c = omega arith

pub read_value-returns-then-b-eq123 : goal.read_value-returns-then-b-eq123
read_value-returns-then-b-eq123 t c = is-object c.args.s.now c.args.at c.args.depth c.if-s-at.false c.read_object.result _ _ _ c.if-b-eq123.true c.if-depth-eq0-2.false c.read_object.ensures

pub read_value-returns : goal.read_value-returns
read_value-returns t c = is-scalar c.args.s.now c.args.at c.args.depth c.if-s-at.false c.read_scalar.result _ _ _ c.if-b-eq91.false c.if-b-eq123.false c.read_scalar.ensures
