use native.Mathlib.Omega.{arith}
use Prim.Native.Nat.{◌-◌}
use mathlib.Core.Bool.{true, false}
use mathlib.Core.Path.{refl}
use Rattle.json_keys.specs.TableLaws.{resting-start, rest-found, rest_end, rest-next}
use Rattle.json_sheet.proofs.keys.rest_differs.Goals as goal

pub loop-from-init : goal.loop-from-init
loop-from-init c = (c.requires.0, resting-start c.args.s.now c.args.heads.now c.args.links.now c.args.places.now c.args.from)

pub overflow_add-i : goal.overflow_add-i
overflow_add-i c = omega (arith, c.loop-from.invariant.0)

pub overflow_add-i-in-loop-from : goal.overflow_add-i-in-loop-from
overflow_add-i-in-loop-from c = omega (arith, c.loop-from.invariant.0)

pub bounds-heads-slot : goal.bounds-heads-slot
bounds-heads-slot c = omega (arith, c.slot_of-slot.ensures.small, c.requires.1.size)

pub overflow_cast-heads : goal.overflow_cast-heads
overflow_cast-heads c = omega (arith, c.shared_slice_known-in-loop-from-1.given c.slot_of-slot.result)

pub is_chained-requires : goal.is_chained-requires
is_chained-requires c = c.requires.1.falls c.slot_of-slot.result c.slot_of-slot.ensures.small

pub returns-then-is_chained : goal.returns-then-is_chained
returns-then-is_chained c = c.loop-from.invariant.1.onward false (rest-found c.args.s.now c.args.heads.now c.args.links.now c.args.places.now c.loop-from.i c.next_member-next.ensures c.slot_of-slot.ensures refl (rw c.if-is_chained.true at c.is_chained.ensures))

pub returns-then-next-eq0 : goal.returns-then-next-eq0
returns-then-next-eq0 c = c.loop-from.invariant.1.onward true (rest_end c.args.s.now c.args.heads.now c.args.links.now c.args.places.now c.loop-from.i c.next_member-next.ensures c.slot_of-slot.ensures refl (rw c.if-is_chained.false at c.is_chained.ensures) c.if-next-eq0.true)

pub loop-from-smaller : goal.loop-from-smaller
loop-from-smaller c = omega (arith, c.next_member-next.ensures.forward c.if-next-eq0.false, c.next_member-next.ensures.within)

pub loop-from-preserved : goal.loop-from-preserved
loop-from-preserved c = (c.next_member-next.ensures.within, record { onward = λ r k. c.loop-from.invariant.1.onward r (rest-next c.args.s.now c.args.heads.now c.args.links.now c.args.places.now c.loop-from.i c.next_member-next.ensures c.slot_of-slot.ensures refl (rw c.if-is_chained.false at c.is_chained.ensures) c.if-next-eq0.false r k) })
