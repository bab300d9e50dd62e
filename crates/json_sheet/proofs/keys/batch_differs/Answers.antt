use native.Mathlib.Omega.{arith}
use mathlib.Core.Path.{refl, sym, ◌∙◌}
use Rattle.json_keys.specs.TableLaws.{sofar-begin, sofar-falls, sofar-ready, sofar-found, sofar-end, sofar-next, sofar-rest, sofar-again}
use Rattle.json_sheet.proofs.keys.batch_differs.Goals as goal

pub loop-n-init : goal.loop-n-init
loop-n-init c = sofar-begin c.args.s.now c.args.links.now c.args.places.now c.args.from c.requires.0 c.requires.1 c.requires.2

pub overflow_add-i : goal.overflow_add-i
overflow_add-i c = omega (arith, c.loop-n.invariant.within)

pub bounds-heads-slot : goal.bounds-heads-slot
bounds-heads-slot c = omega (arith, c.slot_of-slot.ensures.small)

pub overflow_add-i-in-loop-n : goal.overflow_add-i-in-loop-n
overflow_add-i-in-loop-n c = omega (arith, c.loop-n.invariant.within)

pub overflow_cast-head : goal.overflow_cast-head
overflow_cast-head c = omega (arith, c.loop-n.invariant.low c.slot_of-slot.result, c.loop-n.invariant.room)

pub is_chained-requires : goal.is_chained-requires
is_chained-requires c = sofar-falls c.loop-n.invariant c.slot_of-slot.result refl

pub shape_of-links-then-is_chained : goal.shape_of-links-then-is_chained
shape_of-links-then-is_chained c = c.loop-n.invariant.linked ∙ sym c.requires.1

pub shape_of-places-then-is_chained : goal.shape_of-places-then-is_chained
shape_of-places-then-is_chained c = c.loop-n.invariant.placed ∙ sym c.requires.2

pub returns-then-is_chained : goal.returns-then-is_chained
returns-then-is_chained c = sofar-found c.loop-n.invariant c.next_member-next.ensures c.slot_of-slot.ensures refl (rw c.if-is_chained.true at c.is_chained.ensures)

pub shape_of-links-then-next-eq0 : goal.shape_of-links-then-next-eq0
shape_of-links-then-next-eq0 c = c.loop-n.invariant.linked ∙ sym c.requires.1

pub shape_of-places-then-next-eq0 : goal.shape_of-places-then-next-eq0
shape_of-places-then-next-eq0 c = c.loop-n.invariant.placed ∙ sym c.requires.2

pub returns-then-next-eq0 : goal.returns-then-next-eq0
returns-then-next-eq0 c = sofar-end c.loop-n.invariant c.next_member-next.ensures c.slot_of-slot.ensures refl (rw c.if-is_chained.false at c.is_chained.ensures) c.if-next-eq0.true

pub bounds-links-n : goal.bounds-links-n
bounds-links-n c = omega (arith, c.loop-n.invariant.linked)

pub overflow_add-places : goal.overflow_add-places
overflow_add-places c = omega (arith, c.loop-n.invariant.within)

pub bounds-places-n : goal.bounds-places-n
bounds-places-n c = omega (arith, c.loop-n.invariant.placed)

pub bounds-heads-slot-in-loop-n : goal.bounds-heads-slot-in-loop-n
bounds-heads-slot-in-loop-n c = omega (arith, c.slot_of-slot.ensures.small)

pub loop-n-preserved : goal.loop-n-preserved
loop-n-preserved c = sofar-next c.loop-n.invariant c.next_member-next.ensures c.slot_of-slot.ensures refl (rw c.if-is_chained.false at c.is_chained.ensures) refl (omega arith) c.if-next-eq0.false

pub rest_differs-requires : goal.rest_differs-requires
rest_differs-requires c = (c.loop-n.invariant.within, sofar-ready c.loop-n.invariant)

pub shape_of-links-then-rest_differs : goal.shape_of-links-then-rest_differs
shape_of-links-then-rest_differs c = c.loop-n.invariant.linked ∙ sym c.requires.1

pub shape_of-places-then-rest_differs : goal.shape_of-places-then-rest_differs
shape_of-places-then-rest_differs c = c.loop-n.invariant.placed ∙ sym c.requires.2

pub returns-then-rest_differs : goal.returns-then-rest_differs
returns-then-rest_differs c = sofar-rest c.loop-n.invariant (omega arith) (rw c.if-rest_differs.true at c.rest_differs.ensures)

pub shape_of-links : goal.shape_of-links
shape_of-links c = c.loop-n.invariant.linked ∙ sym c.requires.1

pub shape_of-places : goal.shape_of-places
shape_of-places c = c.loop-n.invariant.placed ∙ sym c.requires.2

pub returns : goal.returns
returns c = sofar-again c.loop-n.invariant (omega arith) (rw c.if-rest_differs.false at c.rest_differs.ensures)
