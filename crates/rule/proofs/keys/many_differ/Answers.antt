use native.Mathlib.Omega.{arith}
use Prim.Native.Nat.{◌+◌, ◌-◌}
use mathlib.Core.Path.{◌≡◌, refl}
use Rattle.rule.proofs.TableLaws.{sofar-begin, sofar-end, sofar-unread, sofar-falls, sofar-found, sofar-next}
use Rattle.rule.proofs.keys.many_differ.Goals as goal

pub loop-init : goal.loop-init
loop-init c =
    let a = c.args in
    let all : a.count - 0 ≡ a.count = omega arith in
    rw all (sofar-begin a.s.now a.words.now a.first a.count c.requires)

pub returns-in_default : goal.returns-in_default
returns-in_default c = sofar-unread c.loop.invariant (omega arith) c.start_of-start.ensures (rw c.in_default.is at c.key_head.ensures)

pub is_further-requires : goal.is_further-requires
is_further-requires c = c.loop.invariant.within

pub overflow_sub-entry : goal.overflow_sub-entry
overflow_sub-entry c = let head = rw c.in-Some.is at c.key_head.ensures in omega (arith, head.past)

pub bounds-heads-slot : goal.bounds-heads-slot
bounds-heads-slot c = omega (arith, c.slot_of-slot.ensures.1)

pub overflow_cast-heads : goal.overflow_cast-heads
overflow_cast-heads c = let t = c.loop.invariant in omega (arith, (sofar-falls t c.slot_of-slot.result c.slot_of-slot.ensures.1 refl).room, t.table.links-length)

pub is_chained-requires : goal.is_chained-requires
is_chained-requires c = sofar-falls c.loop.invariant c.slot_of-slot.result c.slot_of-slot.ensures.1 refl

pub returns-then-is_chained : goal.returns-then-is_chained
returns-then-is_chained c =
    let head = rw c.in-Some.is at c.key_head.ensures in
    let slot = rw c.bytes_of.ensures at c.slot_of-slot.ensures.0 in
    sofar-found c.loop.invariant (omega arith) c.start_of-start.ensures head slot c.slot_of-slot.ensures.1 refl (rw c.if-is_chained.true at c.is_chained.ensures)

pub bounds-heads-slot-in-loop : goal.bounds-heads-slot-in-loop
bounds-heads-slot-in-loop c = omega (arith, c.slot_of-slot.ensures.1)

pub bounds-links-i : goal.bounds-links-i
bounds-links-i c = let further = c.is_further.ensures c.if-not-is_further.false in omega (arith, further.0, further.1)

pub overflow_add-heads : goal.overflow_add-heads
overflow_add-heads c = let further = c.is_further.ensures c.if-not-is_further.false in omega (arith, further.0, further.1)

pub overflow_cast-heads-in-loop : goal.overflow_cast-heads-in-loop
overflow_cast-heads-in-loop c = let further = c.is_further.ensures c.if-not-is_further.false in omega (arith, further.0, further.1)

pub bounds-heads-slot-in-loop-2 : goal.bounds-heads-slot-in-loop-2
bounds-heads-slot-in-loop-2 c = omega (arith, c.slot_of-slot.ensures.1)

pub loop-preserved : goal.loop-preserved
loop-preserved c =
    let head = rw c.in-Some.is at c.key_head.ensures in
    let slot = rw c.bytes_of.ensures at c.slot_of-slot.ensures.0 in
    let one : c.args.count - c.loop.counter - 1 ≡ c.args.count - (c.loop.counter + 1) = omega arith in
    rw one at (sofar-next c.loop.invariant (omega arith) c.start_of-start.ensures head slot c.slot_of-slot.ensures.1 refl c.end_of-next.ensures (c.is_further.ensures c.if-not-is_further.false) refl (rw c.if-is_chained.false at c.is_chained.ensures))

pub returns : goal.returns
returns c = sofar-end c.loop.invariant (omega arith)
