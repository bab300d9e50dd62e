use Prim.Native.Nat.{◌+◌, ◌-◌, ◌/◌}
use native.Mathlib.Omega.{arith}
use Rattle.schema.proofs.Halving.{narrowed_none, holder-past, narrowed-all, narrowed-lower, narrowed-upper, narrowed-found}
use Rattle.schema.proofs.lookup.lookup.Goals as goal

pub returns-then-first-gt-MAX_SLOTS : goal.returns-then-first-gt-MAX_SLOTS
returns-then-first-gt-MAX_SLOTS c =
    holder-past c.args.sheet.now c.args.words.now c.args.holder c.args.name.now (omega arith)

pub returns-then-first-count : goal.returns-then-first-count
returns-then-first-count c =
    holder-past c.args.sheet.now c.args.words.now c.args.holder c.args.name.now (omega arith)

pub loop-low-init : goal.loop-low-init
loop-low-init c =
    narrowed_none c.args.sheet.now c.args.words.now c.args.holder.first c.args.holder.count c.args.name.now

pub loop-low-preserved-in-Less : goal.loop-low-preserved-in-Less
loop-low-preserved-in-Less c =
    let q = rw (c.in-Less.is, c.bytes_of.ensures, c.name_of_slot-part.ensures) at c.compare.ensures in
    narrowed-lower c.args.sheet.now c.args.words.now c.args.holder.first c.args.holder.count c.args.name.now c.loop-low.low c.loop-low.high c.loop-low.invariant (c.loop-low.low + (c.loop-low.high - c.loop-low.low) / 2) (omega (arith, c.loop-low-test.true)) (omega (arith, c.loop-low-test.true)) q.before-is

pub loop-low-preserved : goal.loop-low-preserved
loop-low-preserved c =
    let q = rw (c.in-Greater.is, c.bytes_of.ensures, c.name_of_slot-part.ensures) at c.compare.ensures in
    narrowed-upper c.args.sheet.now c.args.words.now c.args.holder.first c.args.holder.count c.args.name.now c.loop-low.low c.loop-low.high c.loop-low.invariant (c.loop-low.low + (c.loop-low.high - c.loop-low.low) / 2) (omega (arith, c.loop-low-test.true)) (omega (arith, c.loop-low-test.true)) q.behind-is

pub returns-in-Equal : goal.returns-in-Equal
returns-in-Equal c =
    let q = rw (c.in-Equal.is, c.bytes_of.ensures, c.name_of_slot-part.ensures) at c.compare.ensures in
    narrowed-found c.args.sheet.now c.args.words.now c.args.holder.first c.args.holder.count c.args.name.now c.loop-low.low c.loop-low.high c.loop-low.invariant (c.loop-low.low + (c.loop-low.high - c.loop-low.low) / 2) (omega (arith, c.loop-low-test.true)) (omega (arith, c.loop-low-test.true)) c.args.holder.opened q.same-is

pub returns : goal.returns
returns c =
    narrowed-all c.args.sheet.now c.args.words.now c.args.holder.first c.args.holder.count c.args.name.now c.loop-low.low c.loop-low.high c.loop-low.invariant c.args.holder.opened c.loop-low-test.false
