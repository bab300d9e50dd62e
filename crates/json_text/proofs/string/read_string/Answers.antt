use native.Mathlib.Omega.{arith}
use Prim.Native.Nat.{◌-◌}
use Rattle.json_text.proofs.Scanning.{scanned-first, scanned-turn, scanned-end, scanned-bad, scanned-out}
use Rattle.json_text.proofs.string.read_string.Goals as goal

pub overflow_sub-len : goal.overflow_sub-len
overflow_sub-len c = omega (arith, c.plain_end-i.ensures.forward)

pub loop-i-init : goal.loop-i-init
loop-i-init c = scanned-first c.args.s.now c.args.at _ c.requires c.plain_end-i.ensures

pub returns-then-s-i-eq34 : goal.returns-then-s-i-eq34
returns-then-s-i-eq34 c = scanned-end c.args.s.now c.args.at c.loop-i.i c.loop-i.len c.loop-i.invariant c.loop-i-test.true c.if-s-i-eq34.true

pub returns-in_err-c : goal.returns-in_err-c
returns-in_err-c c = rw c.from_residual.ensures (scanned-bad c.args.s.now c.args.at c.loop-i.i c.loop-i.len c.loop-i.invariant c.loop-i-test.true c.if-s-i-eq34.false (rw c.in_err-c.was at c.char.ensures))

pub plain_end-end-requires : goal.plain_end-end-requires
plain_end-end-requires c = (rw c.in_ok-c.was at c.char.ensures).read.within

pub overflow_add-len : goal.overflow_add-len
overflow_add-len c = let r = (rw c.in_ok-c.was at c.char.ensures) in omega (arith, r.size, r.read.within, c.loop-i.invariant.short, c.size_of.ensures)

pub overflow_sub-len-in-loop-i : goal.overflow_sub-len-in-loop-i
overflow_sub-len-in-loop-i c = omega (arith, c.plain_end-end.ensures.forward)

pub overflow_add-len-in-loop-i : goal.overflow_add-len-in-loop-i
overflow_add-len-in-loop-i c = let r = (rw c.in_ok-c.was at c.char.ensures) in omega (arith, r.size, r.read.within, c.loop-i.invariant.short, c.size_of.ensures, c.plain_end-end.ensures.forward, c.plain_end-end.ensures.within)

pub loop-i-smaller : goal.loop-i-smaller
loop-i-smaller c = let r = (rw c.in_ok-c.was at c.char.ensures) in omega (arith, r.read.past, c.loop-i-test.true, c.plain_end-end.ensures.forward, c.plain_end-end.ensures.within)

pub loop-i-preserved : goal.loop-i-preserved
loop-i-preserved c = scanned-turn c.args.s.now c.args.at c.loop-i.i c.loop-i.len c.loop-i.invariant c.loop-i-test.true c.if-s-i-eq34.false (rw c.in_ok-c.was at c.char.ensures) c.size_of.ensures c.plain_end-end.ensures

pub returns : goal.returns
returns c = scanned-out c.args.s.now c.args.at c.loop-i.i c.loop-i.len c.loop-i.invariant c.loop-i-test.false
