use native.Mathlib.Omega.{arith}
use Prim.Native.Nat.{◌-◌}
use mathlib.Core.Path.{◌∙◌}
use Rattle.json_text.proofs.Laying.{laying-start, laying-out, laying-end, laying-bad, laying-turn, laying-plain}
use Rattle.json_text.proofs.unescape.lay_text.Goals as goal

pub loop-i-init : goal.loop-i-init
loop-i-init c = laying-start c.args.s.now c.args.at c.args.out.now c.args.o c.requires (omega arith)

pub slice_bounds-lay-count : goal.slice_bounds-lay-count
slice_bounds-lay-count c = omega (arith, c.plain_end-end.ensures.forward)

pub slice_bounds-lay-end : goal.slice_bounds-lay-end
slice_bounds-lay-end c = omega (arith, c.plain_end-end.ensures.within)

pub shape_of-out-then-s-end : goal.shape_of-out-then-s-end
shape_of-out-then-s-end c = c.lay-p.ensures.len ∙ c.loop-i.invariant.len

pub returns-then-s-end : goal.returns-then-s-end
returns-then-s-end c = laying-out c.args.s.now c.args.at c.args.out.now _ c.args.o _ _
    (laying-plain c.args.s.now c.args.at c.args.out.now c.loop-i.out c.args.o c.loop-i.i c.loop-i.e (omega arith) c.loop-i.invariant c.plain_end-end.ensures c.lay-p.ensures)
    c.if-s-end.true

pub shape_of-out-then-s-end-eq34 : goal.shape_of-out-then-s-end-eq34
shape_of-out-then-s-end-eq34 c = c.lay-p.ensures.len ∙ c.loop-i.invariant.len

pub returns-then-s-end-eq34 : goal.returns-then-s-end-eq34
returns-then-s-end-eq34 c = laying-end c.args.s.now c.args.at c.args.out.now _ c.args.o _ _
    (laying-plain c.args.s.now c.args.at c.args.out.now c.loop-i.out c.args.o c.loop-i.i c.loop-i.e (omega arith) c.loop-i.invariant c.plain_end-end.ensures c.lay-p.ensures)
    (omega (arith, c.if-s-end.false)) c.if-s-end-eq34.true

pub shape_of-out-in_default : goal.shape_of-out-in_default
shape_of-out-in_default c = c.lay-p.ensures.len ∙ c.loop-i.invariant.len

pub returns-in_default : goal.returns-in_default
returns-in_default c = laying-bad c.args.s.now c.args.at c.args.out.now _ c.args.o _ _
    (laying-plain c.args.s.now c.args.at c.args.out.now c.loop-i.out c.args.o c.loop-i.i c.loop-i.e (omega arith) c.loop-i.invariant c.plain_end-end.ensures c.lay-p.ensures)
    (omega (arith, c.if-s-end.false)) c.if-s-end-eq34.false (rw c.in_default.is at c.char.ensures)

pub lay_point-e-requires : goal.lay_point-e-requires
lay_point-e-requires c = let r = rw c.in-Some.is at c.char.ensures in omega (arith, r.within)

pub loop-i-smaller : goal.loop-i-smaller
loop-i-smaller c = let r = rw c.in-Some.is at c.char.ensures in omega (arith, r.read.past, r.read.within, c.plain_end-end.ensures.forward, c.loop-i-test.true)

pub loop-i-preserved : goal.loop-i-preserved
loop-i-preserved c =
    let r = rw c.in-Some.is at c.char.ensures in
    laying-turn c.args.s.now c.args.at c.args.out.now _ c.args.o _ _
    (laying-plain c.args.s.now c.args.at c.args.out.now c.loop-i.out c.args.o c.loop-i.i c.loop-i.e (omega arith) c.loop-i.invariant c.plain_end-end.ensures c.lay-p.ensures)
    (omega (arith, c.if-s-end.false)) c.if-s-end-eq34.false (omega arith) r c.lay_point-e.ensures

pub shape_of-out : goal.shape_of-out
shape_of-out c = c.loop-i.invariant.len

pub returns : goal.returns
returns c = laying-out c.args.s.now c.args.at c.args.out.now c.loop-i.out c.args.o c.loop-i.i c.loop-i.e c.loop-i.invariant c.loop-i-test.false
