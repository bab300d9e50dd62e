use native.Mathlib.Omega.{arith}
use Prim.Native.Nat.{◌-◌}
use Rattle.text.proofs.End.{passed_none, passed-other, passed-refused, passed-white, passed-all}
use Rattle.text.proofs.end_of.Goals as goal

pub loop-at-init : goal.loop-at-init
loop-at-init c = passed_none c.args.s.now

pub decode_one-requires : goal.decode_one-requires
decode_one-requires c = tt

pub is_white_space-requires : goal.is_white_space-requires
is_white_space-requires c = tt

pub loop-at-smaller-then-is_white_space : goal.loop-at-smaller-then-is_white_space
loop-at-smaller-then-is_white_space c =
    let e = rw c.in-Some.is at c.decode_one.ensures in
    omega arith

pub loop-at-preserved-then-is_white_space : goal.loop-at-preserved-then-is_white_space
loop-at-preserved-then-is_white_space c =
    let e = rw c.in-Some.is at c.decode_one.ensures in
    passed-white c.args.s.now
    c.loop-at.at
    c.loop-at.end
    c.loop-at.invariant c.in-Some.next e.0
    e.1 e.2 c.is_white_space.ensures c.if-is_white_space.true

pub loop-at-smaller-else-is_white_space : goal.loop-at-smaller-else-is_white_space
loop-at-smaller-else-is_white_space c =
    let e = rw c.in-Some.is at c.decode_one.ensures in
    omega arith

pub loop-at-preserved-else-is_white_space : goal.loop-at-preserved-else-is_white_space
loop-at-preserved-else-is_white_space c =
    let e = rw c.in-Some.is at c.decode_one.ensures in
    passed-other c.args.s.now
    c.loop-at.at
    c.loop-at.end
    c.loop-at.invariant c.in-Some.next e.0
    e.2 c.is_white_space.ensures c.if-is_white_space.false

pub loop-at-preserved : goal.loop-at-preserved
loop-at-preserved c =
    let e = rw c.in-None.is at c.decode_one.ensures in
    passed-refused c.args.s.now c.loop-at.at
    c.loop-at.end c.loop-at.invariant
    c.loop-at-test.true e

pub returns : goal.returns
returns c =
    record {
      within = omega arith;
      front = passed-all c.args.s.now c.loop-at.at
          c.loop-at.end c.loop-at.invariant c.loop-at-test.false;
    }
