use native.Mathlib.Omega.{arith}
use borrow.Author.Rules.{rules}
use Prim.Native.Nat.{◌-◌}
use Rattle.text.proofs.Passes.{start-again, start-stopped, start-refused, start-passed}
use Rattle.text.proofs.start_of.Goals as goal

pub decode_one-requires : goal.decode_one-requires
decode_one-requires c = tt

pub returns-in_default : goal.returns-in_default
returns-in_default c =
    let e = rw c.in_default.is at c.decode_one.ensures in
    record {
      within = search rules;
      rest = start-refused c.args.s.now
          c.loop-at.at c.loop-at.invariant.1 e;
    }

pub is_white_space-requires : goal.is_white_space-requires
is_white_space-requires c = tt

pub loop-at-smaller : goal.loop-at-smaller
loop-at-smaller c =
    let e = rw c.in-Some.is at c.decode_one.ensures in
    omega arith

pub loop-at-preserved : goal.loop-at-preserved
loop-at-preserved c =
    let e = rw c.in-Some.is at c.decode_one.ensures in (
      e.2,
      start-again c.args.s.now
          c.loop-at.at
          c.loop-at.invariant.1 c.in-Some.behind
          e.0 c.is_white_space.ensures c.if-is_white_space.true,
    )

pub returns-else-is_white_space : goal.returns-else-is_white_space
returns-else-is_white_space c =
    let e = rw c.in-Some.is at c.decode_one.ensures in
    record {
      within = search rules;
      rest = start-stopped
          c.args.s.now
          c.loop-at.at
          c.loop-at.invariant.1 c.in-Some.behind
          e.0 c.is_white_space.ensures c.if-is_white_space.false;
    }

pub returns : goal.returns
returns c =
    record {
      within = search rules;
      rest = start-passed c.args.s.now c.loop-at.at
          c.loop-at.invariant.1 c.loop-at-test.false;
    }
