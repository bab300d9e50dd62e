-- `vectors::advance` tells whether a case of the buffer agrees, and leaves what is after it.
use Prim.Native.Nat.{◌+◌}
use native.Mathlib.Omega.{arith}
use mathlib.Core.Path.{refl}
use Rattle.vectors.proofs.advance.Goals as goal

pub overflow_add-result : goal.overflow_add-result
overflow_add-result g c =
    let r = rw c.in-Some.is at c.replay.ensures in
    omega (arith, r.lies.within, r.ends, c.in_ok-f.ensures.ok.within)

pub overflow_sub-result : goal.overflow_sub-result
overflow_sub-result g c =
    let r = rw c.in-Some.is at c.replay.ensures in
    omega (arith, r.lies.within, r.ends, c.in_ok-f.ensures.ok.within)

pub returns-clause-ok : goal.returns-clause-ok
returns-clause-ok g c =
    let r = rw c.in-Some.is at c.replay.ensures in
    let f = c.in_ok-f.f in
    record {
      start = f.start;
      end = f.start + f.len;
      size = _;
      replays = r;
      left = refl;
      ends = omega (arith, r.lies.within, r.ends);
      within = record { within = omega (arith, r.lies.within, r.ends, c.in_ok-f.ensures.ok.within) };
    }
