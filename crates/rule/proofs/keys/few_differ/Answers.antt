use Prim.Native.Nat.{◌+◌, ◌-◌}
use native.Mathlib.Omega.{arith}
use mathlib.Core.Path.{◌≡◌}
use mathlib.Core.Bool.{true, false}
use Rattle.rule.proofs.SearchLaws.{twice-none, twice-unread, twice_found, twice-next}
use Rattle.rule.proofs.keys.few_differ.Goals as goal

pub loop-seen-init : goal.loop-seen-init
loop-seen-init c =
    let all : c.args.count - 0 ≡ c.args.count = omega arith in
    λ r twice. rw all at twice

pub returns-in_default : goal.returns-in_default
returns-in_default c = let a = c.args in c.loop-seen.invariant false (twice-unread a.s.now a.words.now c.loop-seen.i (a.count - c.loop-seen.seen) (omega arith) c.start_of-start.ensures (rw c.in_default.is at c.key_head.ensures))

pub overflow_sub-entry : goal.overflow_sub-entry
overflow_sub-entry c = let head = rw c.in-Some.is at c.key_head.ensures in omega (arith, head.past)

pub returns-then-stands_among : goal.returns-then-stands_among
returns-then-stands_among c =
    let a = c.args in
    let head = rw c.in-Some.is at c.key_head.ensures in
    c.loop-seen.invariant false (twice_found a.s.now a.words.now c.loop-seen.i (a.count - c.loop-seen.seen) (omega arith) c.start_of-start.ensures head c.end_of-i.ensures (rw c.if-stands_among.true at c.stands_among.ensures))

pub loop-seen-preserved : goal.loop-seen-preserved
loop-seen-preserved c =
    let a = c.args in
    let head = rw c.in-Some.is at c.key_head.ensures in
    let one : a.count - c.loop-seen.seen - 1 ≡ a.count - (c.loop-seen.seen + 1) = omega arith in
    λ r twice. c.loop-seen.invariant r (twice-next a.s.now a.words.now c.loop-seen.i (a.count - c.loop-seen.seen) (omega arith) c.start_of-start.ensures head c.end_of-i.ensures (rw c.if-stands_among.false at c.stands_among.ensures) (rw one twice))

pub returns : goal.returns
returns c = let a = c.args in c.loop-seen.invariant true (twice-none a.s.now a.words.now c.loop-seen.i (a.count - c.loop-seen.seen) (omega arith))
