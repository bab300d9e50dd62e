use native.Mathlib.Omega.{arith}
use Prim.Native.Nat.{◌-◌}
use mathlib.Core.Bool.{false}
use Rattle.json_keys.specs.TextLaws.{same_end, same-short, same-bad, same_none, same-other, same_turn}
use Rattle.json_sheet.proofs.texts.same_text.Goals as goal

pub loop-a-init : goal.loop-a-init
loop-a-init c = λ r k. k

pub returns-then-starts_with : goal.returns-then-starts_with
returns-then-starts_with c =
    let l = c.loop-a in
    l.invariant _ (same_end c.args.s.now l.i l.j (rw c.if-starts_with.true at c.starts_with.ensures) _ c.starts_with-then-starts_with.ensures)

pub returns-then-starts_with-2 : goal.returns-then-starts_with-2
returns-then-starts_with-2 c =
    let l = c.loop-a in
    l.invariant false (same-short c.args.s.now l.i l.j (rw c.if-starts_with.false at c.starts_with.ensures) (rw c.if-starts_with-2.true at c.starts_with-in-loop-a.ensures))

pub returns-in_default : goal.returns-in_default
returns-in_default c =
    let l = c.loop-a in
    l.invariant false (same-bad c.args.s.now l.i l.j (rw c.if-starts_with.false at c.starts_with.ensures) (rw c.in_default.is at c.char.ensures))

pub returns-in_default-char : goal.returns-in_default-char
returns-in_default-char c =
    let l = c.loop-a in
    l.invariant false (same_none c.args.s.now l.i l.j (rw c.if-starts_with.false at c.starts_with.ensures) (rw c.if-starts_with-2.false at c.starts_with-in-loop-a.ensures) (rw c.in_default-char.is at c.char-in-loop-a.ensures))

pub returns-then-c-d : goal.returns-then-c-d
returns-then-c-d c =
    let l = c.loop-a in
    l.invariant false (same-other c.args.s.now l.i l.j (rw c.if-starts_with.false at c.starts_with.ensures) (rw c.if-starts_with-2.false at c.starts_with-in-loop-a.ensures) (rw c.in-Some.is at c.char.ensures) (rw c.in-Some-char.is at c.char-in-loop-a.ensures) (λ e. omega (arith, c.if-c-d.true, e)))

pub loop-a-smaller : goal.loop-a-smaller
loop-a-smaller c = let r = rw c.in-Some.is at c.char.ensures in omega (arith, r.read.past, r.read.within)

pub loop-a-preserved : goal.loop-a-preserved
loop-a-preserved c =
    let l = c.loop-a in
    λ r k. l.invariant r (same_turn c.args.s.now l.i l.j (rw c.if-starts_with.false at c.starts_with.ensures) (rw c.if-starts_with-2.false at c.starts_with-in-loop-a.ensures) (rw c.in-Some.is at c.char.ensures) (rw c.in-Some-char.is at c.char-in-loop-a.ensures) (omega (arith, c.if-c-d.false)) k)
