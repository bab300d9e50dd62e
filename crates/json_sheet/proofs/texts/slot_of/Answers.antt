use native.Mathlib.Omega.{arith}
use Prim.Native.Nat.{◌-◌}
use Rattle.json_keys.specs.TextLaws.{stirs-end, stirs-bad, stirs-turn, stirred-below, slot_is}
use Rattle.json_text.specs.Encode.{utf8_of}
use Rattle.json_sheet.proofs.texts.slot_of.Goals as goal

pub loop-at-init : goal.loop-at-init
loop-at-init c = (λ r k. k, omega arith)

pub returns-then-starts_with : goal.returns-then-starts_with
returns-then-starts_with c =
    let l = c.loop-at in
    slot_is c.args.s.now c.args.at l.h l.invariant.1 (l.invariant.0 l.h (stirs-end c.args.s.now l.i l.h (rw c.if-starts_with.true at c.starts_with.ensures)))

pub returns-in_default : goal.returns-in_default
returns-in_default c =
    let l = c.loop-at in
    slot_is c.args.s.now c.args.at l.h l.invariant.1 (l.invariant.0 l.h (stirs-bad c.args.s.now l.i l.h (rw c.if-starts_with.false at c.starts_with.ensures) l.h (rw c.in_default.is at c.char.ensures)))

pub stir_point-h-requires : goal.stir_point-h-requires
stir_point-h-requires c = let r = rw c.in-Some.is at c.char.ensures in omega (arith, r.within)

pub loop-at-smaller : goal.loop-at-smaller
loop-at-smaller c = let r = rw c.in-Some.is at c.char.ensures in omega (arith, r.read.past, r.read.within)

pub loop-at-preserved : goal.loop-at-preserved
loop-at-preserved c =
    let l = c.loop-at in
    (λ r k. l.invariant.0 r (stirs-turn c.args.s.now l.i l.h (rw c.if-starts_with.false at c.starts_with.ensures) (rw c.in-Some.is at c.char.ensures) c.stir_point-h.ensures r k), stirred-below l.h (utf8_of _) l.invariant.1 c.stir_point-h.ensures)
