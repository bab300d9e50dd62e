use native.Mathlib.Omega.{arith}
use Prim.Native.Nat.{◌-◌}
use mathlib.Core.Bool.{true, false}
use mathlib.Core.Path.{sym, ◌∙◌}
use Rattle.json_keys.specs.TableLaws.{one_key}
use Rattle.json_sheet.proofs.NextKeys.{object-empty, object-held}
use Rattle.json_sheet.proofs.keys.object_differs.Goals as goal

pub behind_spaces-i-requires : goal.behind_spaces-i-requires
behind_spaces-i-requires c = c.requires.0

pub returns-then-starts_with : goal.returns-then-starts_with
returns-then-starts_with c = object-empty c.args.s.now c.args.at c.behind_spaces-i.ensures (rw c.if-starts_with.true at c.starts_with.ensures)

pub returns-then-next_member-eq0 : goal.returns-then-next_member-eq0
returns-then-next_member-eq0 c = object-held c.args.s.now c.args.at c.behind_spaces-i.ensures (rw c.if-starts_with.false at c.starts_with.ensures) true (one_key c.next_member.ensures c.if-next_member-eq0.true)

pub loop-next-init : goal.loop-next-init
loop-next-init c = (c.requires.1, c.requires.2, c.behind_spaces-i.ensures.within, λ r k. object-held c.args.s.now c.args.at c.behind_spaces-i.ensures (rw c.if-starts_with.false at c.starts_with.ensures) r k)

pub batch_differs-requires : goal.batch_differs-requires
batch_differs-requires c = (c.loop-next.invariant.2, c.loop-next.invariant.0, c.loop-next.invariant.1)

pub shape_of-links-in_default : goal.shape_of-links-in_default
shape_of-links-in_default c = c.batch_differs.auto.links ∙ c.loop-next.invariant.0 ∙ sym c.requires.1

pub shape_of-places-in_default : goal.shape_of-places-in_default
shape_of-places-in_default c = c.batch_differs.auto.places ∙ c.loop-next.invariant.1 ∙ sym c.requires.2

pub returns-in_default : goal.returns-in_default
returns-in_default c = c.loop-next.invariant.3 false (rw c.in_default.is at c.batch_differs.ensures)

pub shape_of-links-then-next-eq0 : goal.shape_of-links-then-next-eq0
shape_of-links-then-next-eq0 c = c.batch_differs.auto.links ∙ c.loop-next.invariant.0 ∙ sym c.requires.1

pub shape_of-places-then-next-eq0 : goal.shape_of-places-then-next-eq0
shape_of-places-then-next-eq0 c = c.batch_differs.auto.places ∙ c.loop-next.invariant.1 ∙ sym c.requires.2

pub returns-then-next-eq0 : goal.returns-then-next-eq0
returns-then-next-eq0 c = let o = rw c.in-Some.is at c.batch_differs.ensures in c.loop-next.invariant.3 true (o.ended c.if-next-eq0.true)

pub loop-next-smaller : goal.loop-next-smaller
loop-next-smaller c = let o = rw c.in-Some.is at c.batch_differs.ensures in omega (arith, o.forward c.if-next-eq0.false, o.within)

pub loop-next-preserved : goal.loop-next-preserved
loop-next-preserved c =
    let o = rw c.in-Some.is at c.batch_differs.ensures in
    (c.batch_differs.auto.links ∙ c.loop-next.invariant.0, c.batch_differs.auto.places ∙ c.loop-next.invariant.1, o.within, λ r k. c.loop-next.invariant.3 r (o.more c.if-next-eq0.false r k))
