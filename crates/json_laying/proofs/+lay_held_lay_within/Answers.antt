use native.Mathlib.Omega.{arith}
use Rattle.json_laying.proofs.Laying.{leads-start, leads-more, array-closed, object-closed, empty-lays, unread-lays, constant-lays, number-lays, string-lays, array-lays, object-lays}
use mathlib.Core.Path.{◌∙◌}
use Rattle.sheet.specs.Places.{value_of}
use Rattle.json_laying.proofs.+lay_held_lay_within.Goals as goal

pub lay_held-loop-j-init : goal.lay_held-loop-j-init
lay_held-loop-j-init t c = leads-start

pub lay_held-loop-j-preserved : goal.lay_held-loop-j-preserved
lay_held-loop-j-preserved t c = leads-more c.lay_key-inner.ensures c.lay_within-outer.ensures c.lay_comma-o.ensures c.behind-next.ensures (omega arith) (omega (arith, c.loop-j.invariant.len)) (c.lay_comma-o.ensures.len ∙ c.lay_within-outer.auto.out ∙ c.lay_key-inner.auto.out ∙ c.loop-j.invariant.len) c.loop-j.invariant

pub lay_held-shape_of-out-then-keys-eq0 : goal.lay_held-shape_of-out-then-keys-eq0
lay_held-shape_of-out-then-keys-eq0 t c = c.lay_byte.ensures.len ∙ c.loop-j.invariant.len

pub lay_held-returns-then-keys-eq0 : goal.lay_held-returns-then-keys-eq0
lay_held-returns-then-keys-eq0 t c = c.loop-j.invariant.leads _ _ (array-closed c.lay_byte.ensures c.if-keys-eq0.true (omega arith))

pub lay_held-shape_of-out : goal.lay_held-shape_of-out
lay_held-shape_of-out t c = c.lay_byte-2.ensures.len ∙ c.loop-j.invariant.len

pub lay_held-returns : goal.lay_held-returns
lay_held-returns t c = c.loop-j.invariant.leads _ _ (object-closed c.lay_byte-2.ensures c.if-keys-eq0.false (omega arith))

pub lay_within-returns-then-end-i : goal.lay_within-returns-then-end-i
lay_within-returns-then-end-i t c = empty-lays (omega arith)

pub lay_within-returns-in_default : goal.lay_within-returns-in_default
lay_within-returns-in_default t c = unread-lays c.start_of.ensures (rw c.in_default.is at c.value_head.ensures)

pub lay_within-returns-in-Constant : goal.lay_within-returns-in-Constant
unfolding value_of
lay_within-returns-in-Constant t c = constant-lays c.start_of.ensures (rw c.in-Constant.is at (rw c.in-Some.is at c.value_head.ensures)).0 c.lay_constant.ensures

pub lay_within-returns-in-Number : goal.lay_within-returns-in-Number
unfolding value_of
lay_within-returns-in-Number t c = number-lays c.start_of.ensures (rw c.in-Number.is at (rw c.in-Some.is at c.value_head.ensures)).0 c.bytes_of.ensures c.lay.ensures

pub lay_within-returns-in-Text : goal.lay_within-returns-in-Text
unfolding value_of
lay_within-returns-in-Text t c = string-lays c.start_of.ensures (rw c.in-Text.is at (rw c.in-Some.is at c.value_head.ensures)).0 c.bytes_of-in-Text.ensures c.lay_quoted.ensures

pub lay_within-returns-in-Array : goal.lay_within-returns-in-Array
unfolding value_of
lay_within-returns-in-Array t c = array-lays c.start_of.ensures (rw c.in-Array.is at (rw c.in-Some.is at c.value_head.ensures)).0 c.lay_byte-inside.ensures c.lay_held.ensures (omega arith)

pub lay_within-returns-in-Object : goal.lay_within-returns-in-Object
unfolding value_of
lay_within-returns-in-Object t c = object-lays c.start_of.ensures (rw c.in-Object.is at (rw c.in-Some.is at c.value_head.ensures)).0 c.lay_byte-inside-in-Object.ensures c.lay_held-in-Object.ensures (omega arith)
