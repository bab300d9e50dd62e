use native.Mathlib.Omega.{arith}
use Prim.Native.Nat.{◌-◌}
use mathlib.Core.Path.{◌∙◌}
use Rattle.json_text.proofs.Quoting.{escaping-start, escaping-out, escaping-run, escaping-byte}
use Rattle.json_text.proofs.quote.lay_escaped.Goals as goal

pub loop-i-init : goal.loop-i-init
loop-i-init c = escaping-start _ _ _ _ (omega arith)

pub slice_bounds-lay-count : goal.slice_bounds-lay-count
slice_bounds-lay-count c = omega (arith, c.plain_end-end.ensures.forward)

pub slice_bounds-lay-start : goal.slice_bounds-lay-start
slice_bounds-lay-start c = omega (arith, c.plain_end-end.ensures.forward)

pub slice_bounds-lay-end : goal.slice_bounds-lay-end
slice_bounds-lay-end c = omega (arith, c.plain_end-end.ensures.within)

pub shape_of-out-then-text-end : goal.shape_of-out-then-text-end
shape_of-out-then-text-end c = c.lay-e.ensures.len ∙ c.loop-i.invariant.len

pub returns-then-text-end : goal.returns-then-text-end
returns-then-text-end c = escaping-out (escaping-run c.loop-i.invariant (omega arith) c.plain_end-end.ensures c.lay-e.ensures) (omega arith)

pub loop-i-smaller : goal.loop-i-smaller
loop-i-smaller c = omega (arith, c.plain_end-end.ensures.forward)

pub loop-i-preserved : goal.loop-i-preserved
loop-i-preserved c = escaping-byte (escaping-run c.loop-i.invariant (omega arith) c.plain_end-end.ensures c.lay-e.ensures) (omega arith) (omega arith) c.lay_escaped_byte-e.ensures

pub shape_of-out : goal.shape_of-out
shape_of-out c = c.loop-i.invariant.len

pub returns : goal.returns
returns c = escaping-out c.loop-i.invariant (omega arith)
