use Prim.Native.Nat.{◌+◌, ◌-◌}
use native.Mathlib.Omega.{arith}
use mathlib.Core.Path.{◌≡◌, refl, sym, ap, ◌∙◌}
use Rattle.text.specs.Decimal.{is_digit}
use Rattle.timestamp.proofs.Laws.{skip-digit, skip_stop, skip-none}
use Rattle.timestamp.proofs.fraction_end.Goals as goal

pub loop-at-preserved : goal.loop-at-preserved
loop-at-preserved c =
    let at = c.loop-at.at in
    let one : 29 - at - 1 ≡ 29 - (at + 1) = omega arith in
    rw one at (sym (skip-digit c.args.s.now at (29 - at) (omega arith) (c.is_digit.ensures ∙ ap is_digit c.byte_at.ensures) c.if-not-is_digit.false) ∙ c.loop-at.invariant)

pub returns-then-not-is_digit : goal.returns-then-not-is_digit
returns-then-not-is_digit c = (
  sym (skip_stop c.args.s.now c.loop-at.at (29 - c.loop-at.at) (omega arith) (c.is_digit.ensures ∙ ap is_digit c.byte_at.ensures) c.if-not-is_digit.true)
      ∙ c.loop-at.invariant,
  omega arith,
)

pub returns : goal.returns
returns c =
    let last : c.loop-at.at ≡ 29 = omega arith in
    (rw last at (sym (skip-none c.args.s.now c.loop-at.at (29 - c.loop-at.at) (omega arith)) ∙ c.loop-at.invariant), omega arith)
