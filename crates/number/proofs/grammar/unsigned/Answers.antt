-- `number::grammar::unsigned` meets its contract: the rules in their order, each from where the one before it ended.
use native.Mathlib.Omega.{arith}
use Rattle.number.specs.Parts.{number_at}
use Rattle.number.proofs.Reading.{unsigned-no-int, unsigned-no-frac, unsigned-no-exp, unsigned-all}
use Rattle.number.proofs.grammar.unsigned.Goals as goal

pub returns-in_err-point : goal.returns-in_err-point
returns-in_err-point c = rw c.from_residual.ensures (unsigned-no-int _ (rw c.in_err-point.was at c.int.ensures))

pub frac-requires : goal.frac-requires
frac-requires c =
    let i = rw c.in_ok-point.was at c.int.ensures in
    i.2

pub returns-in_err-fraction : goal.returns-in_err-fraction
returns-in_err-fraction c = rw c.from_residual-in_err-fraction.ensures (let i = rw c.in_ok-point.was at c.int.ensures in
    unsigned-no-frac _ _ i.0 (rw c.in_err-fraction.was at c.frac.ensures))

pub exp-requires : goal.exp-requires
exp-requires c =
    let f = rw c.in_ok-fraction.was at c.frac.ensures in
    f.2

pub returns-in_err-lowered : goal.returns-in_err-lowered
returns-in_err-lowered c = rw c.from_residual-in_err-lowered.ensures (let i = rw c.in_ok-point.was at c.int.ensures in
    let f = rw c.in_ok-fraction.was at c.frac.ensures in
    unsigned-no-exp _ _ i.0 _ f.0 (rw c.in_err-lowered.was at c.exp.ensures))

pub returns : goal.returns
unfolding number_at
returns c =
    let i = rw c.in_ok-point.was at c.int.ensures in
    let f = rw c.in_ok-fraction.was at c.frac.ensures in
    let e = rw c.in_ok-lowered.was at c.exp.ensures in
    (unsigned-all _ _ i.0 _ f.0 _ e.0, record { whole = omega (arith, i.1); point = i.2; fraction = f.1; end = f.2; exponent = e.1 })
