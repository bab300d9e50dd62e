-- `number::test` meets its contract: the parts that were read are those of the text, and the place of the first nonzero digit decides as the number does.
use Prim.Native.Nat.{ℕ, ◌-◌}
use mathlib.Core.Path.{◌≡◌, refl, ◌∙◌}
use mathlib.Core.List.{List}
use mathlib.Core.Option.{some}
use native.Mathlib.Omega.{arith}
use lib.ListN.{length, take, drop, length-drop}
use lib.Seq.{take_all}
use Rattle.number.specs.Grammar.{number}
use Rattle.number.specs.Finite.{finite_if, is_finite}
use Rattle.number.specs.FirstDigit.{compared_in, compared}
use Rattle.number.specs.Tests.{TestsNumber}
use Rattle.number.specs.Parts.{part, number_at}
use Rattle.number.specs.declared.grammar.Parts.{Parts}
use Rattle.number.specs.declared.magnitude.Tested.{Tested}
use Rattle.number.proofs.Decides.{finite-decided}
use Rattle.number.proofs.Tens.{number_digits}
use Rattle.number.proofs.test.Goals as goal

-- the parts of a number text are tested as the text is
parts-tested : (s : List ℕ) (p : Parts) {r : Tested} → number s ≡ some (number_at s p)
    → TestsNumber (record { whole = part s p.whole p.point; fraction = part s p.fraction p.end; lowered = p.lowered; exponent = take (length s - p.exponent) (drop p.exponent s) }) r
    → (r.finite ≡ is_finite s) × (r.compared ≡ compared s)
unfolding is_finite finite_if number_at compared compared_in
parts-tested s p e t =
    let all : take (length s - p.exponent) (drop p.exponent s) ≡ drop p.exponent s =
    take_all (length s - p.exponent) (drop p.exponent s) (omega (arith, length-drop p.exponent s)) in
    let tested = rw all at t in
    rw e (tested.0 ∙ finite-decided (number_at s p) (number_digits s (number_at s p) e), tested.1)

pub returns-in_default : goal.returns-in_default
unfolding is_finite finite_if compared compared_in
returns-in_default c = rw (rw c.in_default.is at c.split.ensures) (refl, refl)

pub slice_bounds-test_parts-count : goal.slice_bounds-test_parts-count
slice_bounds-test_parts-count c =
    let o = rw c.in-Some.is at c.split.ensures in
    omega (arith, o.1.whole)

pub slice_bounds-test_parts-start : goal.slice_bounds-test_parts-start
slice_bounds-test_parts-start c =
    let o = rw c.in-Some.is at c.split.ensures in
    omega (arith, o.1.whole)

pub slice_bounds-test_parts-end : goal.slice_bounds-test_parts-end
slice_bounds-test_parts-end c =
    let o = rw c.in-Some.is at c.split.ensures in
    omega (arith, o.1.point)

pub slice_bounds-test_parts-count-2 : goal.slice_bounds-test_parts-count-2
slice_bounds-test_parts-count-2 c =
    let o = rw c.in-Some.is at c.split.ensures in
    omega (arith, o.1.fraction)

pub slice_bounds-test_parts-start-2 : goal.slice_bounds-test_parts-start-2
slice_bounds-test_parts-start-2 c =
    let o = rw c.in-Some.is at c.split.ensures in
    omega (arith, o.1.fraction)

pub slice_bounds-test_parts-end-2 : goal.slice_bounds-test_parts-end-2
slice_bounds-test_parts-end-2 c =
    let o = rw c.in-Some.is at c.split.ensures in
    omega (arith, o.1.end)

pub slice_bounds-test_parts-count-3 : goal.slice_bounds-test_parts-count-3
slice_bounds-test_parts-count-3 c =
    let o = rw c.in-Some.is at c.split.ensures in
    omega (arith, o.1.exponent)

pub slice_bounds-test_parts-start-3 : goal.slice_bounds-test_parts-start-3
slice_bounds-test_parts-start-3 c =
    let o = rw c.in-Some.is at c.split.ensures in
    omega (arith, o.1.exponent)

pub returns : goal.returns
returns c =
    let o = rw c.in-Some.is at c.split.ensures in
    parts-tested c.args.s.now c.in-Some.p o.0 c.test_parts.ensures
