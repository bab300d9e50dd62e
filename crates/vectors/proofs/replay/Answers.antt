-- `vectors::replay` tells whether a case of the bytes agrees.
use native.Mathlib.Omega.{arith}
use mathlib.Core.Path.{refl}
use Rattle.vectors.proofs.replay.Goals as goal

pub slice_bounds-is_as_expected-count : goal.slice_bounds-is_as_expected-count
slice_bounds-is_as_expected-count c = let r = rw c.in_ok-c.was at c.find.ensures in omega arith

pub slice_bounds-is_as_expected-start : goal.slice_bounds-is_as_expected-start
slice_bounds-is_as_expected-start c = let r = rw c.in_ok-c.was at c.find.ensures in omega arith

pub slice_bounds-is_as_expected-end : goal.slice_bounds-is_as_expected-end
slice_bounds-is_as_expected-end c = let r = rw c.in_ok-c.was at c.find.ensures in omega arith

pub slice_bounds-is_as_expected-count-2 : goal.slice_bounds-is_as_expected-count-2
slice_bounds-is_as_expected-count-2 c = let r = rw c.in_ok-c.was at c.find.ensures in omega arith

pub slice_bounds-is_as_expected-start-2 : goal.slice_bounds-is_as_expected-start-2
slice_bounds-is_as_expected-start-2 c = let r = rw c.in_ok-c.was at c.find.ensures in omega arith

pub slice_bounds-is_as_expected-end-2 : goal.slice_bounds-is_as_expected-end-2
slice_bounds-is_as_expected-end-2 c = let r = rw c.in_ok-c.was at c.find.ensures in omega arith

pub returns : goal.returns
returns c =
    let lies = rw c.in_ok-c.was at c.find.ensures in
    record { found = c.in_ok-c.c; lies = lies; tells = c.is_as_expected-agrees.ensures; ends = refl }
