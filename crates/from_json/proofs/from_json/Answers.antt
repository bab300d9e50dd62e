-- `from_json::from_json` meets its contract.
use native.Mathlib.Omega.{arith}
use mathlib.Core.Path.{refl}
use Rattle.from_json.proofs.Refusing.{meets-early, meets-33, meets-made}
use Rattle.from_json.proofs.from_json.Goals as goal

pub overflow_sub-end : goal.overflow_sub-end
overflow_sub-end c = let m = rw c.in-Ok.is at c.make_sheet.ensures in omega (arith, m.order)

pub returns-then-sheet-end : goal.returns-then-sheet-end
returns-then-sheet-end c = let m = rw c.in-Ok.is at c.make_sheet.ensures in meets-33 c.args.text.now c.args.sheet.now m (omega (arith, c.if-sheet-end.true))

pub slice_bounds-lay-count : goal.slice_bounds-lay-count
slice_bounds-lay-count c = let m = rw c.in-Ok.is at c.make_sheet.ensures in omega (arith, m.order)

pub slice_bounds-lay-start : goal.slice_bounds-lay-start
slice_bounds-lay-start c = let m = rw c.in-Ok.is at c.make_sheet.ensures in omega (arith, m.order, m.inside, m.size)

pub slice_bounds-lay-end : goal.slice_bounds-lay-end
slice_bounds-lay-end c = let m = rw c.in-Ok.is at c.make_sheet.ensures in omega (arith, m.order, m.inside, m.size)

pub overflow_sub-result : goal.overflow_sub-result
overflow_sub-result c = let m = rw c.in-Ok.is at c.make_sheet.ensures in omega (arith, m.order)

pub overflow_cast-result : goal.overflow_cast-result
overflow_cast-result c = let m = rw c.in-Ok.is at c.make_sheet.ensures in omega (arith, m.order, m.inside)

pub returns-else-sheet-end : goal.returns-else-sheet-end
returns-else-sheet-end c = let m = rw c.in-Ok.is at c.make_sheet.ensures in meets-made c.args.text.now c.args.sheet.now m (omega (arith, c.if-sheet-end.false)) refl c.lay.ensures refl

pub returns-in-Err : goal.returns-in-Err
returns-in-Err c = meets-early c.args.text.now c.args.sheet.now (rw c.in-Err.is at c.make_sheet.ensures)
