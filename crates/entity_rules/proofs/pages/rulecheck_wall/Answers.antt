-- `entity_rules::pages::rulecheck_wall` meets its contract: the pages, with the lent part of the path buffer back in its place.
use mathlib.Core.Path.{refl}
use Rattle.entity_rules.proofs.Entries.{lent-within}
use Rattle.entity_rules.proofs.WallEntries.{wall-answered, first_fits}
use native.Mathlib.Omega.{arith}
use Rattle.entity_rules.proofs.pages.rulecheck_wall.Goals as goal

pub slice_bounds-wall-end : goal.slice_bounds-wall-end
slice_bounds-wall-end c = rw c.path_lent-lent.ensures (lent-within _ _ _)

pub overflow_cast-result : goal.overflow_cast-result
overflow_cast-result c = omega (arith, first_fits _ c.wall-numbers.ensures)

pub returns : goal.returns
returns c =
    let a = c.args in
    let last = c.wall-numbers.new in
    wall-answered a.kind a.semantics a.label.now a.table.now a.schema.now a.book.now a.path.now a.pages.now a.res.now
    c.wall-numbers.result last.path last.pages last.scratch
    c.setting.ensures c.setting-2.ensures c.path_lent-lent.ensures c.wall-numbers.ensures
    (omega arith) c.write_counts.ensures refl
