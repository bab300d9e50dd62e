-- `entity_rules::book::rulecheck_tally` meets its contract: the tally, with the lent part of the path buffer back in its place.
use mathlib.Core.Path.{refl}
use Rattle.entity_rules.proofs.Entries.{lent-within}
use Rattle.entity_rules.proofs.BookEntries.{tally-answered, first_fits}
use native.Mathlib.Omega.{arith}
use Rattle.entity_rules.proofs.book.rulecheck_tally.Goals as goal

pub slice_bounds-tally-end : goal.slice_bounds-tally-end
slice_bounds-tally-end c = rw c.path_lent-lent.ensures (lent-within _ _ _)

pub overflow_cast-result : goal.overflow_cast-result
overflow_cast-result c = omega (arith, first_fits _ c.tally-numbers.ensures)

pub returns : goal.returns
returns c =
    let a = c.args in
    let last = c.tally-numbers.new in
    tally-answered a.kind a.semantics a.label.now a.table.now a.schema.now a.book.now a.path.now a.res.now
    c.tally-numbers.result last.path last.scratch
    c.setting.ensures c.setting-2.ensures c.path_lent-lent.ensures c.tally-numbers.ensures
    (omega arith) c.write_counts.ensures refl
