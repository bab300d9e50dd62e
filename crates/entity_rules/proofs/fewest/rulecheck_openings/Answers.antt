-- `entity_rules::fewest::rulecheck_openings` meets its contract: the marks, with the lent part of the path buffer back in its place.
use mathlib.Core.Path.{refl}
use Rattle.entity_rules.proofs.Entries.{lent-within}
use Rattle.entity_rules.proofs.OpenEntries.{open-answered}
use Rattle.entity_rules.proofs.fewest.rulecheck_openings.Goals as goal

pub slice_bounds-fewest_marks-end : goal.slice_bounds-fewest_marks-end
slice_bounds-fewest_marks-end c = rw c.path_lent-lent.ensures (lent-within _ _ _)

pub returns : goal.returns
returns c =
    let a = c.args in
    let last = c.fewest_marks-numbers.new in
    open-answered a.kind a.semantics a.table.now a.schema.now a.rule.now a.path.now a.list.now a.res.now
    c.fewest_marks-numbers.result last.path last.list last.scratch
    c.setting.ensures c.setting-2.ensures c.path_lent-lent.ensures c.fewest_marks-numbers.ensures c.write_numbers.ensures refl
