-- `entity_rules::explain::rulecheck_explain` meets its contract: the answer of `explained_check`, with the lent part of the path buffer back in its place.
use Rattle.entity_rules.proofs.Entries.{lent-within}
use Rattle.entity_rules.proofs.ExplainEntries.{explain-answered}
use Rattle.entity_rules.proofs.explain.rulecheck_explain.Goals as goal

pub slice_bounds-validate_explained-end : goal.slice_bounds-validate_explained-end
slice_bounds-validate_explained-end c = rw c.path_lent-lent.ensures (lent-within _ _ _)

pub returns : goal.returns
returns c =
    let a = c.args in
    let last = c.validate_explained-explained.new in
    explain-answered a.kind a.semantics a.label.now a.table.now a.schema.now a.rule.now a.path.now a.marks.now a.message.now a.res.now
    c.validate_explained-explained.result last.path last.marks last.message last.scratch
    c.setting.ensures c.setting-2.ensures c.path_lent-lent.ensures c.validate_explained-explained.ensures c.write_explained.ensures
