-- `entity_rules::report::rulecheck_check` meets its contract: the report of `single_check`, with the lent part of the path buffer back in its place.
use Rattle.entity_rules.proofs.Entries.{lent-within, check-answered}
use Rattle.entity_rules.proofs.report.rulecheck_check.Goals as goal

pub slice_bounds-validate_marked-end : goal.slice_bounds-validate_marked-end
slice_bounds-validate_marked-end c = rw c.path_lent-lent.ensures (lent-within _ _ _)

pub returns : goal.returns
returns c =
    let a = c.args in
    let last = c.validate_marked-report.new in
    check-answered a.kind a.semantics a.label.now a.table.now a.schema.now a.rule.now a.path.now a.marks.now a.res.now
    c.validate_marked-report.result last.path last.marks last.scratch
    c.setting.ensures c.setting-2.ensures c.path_lent-lent.ensures c.validate_marked-report.ensures c.write_report.ensures
