-- `entity_rules::check` meets its contract: the answer of `single_check`, with the lent part of the path buffer back in its place.
use Rattle.entity_rules.proofs.Entries.{lent-within, answered}
use Rattle.entity_rules.proofs.check.Goals as goal

pub slice_bounds-validate_under-end-2 : goal.slice_bounds-validate_under-end-2
slice_bounds-validate_under-end-2 c = rw c.path_lent-lent.ensures (lent-within _ _ _)

pub returns : goal.returns
returns c =
    let a = c.args in
    let last = c.validate_under-outcome.new in
    answered a.takes a.kind a.semantics a.label.now a.schema.now a.rule.now a.path.now a.res.now
    c.validate_under-outcome.result last.path last.scratch
    c.setting.ensures c.setting-2.ensures c.path_lent-lent.ensures c.validate_under-outcome.ensures c.write_result.ensures
