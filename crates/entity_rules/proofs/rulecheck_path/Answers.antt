-- `entity_rules::rulecheck_path` meets its contract: the answer of `validate_path`, with a part of a fresh scratch lent.
use Rattle.entity_rules.proofs.Entries.{lent-within}
use Rattle.entity_rules.proofs.KeyEntries.{key-answered}
use Rattle.entity_rules.proofs.rulecheck_path.Goals as goal

pub slice_bounds-scratch-end : goal.slice_bounds-scratch-end
slice_bounds-scratch-end c = rw c.path_lent-lent.ensures (lent-within _ _ _)

pub returns : goal.returns
returns c =
    let a = c.args in
    key-answered a.semantics a.reader a.path.now a.schema.now a.res.now
    c.validate_path-key.result _
    c.setting.ensures c.setting-2.ensures c.path_lent-lent.ensures c.validate_path-key.ensures c.write_result.ensures
