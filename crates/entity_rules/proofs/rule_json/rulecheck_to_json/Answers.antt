-- `entity_rules::rule_json::rulecheck_to_json` meets its contract.
use mathlib.Core.Path.{refl}
use lib.ListN.{length}
use Rattle.json_rule.specs.Conversion.{to_json}
use Rattle.conversion.specs.SizeLaws.{to-small}
use Rattle.entity_rules.proofs.JsonEntries.{conversion-handed}
use Rattle.entity_rules.proofs.rule_json.rulecheck_to_json.Goals as goal

pub returns : goal.returns
returns c =
    let called = c.to_json-numbers in
    let a = c.args in
    conversion-handed to_json a.sheet.now a.json.now called.new.json called.result a.res.now
    (to-small (record { bytes = a.sheet.now; room = length a.json.now })) called.ensures c.write_numbers.ensures refl
