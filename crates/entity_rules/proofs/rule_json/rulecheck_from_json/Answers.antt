-- `entity_rules::rule_json::rulecheck_from_json` meets its contract.
use mathlib.Core.Path.{refl}
use lib.ListN.{length}
use Rattle.json_rule.specs.Conversion.{from_json}
use Rattle.conversion.specs.SizeLaws.{from-small}
use Rattle.entity_rules.proofs.JsonEntries.{conversion-handed}
use Rattle.entity_rules.proofs.rule_json.rulecheck_from_json.Goals as goal

pub returns : goal.returns
returns c =
    let called = c.from_json-numbers in
    let a = c.args in
    conversion-handed from_json a.text.now a.sheet.now called.new.sheet called.result a.res.now
    (from-small (record { bytes = a.text.now; room = length a.sheet.now })) called.ensures c.write_numbers.ensures refl
