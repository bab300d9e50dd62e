-- `key_path::validate_path` meets its contract.
use Rattle.key_path.proofs.KeySteps.{words-enough, meets-early, meets-bad, meets-good}
use Rattle.key_path.proofs.validate_path.Goals as goal

pub returns-then-number-ne0 : goal.returns-then-number-ne0
returns-then-number-ne0 c = meets-early _ _ _ _ _ c.refused_key-number.ensures c.if-number-ne0.true c.refused.ensures

pub read_schema-requires : goal.read_schema-requires
read_schema-requires c = words-enough _ _ _ _ c.refused_key-number.ensures c.if-number-ne0.false

pub returns-in_default : goal.returns-in_default
returns-in_default c = meets-bad _ _ _ _ _ c.refused_key-number.ensures c.if-number-ne0.false c.read_schema.ensures c.in_default.is c.refused-in_default.ensures

pub returns : goal.returns
returns c = meets-good _ _ _ _ _ c.refused_key-number.ensures c.if-number-ne0.false c.read_schema.ensures c.in-Some.is c.check_key.ensures
