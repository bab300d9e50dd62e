-- `json_value::lay_value` meets its contract.
use Rattle.json_value.proofs.Laying.{value-lays}
use Rattle.json_value.proofs.lay_value.Goals as goal

pub returns : goal.returns
returns c = value-lays c.end_of.ensures c.lay_within.ensures
