-- `to_json::front::lay_truth` meets its contract.
use Rattle.text.specs.Ascii.{ascii}
use Rattle.json_text.specs.Escaped.{written}
use Rattle.to_json.proofs.front.lay_truth.Goals as goal

pub returns-then-holds : goal.returns-then-holds
unfolding written ascii
returns-then-holds c = rw c.if-holds.true c.lay.ensures

pub returns : goal.returns
unfolding written ascii
returns c = rw c.if-holds.false c.lay-2.ensures
