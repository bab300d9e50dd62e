-- `from_json::making::over_limit` meets its contract.
use Rattle.from_json.proofs.Refusing.{over-31, over-32}
use Rattle.from_json.proofs.making.over_limit.Goals as goal

pub returns-then-keys_differ : goal.returns-then-keys_differ
returns-then-keys_differ c = over-32 c.args.text.now (rw c.if-keys_differ.true at c.keys_differ.ensures)

pub returns : goal.returns
returns c = over-31 c.args.text.now (rw c.if-keys_differ.false at c.keys_differ.ensures)
