-- `rule::value::still_rise` meets its contract: keys that have fallen are not compared.
use Rattle.rule.proofs.value.still_rise.Goals as goal

pub returns-then-rise : goal.returns-then-rise
returns-then-rise c = rw c.if-rise.true c.is_next_key.ensures

pub returns : goal.returns
returns c = rw c.if-rise.false
