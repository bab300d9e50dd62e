-- `to_json::to_json` meets its contract.
use Rattle.to_json.proofs.Answers.{answered-bad, answered-template, answered-full, answered-told}
use native.Mathlib.Omega.{arith}
use Rattle.to_json.proofs.to_json.Goals as goal

pub returns-in_default : goal.returns-in_default
returns-in_default c = answered-bad (rw c.in_default.is at c.read_rule.ensures).0

pub returns-then-read : goal.returns-then-read
returns-then-read c = answered-template (rw c.in-Some.is at c.read_rule.ensures) c.if-read.true

pub lay_rule-size-requires : goal.lay_rule-size-requires
lay_rule-size-requires c = omega (arith, (rw c.in-Some.is at c.read_rule.ensures).within)

pub returns-then-json-size : goal.returns-then-json-size
returns-then-json-size c = answered-full (rw c.in-Some.is at c.read_rule.ensures) c.if-read.false c.lay_rule-size.ensures c.if-json-size.true (omega arith)

pub lay_rule-requires : goal.lay_rule-requires
lay_rule-requires c = omega (arith, (rw c.in-Some.is at c.read_rule.ensures).within)

pub shape_of-json : goal.shape_of-json
shape_of-json c = c.lay_rule.auto.out

pub returns : goal.returns
returns c = answered-told (rw c.in-Some.is at c.read_rule.ensures) c.if-read.false c.lay_rule-size.ensures c.if-json-size.false c.lay_rule.ensures c.narrow.ensures
