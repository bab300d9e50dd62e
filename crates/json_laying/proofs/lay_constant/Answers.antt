-- `json_laying::lay_constant` meets its contract.
use Rattle.json_laying.proofs.Laying.{laid-null, laid-true, laid-false}
use Rattle.json_laying.proofs.lay_constant.Goals as goal

pub returns-then-kind-eq1 : goal.returns-then-kind-eq1
returns-then-kind-eq1 c = laid-null _ c.if-kind-eq1.true c.lay.ensures

pub returns-then-kind-eq3 : goal.returns-then-kind-eq3
returns-then-kind-eq3 c = laid-true _ c.if-kind-eq3.true c.lay-then-kind-eq3.ensures

pub returns : goal.returns
returns c = laid-false _ c.if-kind-eq1.false c.if-kind-eq3.false c.lay-2.ensures
