-- `to_json::front::lay_opened` meets its contract.
use Rattle.to_json.proofs.Laying.{opened-laid}
use Rattle.text.specs.Ascii.{ascii}
use native.Mathlib.Omega.{arith}
use Rattle.to_json.proofs.front.lay_opened.Goals as goal

pub returns : goal.returns
unfolding ascii
returns c = opened-laid (omega arith) _ c.lay-a.ensures c.lay_operator-b.ensures c.lay.ensures
