-- `to_json::front::lay_many` meets its contract.
use Rattle.to_json.proofs.Laying.{many-laid}
use Rattle.text.specs.Ascii.{ascii}
use native.Mathlib.Omega.{arith}
use Rattle.to_json.proofs.front.lay_many.Goals as goal

pub returns : goal.returns
unfolding ascii
returns c = many-laid (omega arith) _ c.lay_opened-a.ensures c.lay_byte.ensures
