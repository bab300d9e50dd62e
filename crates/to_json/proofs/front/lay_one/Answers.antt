-- `to_json::front::lay_one` meets its contract.
use Rattle.to_json.proofs.Laying.{one-laid}
use Rattle.text.specs.Ascii.{ascii}
use mathlib.Core.Path.{◌∙◌}
use native.Mathlib.Omega.{arith}
use Rattle.to_json.proofs.front.lay_one.Goals as goal

pub overflow_add-i : goal.overflow_add-i
overflow_add-i c = omega arith

pub shape_of-out : goal.shape_of-out
shape_of-out c = c.lay_byte.ensures.len ∙ c.lay_value-b.auto.out ∙ c.lay_opened-a.ensures.len

pub returns : goal.returns
unfolding ascii
returns c = one-laid (omega arith) c.lay_opened-a.ensures c.lay_value-b.ensures c.lay_byte.ensures
