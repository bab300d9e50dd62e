-- `to_json::front::lay_two` meets its contract.
use Rattle.to_json.proofs.Laying.{two-laid}
use Rattle.text.specs.Ascii.{ascii}
use mathlib.Core.Path.{◌∙◌}
use native.Mathlib.Omega.{arith}
use Rattle.to_json.proofs.front.lay_two.Goals as goal

pub overflow_add-i : goal.overflow_add-i
overflow_add-i c = omega arith

pub overflow_add-i-2 : goal.overflow_add-i-2
overflow_add-i-2 c = omega arith

pub shape_of-out : goal.shape_of-out
shape_of-out c = c.lay.ensures.len ∙ c.lay_value-d.auto.out ∙ c.lay_byte-c.ensures.len ∙ c.lay_value-b.auto.out ∙ c.lay_many-a.ensures.len

pub returns : goal.returns
unfolding ascii
returns c = two-laid (omega (arith, c.type_inv)) c.end_of.ensures c.lay_many-a.ensures c.lay_value-b.ensures c.lay_byte-c.ensures c.lay_value-d.ensures c.lay.ensures
