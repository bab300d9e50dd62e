-- `to_json::front::lay_compared` meets its contract.
use Rattle.to_json.proofs.Laying.{compared-laid}
use Rattle.text.specs.Ascii.{ascii}
use mathlib.Core.Path.{◌∙◌}
use native.Mathlib.Omega.{arith}
use Rattle.to_json.proofs.front.lay_compared.Goals as goal

pub overflow_add-i : goal.overflow_add-i
overflow_add-i c = omega arith

pub overflow_add-i-2 : goal.overflow_add-i-2
overflow_add-i-2 c = omega (arith, c.requires)

pub shape_of-out : goal.shape_of-out
shape_of-out c = c.lay.ensures.len ∙ c.lay_value-g.auto.out ∙ c.lay-f.ensures.len ∙ c.lay_comparison-e.ensures.len ∙ c.lay-d.ensures.len ∙ c.lay_value-c.auto.out ∙ c.lay-b.ensures.len ∙ c.lay_opened-a.ensures.len

pub returns : goal.returns
unfolding ascii
returns c = compared-laid (omega (arith, c.type_inv)) c.end_of.ensures c.lay_opened-a.ensures c.lay-b.ensures c.lay_value-c.ensures c.lay-d.ensures c.lay_comparison-e.ensures c.lay-f.ensures c.lay_value-g.ensures c.lay.ensures
