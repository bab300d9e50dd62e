-- `to_json::front::lay_scope` meets its contract.
use Rattle.to_json.proofs.Laying.{scope-laid}
use Rattle.text.specs.Ascii.{ascii}
use mathlib.Core.Path.{◌∙◌}
use native.Mathlib.Omega.{arith}
use Rattle.to_json.proofs.front.lay_scope.Goals as goal

pub overflow_add-i : goal.overflow_add-i
overflow_add-i c = omega arith

pub shape_of-out : goal.shape_of-out
shape_of-out c = c.lay.ensures.len ∙ c.lay_quoted-e.ensures.len ∙ c.lay-d.ensures.len ∙ c.lay_value-c.auto.out ∙ c.lay-b.ensures.len ∙ c.lay_opened-a.ensures.len

pub returns : goal.returns
unfolding ascii
returns c = scope-laid (omega (arith, c.type_inv)) c.lay_opened-a.ensures c.lay-b.ensures c.lay_value-c.ensures c.lay-d.ensures c.lay_quoted-e.ensures c.lay.ensures
