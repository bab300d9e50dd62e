use native.Mathlib.Omega.{arith}
use mathlib.Core.Path.{◌∙◌}
use Rattle.schema_edits.proofs.EditSteps.{edited-laid}
use Rattle.schema_edits.proofs.edit.lay_edited.Goals as goal

pub shape_of-out : goal.shape_of-out
shape_of-out c = c.lay.ensures.len ∙ c.lay-d.ensures.len ∙ c.lay-c.ensures.len ∙ c.lay_decimal-b.ensures.len ∙ c.lay-a.ensures.len

pub returns : goal.returns
returns c = edited-laid c.args.s.now c.args.count c.args.behind c.args.at c.args.end (omega (arith, c.type_inv)) c.between.ensures c.between-2.ensures c.between-3.ensures c.lay-a.ensures c.lay_decimal-b.ensures c.lay-c.ensures c.lay-d.ensures c.lay.ensures
