-- `json_sheet::rule_text::lay_rule_head` meets its contract.
use native.Mathlib.Omega.{arith}
use mathlib.Core.Path.{◌∙◌}
use Rattle.json_sheet.proofs.RuleTexts.{lays-head}
use Rattle.json_sheet.proofs.rule_text.lay_rule_head.Goals as goal

pub shape_of-out : goal.shape_of-out
shape_of-out c = c.lay_byte.auto.out ∙ c.lay_optional-f.auto.out ∙ c.lay_optional-e.auto.out ∙ c.lay_byte-d.auto.out ∙ c.lay_length-c.auto.out ∙ c.lay_length-b.auto.out ∙ c.lay_byte-a.auto.out

pub returns : goal.returns
returns c = lays-head c.args.s.now c.args.name c.args.n c.args.message c.args.m (omega (arith, c.type_inv)) c.lay_byte-a.ensures c.lay_length-b.ensures c.lay_length-c.ensures c.lay_byte-d.ensures c.lay_optional-e.ensures c.lay_optional-f.ensures c.lay_byte.ensures
