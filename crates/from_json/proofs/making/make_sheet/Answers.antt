-- `from_json::making::make_sheet` meets its contract.
use mathlib.Core.Path.{◌∙◌}
use Rattle.from_json.proofs.Refusing.{refused-31, sheet-made, sheet-over}
use Rattle.from_json.proofs.making.make_sheet.Goals as goal

pub returns-then-is_formed : goal.returns-then-is_formed
returns-then-is_formed c =
    let g = rw c.in-Good.is at c.read_rule_text.ensures in
    sheet-made c.args.text.now g.rule g.read g.lies g.front (c.read_rule_text.auto.out ∙ c.requires) (rw c.if-is_formed.true at c.is_formed.ensures)

pub returns-else-is_formed : goal.returns-else-is_formed
returns-else-is_formed c =
    let g = rw c.in-Good.is at c.read_rule_text.ensures in
    sheet-over c.args.text.now g.rule g.read g.lies g.front (c.read_rule_text.auto.out ∙ c.requires) (rw c.if-is_formed.false at c.is_formed.ensures) c.over_limit.ensures

pub returns-in-Long : goal.returns-in-Long
returns-in-Long c = let g = rw c.in-Long.is at c.read_rule_text.ensures in c.over_limit-in-Long.ensures.told g.rule g.read g.long

pub returns-in-Bad : goal.returns-in-Bad
returns-in-Bad c = refused-31 c.args.text.now (rw c.in-Bad.is at c.read_rule_text.ensures)
