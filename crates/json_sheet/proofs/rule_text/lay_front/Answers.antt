-- `json_sheet::rule_text::lay_front` meets its contract.
use native.Mathlib.Omega.{arith}
use mathlib.Core.Path.{refl}
use Rattle.json_sheet.proofs.RuleTexts.{front-over, front-laid}
use Rattle.json_sheet.proofs.rule_text.lay_front.Goals as goal

pub returns-then-size-gt-FRONT_ROOM : goal.returns-then-size-gt-FRONT_ROOM
returns-then-size-gt-FRONT_ROOM c = front-over c.args.s.now c.args.name c.args.n c.args.message c.args.m c.lay_rule_head-size.ensures (omega arith) c.args.out.now (omega arith)

pub returns : goal.returns
returns c = front-laid c.args.s.now c.args.name c.args.n c.args.message c.args.m c.lay_rule_head-size.ensures (omega arith) c.args.out.now (omega arith) refl c.lay.ensures
