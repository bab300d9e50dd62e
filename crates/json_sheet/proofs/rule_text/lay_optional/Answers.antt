-- `json_sheet::rule_text::lay_optional` meets its contract.
use native.Mathlib.Omega.{arith}
use Rattle.json_sheet.proofs.RuleTexts.{lays-no-text, lays-out, lays-optional}
use Rattle.json_sheet.proofs.rule_text.lay_optional.Goals as goal

pub returns-then-place-eq0 : goal.returns-then-place-eq0
returns-then-place-eq0 c = lays-no-text c.args.s.now c.args.out.now c.args.place c.args.o (omega arith) c.if-place-eq0.true

pub returns-then-s-place : goal.returns-then-s-place
returns-then-s-place c = lays-out c.args.s.now c.args.out.now c.args.place c.args.o (omega arith) (omega arith)

pub lay_text-requires : goal.lay_text-requires
lay_text-requires c = omega arith

pub returns : goal.returns
returns c = lays-optional c.args.s.now c.args.place c.if-place-eq0.false c.lay_text.ensures
