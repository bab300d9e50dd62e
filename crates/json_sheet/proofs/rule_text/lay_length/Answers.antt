-- `json_sheet::rule_text::lay_length` meets its contract.
use native.Mathlib.Omega.{arith}
use Rattle.json_sheet.proofs.RuleTexts.{lays-absent, lays-length}
use Rattle.json_sheet.proofs.rule_text.lay_length.Goals as goal

pub returns-then-place-eq0 : goal.returns-then-place-eq0
returns-then-place-eq0 c = lays-absent c.args.place c.args.len c.if-place-eq0.true c.lay.ensures

pub returns : goal.returns
returns c = lays-length c.args.place c.args.len (omega arith) c.if-place-eq0.false c.lay_byte-a.ensures c.lay_decimal.ensures
