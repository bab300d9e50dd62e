use Rattle.json_sheet.proofs.Operands.{literals-out, no-literal, is_true, is_false}
use Rattle.json_sheet.proofs.condition.read_literal.Goals as goal

pub returns-then-s-at : goal.returns-then-s-at
returns-then-s-at c = literals-out c.args.s.now c.args.at c.if-s-at.true

pub returns-then-b-eq116 : goal.returns-then-b-eq116
returns-then-b-eq116 c = is_true c.args.s.now c.args.at c.if-s-at.false c.read_word.result _ _ _ c.if-b-eq116.true c.read_word.ensures

pub returns-then-b-eq102 : goal.returns-then-b-eq102
returns-then-b-eq102 c = is_false c.args.s.now c.args.at c.if-s-at.false c.read_word-then-b-eq102.result _ _ _ c.if-b-eq102.true c.read_word-then-b-eq102.ensures

pub returns : goal.returns
returns c = no-literal c.args.s.now c.args.at c.if-s-at.false c.if-b-eq116.false c.if-b-eq102.false
