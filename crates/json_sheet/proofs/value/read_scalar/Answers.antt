-- `json_sheet::value::read_scalar` meets its contract.
use Rattle.json_sheet.proofs.Scalars.{scalar-out, is-string, is-null, is_true, is_false, is_number}
use Rattle.json_sheet.proofs.value.read_scalar.Goals as goal

pub returns-then-s-at : goal.returns-then-s-at
returns-then-s-at c = scalar-out c.args.s.now c.args.at c.if-s-at.true

pub returns-then-b-eq34 : goal.returns-then-b-eq34
returns-then-b-eq34 c = is-string c.args.s.now c.args.at c.if-s-at.false c.read_text.result _ _ _ c.if-b-eq34.true c.read_text.ensures

pub returns-then-b-eq110 : goal.returns-then-b-eq110
returns-then-b-eq110 c = is-null c.args.s.now c.args.at c.if-s-at.false c.read_word.result _ _ _ c.if-b-eq110.true c.read_word.ensures

pub returns-then-b-eq116 : goal.returns-then-b-eq116
returns-then-b-eq116 c = is_true c.args.s.now c.args.at c.if-s-at.false c.read_word-then-b-eq116.result _ _ _ c.if-b-eq116.true c.read_word-then-b-eq116.ensures

pub returns-then-b-eq102 : goal.returns-then-b-eq102
returns-then-b-eq102 c = is_false c.args.s.now c.args.at c.if-s-at.false c.read_word-then-b-eq102.result _ _ _ c.if-b-eq102.true c.read_word-then-b-eq102.ensures

pub returns : goal.returns
returns c = is_number c.args.s.now c.args.at c.if-s-at.false c.read_number.result _ _ _ c.if-b-eq34.false c.if-b-eq110.false c.if-b-eq116.false c.if-b-eq102.false c.read_number.ensures
