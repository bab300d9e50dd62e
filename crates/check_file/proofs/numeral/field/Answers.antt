-- `check_file::numeral::field` meets its contract: a numeral, and a comma or not.
use Rattle.check_file.proofs.Reading.{field-none, field-end, field-other, field-some}
use Rattle.check_file.proofs.numeral.field.Goals as goal

pub returns-in_err-value : goal.returns-in_err-value
returns-in_err-value c = rw c.from_residual.ensures (field-none c.args.s.now c.args.at (rw c.in_err-value.was at c.numeral.ensures))

pub returns-then-s-next : goal.returns-then-s-next
returns-then-s-next c = let e = rw c.in_ok-value.was at c.numeral.ensures in field-end e c.if-s-next.true

pub returns-then-s-next-eq44 : goal.returns-then-s-next-eq44
returns-then-s-next-eq44 c = let e = rw c.in_ok-value.was at c.numeral.ensures in field-some e c.if-s-next.false c.if-s-next-eq44.true

pub returns : goal.returns
returns c = let e = rw c.in_ok-value.was at c.numeral.ensures in field-other e c.if-s-next.false c.if-s-next-eq44.false
