-- `json_sheet::comparison::read_part` meets its contract.
use native.Mathlib.Omega.{arith}
use Rattle.text.specs.Ascii.{ascii}
use Rattle.json_sheet.proofs.Comparing.{part-unread, part-unnamed, part-bad, op-bad, op-given, left-given, right-given}
use Rattle.json_sheet.proofs.comparison.read_part.Goals as goal

pub returns-in_err-place : goal.returns-in_err-place
returns-in_err-place c = rw c.from_residual.ensures (part-unread c.args.depth c.args.s.now c.args.at (rw c.in_err-place.was at c.read_place.ensures))

pub returns-then-place-eq0 : goal.returns-then-place-eq0
unfolding ascii
returns-then-place-eq0 c = part-unnamed c.args.depth (rw c.in_ok-place.was at c.read_place.ensures) c.if-place-eq0.true

pub returns-in_err-op : goal.returns-in_err-op
unfolding ascii
returns-in_err-op c = rw c.from_residual-in_err-op.ensures (op-bad c.args.depth (rw c.in_ok-place.was at c.read_place.ensures) c.if-place-eq2.true (rw c.in_err-op.was at c.read_comparison_name.ensures))

pub returns-then-place-eq2 : goal.returns-then-place-eq2
unfolding ascii
returns-then-place-eq2 c = let r = rw c.in_ok-op.was at c.read_comparison_name.ensures in op-given c.args.depth (rw c.in_ok-place.was at c.read_place.ensures) c.args.out.now c.args.o (omega arith) c.if-place-eq2.true r.0 r.1

pub returns-in_err-behind : goal.returns-in_err-behind
unfolding ascii
returns-in_err-behind c = rw c.from_residual-in_err-behind.ensures (part-bad c.args.depth (rw c.in_ok-place.was at c.read_place.ensures) (rw c.in_err-behind.was at c.read_value.ensures))

pub returns-then-place-eq1 : goal.returns-then-place-eq1
unfolding ascii
returns-then-place-eq1 c = left-given c.args.depth (rw c.in_ok-place.was at c.read_place.ensures) (rw c.in_ok-behind.was at c.read_value.ensures) c.if-place-eq1.true

pub returns : goal.returns
unfolding ascii
returns c = right-given c.args.depth (rw c.in_ok-place.was at c.read_place.ensures) (rw c.in_ok-behind.was at c.read_value.ensures) c.if-place-eq0.false c.if-place-eq2.false c.if-place-eq1.false
