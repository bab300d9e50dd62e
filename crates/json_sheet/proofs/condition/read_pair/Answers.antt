use native.Mathlib.Omega.{arith}
use Rattle.json_sheet.proofs.Operands.{pair-unread, pair-alone, pair-single, pair-half, pair-open, pair-third, pair-given}
use Rattle.json_sheet.proofs.condition.read_pair.Goals as goal

pub returns-in_err-next : goal.returns-in_err-next
returns-in_err-next c = rw c.from_residual.ensures (pair-unread c.args.op c.args.depth c.behind_spaces-i.ensures (rw c.in_err-next.was at c.read_value.ensures))

pub read_separator-requires : goal.read_separator-requires
read_separator-requires c = let g = (rw c.in_ok-next.was at c.read_value.ensures) in g.read.within

pub returns-in_err-behind-in-More : goal.returns-in_err-behind-in-More
returns-in_err-behind-in-More c = rw c.from_residual-in_err-behind-in-More.ensures (pair-half c.args.op c.args.depth c.behind_spaces-i.ensures (rw c.in_ok-next.was at c.read_value.ensures) (rw c.in-More.is at (rw c.in_ok-j.was at c.read_separator.ensures)) (rw c.in_err-behind-in-More.was at c.read_value-in-More.ensures))

pub read_separator-requires-in-More : goal.read_separator-requires-in-More
read_separator-requires-in-More c = let g = (rw c.in_ok-behind-in-More.was at c.read_value-in-More.ensures) in g.read.within

pub returns-in-More-2 : goal.returns-in-More-2
returns-in-More-2 c = pair-third c.args.op c.args.depth c.behind_spaces-i.ensures (rw c.in_ok-next.was at c.read_value.ensures) (rw c.in-More.is at (rw c.in_ok-j.was at c.read_separator.ensures)) (rw c.in_ok-behind-in-More.was at c.read_value-in-More.ensures) (rw c.in-More-2.is at (rw c.in_ok-k-in-More.was at c.read_separator-in-More.ensures))

pub returns-in-End-2 : goal.returns-in-End-2
returns-in-End-2 c = pair-given c.args.op c.args.depth c.behind_spaces-i.ensures (rw c.in_ok-next.was at c.read_value.ensures) (rw c.in-More.is at (rw c.in_ok-j.was at c.read_separator.ensures)) (rw c.in_ok-behind-in-More.was at c.read_value-in-More.ensures) (omega (arith, c.type_inv)) c.lay_plain-start.ensures (rw c.in-End-2.is at (rw c.in_ok-k-in-More.was at c.read_separator-in-More.ensures))

pub returns-in_err-k-in-More : goal.returns-in_err-k-in-More
returns-in_err-k-in-More c = rw c.from_residual-in_err-k-in-More.ensures (pair-open c.args.op c.args.depth c.behind_spaces-i.ensures (rw c.in_ok-next.was at c.read_value.ensures) (rw c.in-More.is at (rw c.in_ok-j.was at c.read_separator.ensures)) (rw c.in_ok-behind-in-More.was at c.read_value-in-More.ensures) (rw c.in_err-k-in-More.was at c.read_separator-in-More.ensures))

pub returns-in-End : goal.returns-in-End
returns-in-End c = pair-single c.args.op c.args.depth c.behind_spaces-i.ensures (rw c.in_ok-next.was at c.read_value.ensures) (rw c.in-End.is at (rw c.in_ok-j.was at c.read_separator.ensures))

pub returns-in_err-j : goal.returns-in_err-j
returns-in_err-j c = rw c.from_residual-in_err-j.ensures (pair-alone c.args.op c.args.depth c.behind_spaces-i.ensures (rw c.in_ok-next.was at c.read_value.ensures) (rw c.in_err-j.was at c.read_separator.ensures))
