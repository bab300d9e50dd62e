-- `json_text::between::read_key` meets its contract.
use native.Mathlib.Omega.{arith}
use Rattle.json_text.proofs.Separating.{key-other, key-unread, key-alone, key_reads}
use Rattle.json_text.proofs.between.read_key.Goals as goal

pub overflow_add-at : goal.overflow_add-at
overflow_add-at c = let q = rw c.if-starts_with.true at c.starts_with.ensures in omega (arith, q.within)

pub read_string-requires : goal.read_string-requires
read_string-requires c = let q = rw c.if-starts_with.true at c.starts_with.ensures in q.within

pub returns-in_err-len : goal.returns-in_err-len
returns-in_err-len c = rw c.from_residual.ensures (key-unread (rw c.if-starts_with.true at c.starts_with.ensures) (rw c.in_err-len.was at c.read_string.ensures))

pub behind_spaces-i-requires : goal.behind_spaces-i-requires
behind_spaces-i-requires c = let t = rw c.in_ok-len.was at c.read_string.ensures in t.read.within

pub behind_spaces-requires : goal.behind_spaces-requires
behind_spaces-requires c = let q = rw c.if-starts_with-2.true at c.starts_with-then-starts_with.ensures in q.within

pub returns-then-starts_with-2 : goal.returns-then-starts_with-2
returns-then-starts_with-2 c = key_reads (rw c.if-starts_with.true at c.starts_with.ensures) (rw c.in_ok-len.was at c.read_string.ensures) c.behind_spaces-i.ensures (rw c.if-starts_with-2.true at c.starts_with-then-starts_with.ensures) c.behind_spaces.ensures

pub returns-then-starts_with : goal.returns-then-starts_with
returns-then-starts_with c = key-alone (rw c.if-starts_with.true at c.starts_with.ensures) (rw c.in_ok-len.was at c.read_string.ensures) c.behind_spaces-i.ensures (rw c.if-starts_with-2.false at c.starts_with-then-starts_with.ensures)

pub returns : goal.returns
returns c = key-other c.args.s.now c.args.at (rw c.if-starts_with.false at c.starts_with.ensures)
