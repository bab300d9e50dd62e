-- `json_value::lay_key` meets its contract.
use native.Mathlib.Omega.{arith}
use Rattle.json_value.proofs.Laying.{no_key, key-unread, key-laid}
use Rattle.json_value.proofs.lay_key.Goals as goal

pub returns-then-keys-eq0 : goal.returns-then-keys-eq0
returns-then-keys-eq0 c = no_key c.if-keys-eq0.true (omega arith)

pub returns-in_default : goal.returns-in_default
returns-in_default c = key-unread c.if-keys-eq0.false c.start_of.ensures (rw c.in_default.is at c.key_head.ensures)

pub returns : goal.returns
returns c = key-laid (omega arith) c.if-keys-eq0.false c.start_of.ensures (rw c.in-Some.is at c.key_head.ensures) c.bytes_of.ensures c.lay_quoted-colon.ensures c.lay_byte.ensures
