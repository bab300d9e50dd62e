-- `json_text::escape::char` meets its contract.
use native.Mathlib.Omega.{arith}
use Rattle.json_text.proofs.Chars.{char-escaped, char-refused, char-none, char_is, char-control}
use mathlib.Core.Path.{sym, ◌∙◌}
use Rattle.json_text.proofs.escape.char.Goals as goal

pub overflow_add-at : goal.overflow_add-at
overflow_add-at c = omega (arith, (rw c.if-starts_with.true at c.starts_with.ensures).within)

pub returns-in-Some : goal.returns-in-Some
returns-in-Some c = char-escaped c.args.s.now c.args.at (rw c.if-starts_with.true at c.starts_with.ensures) (rw c.in-Some.is at c.escape.ensures)

pub returns-in-None : goal.returns-in-None
returns-in-None c = char-refused c.args.s.now c.args.at (rw c.if-starts_with.true at c.starts_with.ensures) (rw c.in-None.is at c.escape.ensures)

pub returns-in_err-c : goal.returns-in_err-c
returns-in_err-c c = rw c.from_residual.ensures (char-none c.args.s.now c.args.at (rw c.if-starts_with.false at c.starts_with.ensures) (rw c.in_err-c.was at c.decode_one.ensures))

pub returns-then-is_unescaped : goal.returns-then-is_unescaped
returns-then-is_unescaped c = char_is c.args.s.now c.args.at (rw c.if-starts_with.false at c.starts_with.ensures) (rw c.in_ok-c.was at c.decode_one.ensures) (sym c.is_unescaped.ensures ∙ c.if-is_unescaped.true)

pub returns : goal.returns
returns c = char-control c.args.s.now c.args.at (rw c.if-starts_with.false at c.starts_with.ensures) (rw c.in_ok-c.was at c.decode_one.ensures) (sym c.is_unescaped.ensures ∙ c.if-is_unescaped.false)
