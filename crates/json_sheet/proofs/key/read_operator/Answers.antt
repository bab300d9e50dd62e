use mathlib.Core.Path.{sym, ap, ◌∙◌}
use Rattle.json_rule.specs.Shape.{operator_of}
use Rattle.json_sheet.proofs.Naming.{operators-long, chosen, unchosen}
use native.Mathlib.Omega.{arith}
use Rattle.json_sheet.proofs.key.read_operator.Goals as goal

pub returns-in_err-len : goal.returns-in_err-len
returns-in_err-len c = rw c.from_residual.ensures (rw c.in_err-len.was at c.read_name.ensures)

pub returns-then-len-gt-WORD_BYTES : goal.returns-then-len-gt-WORD_BYTES
returns-then-len-gt-WORD_BYTES c = unchosen operator_of (omega arith) (rw c.in_ok-len.was at c.read_name.ensures) operators-long

pub returns : goal.returns
returns c = chosen operator_of (omega arith) (rw c.in_ok-len.was at c.read_name.ensures) (λ t e. c.operator_of.ensures ∙ ap operator_of (sym e))
