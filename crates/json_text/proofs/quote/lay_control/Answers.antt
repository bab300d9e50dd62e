-- `json_text::quote::lay_control` meets its contract.
use native.Mathlib.Omega.{arith}
use borrow.Author.Rules.{rules}
use Rattle.json_text.proofs.Quoting.{laid-number, laid-letter}
use Rattle.json_text.proofs.quote.lay_control.Goals as goal

pub returns-then-letter-eq0 : goal.returns-then-letter-eq0
returns-then-letter-eq0 c = laid-number c.args.letter c.args.b (omega arith) c.if-letter-eq0.true c.lay-p.ensures c.hex_of.ensures c.lay_byte-q.ensures c.hex_of-then-letter-eq0.ensures c.lay_byte.ensures

pub returns : goal.returns
returns c = search (laid-letter, rules)
