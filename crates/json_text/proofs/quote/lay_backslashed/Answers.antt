-- `json_text::quote::lay_backslashed` meets its contract.
use native.Mathlib.Omega.{arith}
use Rattle.json_text.proofs.Quoting.{laid-backslashed}
use Rattle.json_text.proofs.quote.lay_backslashed.Goals as goal

pub returns : goal.returns
returns c = laid-backslashed c.args.b (omega arith) c.lay_byte-p.ensures c.lay_byte.ensures
