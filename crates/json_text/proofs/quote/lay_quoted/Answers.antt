-- `json_text::quote::lay_quoted` meets its contract.
use native.Mathlib.Omega.{arith}
use Rattle.json_text.proofs.Quoting.{laid-quoted}
use Rattle.json_text.proofs.quote.lay_quoted.Goals as goal

pub returns : goal.returns
returns c = laid-quoted _ c.args.text.now (omega arith) c.lay_byte-p.ensures c.lay_escaped-q.ensures c.lay_byte.ensures
