-- `json_text::token::run_end` meets its contract.
use lib.ListN.{length}
use Rattle.json_text.proofs.Tokens.{Running}
use Rattle.json_text.proofs.token.run_end.Given as goal

abbrev pub invariant-loop-i : goal.invariant-loop-i
invariant-loop-i l = Running l.s l.at l.i
