-- `json_text::token::behind_spaces` meets its contract.
use lib.ListN.{length}
use Rattle.json_text.proofs.Tokens.{Spacing}
use Rattle.json_text.proofs.token.behind_spaces.Given as goal

abbrev pub invariant-loop-i : goal.invariant-loop-i
invariant-loop-i l = Spacing l.s l.at l.i
