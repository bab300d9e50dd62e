-- `json_text::token::is_spelled` meets its contract.
use lib.ListN.{length}
use Rattle.json_text.proofs.Tokens.{Spelling}
use Rattle.json_text.proofs.token.is_spelled.Given as goal

abbrev pub invariant-loop-i : goal.invariant-loop-i
invariant-loop-i l = Spelling l.word l.s l.at l.i
