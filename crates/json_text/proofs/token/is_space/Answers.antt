-- `json_text::token::is_space` meets its contract.
use borrow.Author.Rules.{rules}
use Rattle.json_text.proofs.Tokens.{space-1, space-2, space-3, space-4}
use Rattle.json_text.proofs.token.is_space.Goals as goal

pub returns-then-b-eq32 : goal.returns-then-b-eq32
returns-then-b-eq32 c = search (space-1, rules)

pub returns-then-b-eq9 : goal.returns-then-b-eq9
returns-then-b-eq9 c = search (space-2, rules)

pub returns-then-b-eq10 : goal.returns-then-b-eq10
returns-then-b-eq10 c = search (space-3, rules)

pub returns : goal.returns
returns c = search (space-4, rules)
