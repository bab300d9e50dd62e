-- `json_text::quote::short_letter` meets its contract.
use borrow.Author.Rules.{rules}
use Rattle.json_text.proofs.Quoting.{letter-b, letter-t, letter-n, letter-f, letter-r, no-letter}
use Rattle.json_text.proofs.quote.short_letter.Goals as goal

pub returns-then-b-eq8 : goal.returns-then-b-eq8
returns-then-b-eq8 c = search (letter-b, rules)

pub returns-then-b-eq9 : goal.returns-then-b-eq9
returns-then-b-eq9 c = search (letter-t, rules)

pub returns-then-b-eq10 : goal.returns-then-b-eq10
returns-then-b-eq10 c = search (letter-n, rules)

pub returns-then-b-eq12 : goal.returns-then-b-eq12
returns-then-b-eq12 c = search (letter-f, rules)

pub returns-then-b-eq13 : goal.returns-then-b-eq13
returns-then-b-eq13 c = search (letter-r, rules)

pub returns : goal.returns
returns c = search (no-letter, rules)
