-- `json_text::quote::letter_of` meets its contract.
use borrow.Author.Rules.{rules}
use Rattle.json_text.proofs.Quoting.{plain-letter, short-letter}
use Rattle.json_text.proofs.quote.letter_of.Goals as goal

pub returns-in-Plain : goal.returns-in-Plain
returns-in-Plain c = search (plain-letter, rules)

pub returns-in-Short : goal.returns-in-Short
returns-in-Short c = search (short-letter, rules)
