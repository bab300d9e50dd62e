-- `json_text::token::number_end` meets its contract.
use Rattle.json_text.proofs.Tokens.{number-there, number-nowhere}
use Rattle.json_text.proofs.token.number_end.Goals as goal

pub returns-then-is_number : goal.returns-then-is_number
returns-then-is_number c = number-there c.args.s.now c.args.at c.run_end-end.result c.run_end-end.ensures c.is_number.ensures c.if-is_number.true

pub returns : goal.returns
returns c = number-nowhere c.args.s.now c.args.at c.run_end-end.result c.run_end-end.ensures c.is_number.ensures c.if-is_number.false
