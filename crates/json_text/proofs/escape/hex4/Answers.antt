-- `json_text::escape::hex4` meets its contract.
use native.Mathlib.Omega.{arith}
use borrow.Author.Rules.{rules}
use Rattle.json_text.proofs.Hex.{hex4-none-1, hex4-none-2, hex4-none-3, hex4-none-4, hex4-some}
use Rattle.json_text.proofs.escape.hex4.Goals as goal

pub returns-then-a-ge16 : goal.returns-then-a-ge16
returns-then-a-ge16 c = search (hex4-none-1, rules)

pub overflow_add-at : goal.overflow_add-at
overflow_add-at c = omega (arith, (c.hex_digit-a.ensures.read (omega arith)).within)

pub returns-then-b-ge16 : goal.returns-then-b-ge16
returns-then-b-ge16 c = search (hex4-none-2, rules)

pub overflow_add-at-2 : goal.overflow_add-at-2
overflow_add-at-2 c = omega (arith, (c.hex_digit-b.ensures.read (omega arith)).within)

pub returns-then-c-ge16 : goal.returns-then-c-ge16
returns-then-c-ge16 c = search (hex4-none-3, rules)

pub overflow_add-at-3 : goal.overflow_add-at-3
overflow_add-at-3 c = omega (arith, (c.hex_digit-c.ensures.read (omega arith)).within)

pub returns-then-d-ge16 : goal.returns-then-d-ge16
returns-then-d-ge16 c = search (hex4-none-4, rules)

pub overflow_add-result-4 : goal.overflow_add-result-4
overflow_add-result-4 c = omega (arith, (c.hex_digit-d.ensures.read (omega arith)).within)

pub returns : goal.returns
returns c = search (hex4-some, rules)
