-- `text::decode_one` meets its contract.
use native.Mathlib.Omega.{arith}
use borrow.Author.Rules.{rules}
use Rattle.text.proofs.Decode.{none-past, one_byte, none-short-1, two_bytes, none-short-2, three-bytes, none-short-3, four_bytes, none_at_all}
use Rattle.text.proofs.decode_one.Goals as goal

pub returns-then-s-at : goal.returns-then-s-at
returns-then-s-at c = search (none-past, rules)

pub overflow_sub-left : goal.overflow_sub-left
overflow_sub-left c = omega arith

pub bounds-s-at : goal.bounds-s-at
bounds-s-at c = omega arith

pub wide-requires : goal.wide-requires
wide-requires c = tt

pub overflow_add-result : goal.overflow_add-result
overflow_add-result c = omega arith

pub returns-then-a-le127 : goal.returns-then-a-le127
returns-then-a-le127 c = (search (one_byte, rules), omega arith, omega arith)

pub returns-then-left-lt2 : goal.returns-then-left-lt2
returns-then-left-lt2 c = search (none-short-1, rules)

pub overflow_add-b : goal.overflow_add-b
overflow_add-b c = omega arith

pub bounds-s-at-2 : goal.bounds-s-at-2
bounds-s-at-2 c = omega arith

pub is_utf8_2-requires : goal.is_utf8_2-requires
is_utf8_2-requires c = tt

pub code_of_2-requires : goal.code_of_2-requires
code_of_2-requires c = tt

pub overflow_add-result-then-is_utf8_2 : goal.overflow_add-result-then-is_utf8_2
overflow_add-result-then-is_utf8_2 c = omega arith

pub returns-then-is_utf8_2 : goal.returns-then-is_utf8_2
returns-then-is_utf8_2 c = (search (two_bytes, rules), omega arith, omega arith)

pub returns-then-left-lt3 : goal.returns-then-left-lt3
returns-then-left-lt3 c = search (none-short-2, rules)

pub overflow_add-c : goal.overflow_add-c
overflow_add-c c = omega arith

pub bounds-s-at-3 : goal.bounds-s-at-3
bounds-s-at-3 c = omega arith

pub is_utf8_3-requires : goal.is_utf8_3-requires
is_utf8_3-requires c = tt

pub code_of_3-requires : goal.code_of_3-requires
code_of_3-requires c = tt

pub overflow_add-result-then-is_utf8_3 : goal.overflow_add-result-then-is_utf8_3
overflow_add-result-then-is_utf8_3 c = omega arith

pub returns-then-is_utf8_3 : goal.returns-then-is_utf8_3
returns-then-is_utf8_3 c = (search (three-bytes, rules), omega arith, omega arith)

pub returns-then-left-lt4 : goal.returns-then-left-lt4
returns-then-left-lt4 c = search (none-short-3, rules)

pub overflow_add-d : goal.overflow_add-d
overflow_add-d c = omega arith

pub bounds-s-at-4 : goal.bounds-s-at-4
bounds-s-at-4 c = omega arith

pub is_utf8_4-requires : goal.is_utf8_4-requires
is_utf8_4-requires c = tt

pub code_of_4-requires : goal.code_of_4-requires
code_of_4-requires c = tt

pub overflow_add-result-then-is_utf8_4 : goal.overflow_add-result-then-is_utf8_4
overflow_add-result-then-is_utf8_4 c = omega arith

pub returns-then-is_utf8_4 : goal.returns-then-is_utf8_4
returns-then-is_utf8_4 c = (search (four_bytes, rules), omega arith, omega arith)

pub returns : goal.returns
returns c = search (none_at_all, rules)
