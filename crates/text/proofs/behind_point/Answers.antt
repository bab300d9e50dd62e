-- `text::behind_point` meets its contract, by the bytes that are there.
use native.Mathlib.Omega.{arith}
use mathlib.Core.Path.{refl}
use Rattle.text.proofs.Decode.{none-short-1, two_bytes, none-short-2, three-bytes, none-short-3, four_bytes, none_at_all}
use Rattle.text.proofs.Passes.{none-behind, point-behind}
use Rattle.text.proofs.behind_point.Goals as goal

pub overflow_sub-left : goal.overflow_sub-left
overflow_sub-left c = omega arith

pub returns-then-left-lt2 : goal.returns-then-left-lt2
returns-then-left-lt2 c =
    let s = c.args.s.now in
    let at = c.args.at in
    none-behind s at c.requires.0 (none-short-1 s at c.requires.1 c.requires.0 c.if-left-lt2.true)

pub bounds-s-at : goal.bounds-s-at
bounds-s-at c = omega arith

pub overflow_add-b : goal.overflow_add-b
overflow_add-b c = omega arith

pub bounds-s-at-2 : goal.bounds-s-at-2
bounds-s-at-2 c = omega arith

pub is_utf8_2-requires : goal.is_utf8_2-requires
is_utf8_2-requires c = tt

pub overflow_add-result : goal.overflow_add-result
overflow_add-result c = omega arith

pub returns-then-is_utf8_2 : goal.returns-then-is_utf8_2
returns-then-is_utf8_2 c =
    let s = c.args.s.now in
    let at = c.args.at in
    point-behind s at 2 (omega arith) (omega arith) (two_bytes s at c.requires.1 c.if-left-lt2.false c.is_utf8_2.ensures c.if-is_utf8_2.true refl)

pub returns-then-left-lt3 : goal.returns-then-left-lt3
returns-then-left-lt3 c =
    let s = c.args.s.now in
    let at = c.args.at in
    none-behind s at c.requires.0 (none-short-2 s at c.requires.1 c.is_utf8_2.ensures c.if-is_utf8_2.false c.if-left-lt2.false c.if-left-lt3.true)

pub overflow_add-c : goal.overflow_add-c
overflow_add-c c = omega arith

pub bounds-s-at-3 : goal.bounds-s-at-3
bounds-s-at-3 c = omega arith

pub is_utf8_3-requires : goal.is_utf8_3-requires
is_utf8_3-requires c = tt

pub overflow_add-result-then-is_utf8_3 : goal.overflow_add-result-then-is_utf8_3
overflow_add-result-then-is_utf8_3 c = omega arith

pub returns-then-is_utf8_3 : goal.returns-then-is_utf8_3
returns-then-is_utf8_3 c =
    let s = c.args.s.now in
    let at = c.args.at in
    point-behind s at 3 (omega arith) (omega arith) (three-bytes s at c.requires.1 c.is_utf8_2.ensures c.if-is_utf8_2.false c.if-left-lt3.false c.is_utf8_3.ensures c.if-is_utf8_3.true refl)

pub returns-then-left-lt4 : goal.returns-then-left-lt4
returns-then-left-lt4 c =
    let s = c.args.s.now in
    let at = c.args.at in
    none-behind s at c.requires.0 (none-short-3 s at c.requires.1 c.is_utf8_2.ensures c.if-is_utf8_2.false c.is_utf8_3.ensures c.if-is_utf8_3.false c.if-left-lt3.false c.if-left-lt4.true)

pub overflow_add-at : goal.overflow_add-at
overflow_add-at c = omega arith

pub bounds-s-at-4 : goal.bounds-s-at-4
bounds-s-at-4 c = omega arith

pub is_utf8_4-requires : goal.is_utf8_4-requires
is_utf8_4-requires c = tt

pub overflow_add-result-then-is_utf8_4 : goal.overflow_add-result-then-is_utf8_4
overflow_add-result-then-is_utf8_4 c = omega arith

pub returns-then-is_utf8_4 : goal.returns-then-is_utf8_4
returns-then-is_utf8_4 c =
    let s = c.args.s.now in
    let at = c.args.at in
    point-behind s at 4 (omega arith) (omega arith) (four_bytes s at c.requires.1 c.is_utf8_2.ensures c.if-is_utf8_2.false c.is_utf8_3.ensures c.if-is_utf8_3.false c.if-left-lt4.false c.is_utf8_4.ensures c.if-is_utf8_4.true refl)

pub returns : goal.returns
returns c =
    let s = c.args.s.now in
    let at = c.args.at in
    none-behind s at c.requires.0 (none_at_all s at c.requires.1 c.is_utf8_2.ensures c.if-is_utf8_2.false c.is_utf8_3.ensures c.if-is_utf8_3.false c.if-left-lt4.false c.is_utf8_4.ensures c.if-is_utf8_4.false)
