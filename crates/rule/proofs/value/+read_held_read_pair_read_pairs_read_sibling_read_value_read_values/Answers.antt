use native.Mathlib.Omega.{arith}
use Prim.Native.Nat.{◌+◌, ◌-◌}
use mathlib.Core.Bool.{true}
use mathlib.Core.Option.{none}
use mathlib.Core.Path.{◌≡◌, ◌∙◌}
use lib.ListN.{drop}
use Rattle.text.specs.Parts.{part_of, optional_of}
use Rattle.definition.specs.Decode.{value_in}
use Rattle.rule.specs.Read.{ahead_of}
use Rattle.rule.proofs.CloseLaws.{pair-closed}
use Rattle.rule.proofs.ValueAnswers.{value-deep-answer, value-headless-answer, held-few, held-unpaid-answer, held-bad-answer, held-limit, held-answer}
use Rattle.rule.proofs.KeptLaws.{ready-fewer, ready-inside, kept-all, kept-wider}
use Rattle.rule.proofs.LeafLaws.{leaf-answer}
use Rattle.rule.proofs.ValueLaws.{pair-keyless, pair-valueless}
use Rattle.rule.proofs.SiblingLaws.{siblings-begin, siblings-bad, siblings-next, siblings-end}
use Rattle.rule.proofs.SiblingKinds.{values-kind, pairs-kind, pairs_next, object-bad, object-rises, object-differs, object-repeats}
use Rattle.rule.proofs.value.+read_held_read_pair_read_pairs_read_sibling_read_value_read_values.Goals as goal

pub read_held-read_values-requires : goal.read_held-read_values-requires
read_held-read_values-requires t c = (omega arith, rw c.in-Values.is at c.requires)

pub read_held-read_pairs-requires : goal.read_held-read_pairs-requires
read_held-read_pairs-requires t c = (omega arith, rw c.in-Pairs.is at c.requires)

pub read_held-shape_of-words-in-Values : goal.read_held-shape_of-words-in-Values
read_held-shape_of-words-in-Values t c = c.read_values.auto.words

pub read_held-returns-in-Values : goal.read_held-returns-in-Values
read_held-returns-in-Values t c = rw c.in-Values.is c.read_values.ensures

pub read_held-shape_of-words-in-Pairs : goal.read_held-shape_of-words-in-Pairs
read_held-shape_of-words-in-Pairs t c = c.read_pairs.auto.words

pub read_held-returns-in-Pairs : goal.read_held-returns-in-Pairs
read_held-returns-in-Pairs t c = rw c.in-Pairs.is c.read_pairs.ensures

pub read_pair-returns-in_err-key : goal.read_pair-returns-in_err-key
read_pair-returns-in_err-key t c = rw c.from_residual.ensures ((pair-keyless (value_in c.args.depth) (ahead_of c.args.s.now c.args.c) (rw c.in_err-key.was at c.key_head.ensures), kept-all))

pub read_pair-read_sibling-requires : goal.read_pair-read_sibling-requires
read_pair-read_sibling-requires t c = let key = rw c.in_ok-key.was at c.key_head.ensures in (omega arith, ready-inside c.requires key.within (omega arith))

pub read_pair-returns-in_err-next : goal.read_pair-returns-in_err-next
read_pair-returns-in_err-next t c = rw c.from_residual-in_err-next.ensures (let s = c.args.s.now in
    let key = rw c.in_ok-key.was at c.key_head.ensures in
    let bad = rw c.in_err-next.was at c.read_sibling.ensures in
    (pair-valueless (value_in c.args.depth) (ahead_of s c.args.c) (part_of s c.in_ok-key.key) (drop c.in_ok-key.behind s) key.reads bad.0, kept-wider bad.1 (omega arith) (omega arith)))

pub read_pair-word_of-requires : goal.read_pair-word_of-requires
read_pair-word_of-requires t c = let inner = rw c.in_ok-next.was at c.read_sibling.ensures in (omega (arith, c.requires.inside, c.requires.small), omega (arith, inner.budget, c.requires.budget))

pub read_pair-returns : goal.read_pair-returns
read_pair-returns t c =
    let s = c.args.s.now in
    let key = rw c.in_ok-key.was at c.key_head.ensures in
    let inner = rw c.in_ok-next.was at c.read_sibling.ensures in
    pair-closed s c.args.words.now c.read_sibling.new.words c.args.c c.in_ok-next.next c.args.depth c.in_ok-key.behind c.word_of.result (part_of s c.in_ok-key.key) c.requires key.reads c.word_of.ensures inner

pub read_pairs-loop-init : goal.read_pairs-loop-init
unfolding optional_of
read_pairs-loop-init t c =
    let all : c.args.count - 0 ≡ c.args.count = omega arith in
    rw all (siblings-begin (pairs-kind c.args.s.now c.args.depth) (true, none) c.args.count c.requires)

pub read_pairs-read_pair-requires : goal.read_pairs-read_pair-requires
read_pairs-read_pair-requires t c = (omega arith, ready-fewer c.loop.invariant.ready (omega arith))

pub read_pairs-shape_of-words-in_err-key : goal.read_pairs-shape_of-words-in_err-key
read_pairs-shape_of-words-in_err-key t c = c.read_pair.auto.words ∙ c.loop.invariant.kept.len

pub read_pairs-returns-in_err-key : goal.read_pairs-returns-in_err-key
read_pairs-returns-in_err-key t c = rw c.from_residual.ensures (object-bad c.args.depth c.loop.invariant (omega arith) (rw c.in_err-key.was at c.read_pair.ensures))

pub read_pairs-loop-preserved : goal.read_pairs-loop-preserved
read_pairs-loop-preserved t c =
    let one : c.args.count - c.loop.counter - 1 ≡ c.args.count - (c.loop.counter + 1) = omega arith in
    rw one at (pairs_next c.args.depth c.loop.rise c.loop.previous c.in_ok-key.key c.loop.invariant (omega arith) (rw c.in_ok-key.was at c.read_pair.ensures) c.still_rise-rise.ensures)

pub read_pairs-shape_of-words-then-rise : goal.read_pairs-shape_of-words-then-rise
read_pairs-shape_of-words-then-rise t c = c.loop.invariant.kept.len

pub read_pairs-returns-then-rise : goal.read_pairs-returns-then-rise
read_pairs-returns-then-rise t c = object-rises c.args.depth c.loop.previous c.loop.invariant (omega arith) c.if-rise.true

pub read_pairs-none_twice-requires : goal.read_pairs-none_twice-requires
read_pairs-none_twice-requires t c = omega (arith, c.requires.budget)

pub read_pairs-shape_of-words-then-none_twice : goal.read_pairs-shape_of-words-then-none_twice
read_pairs-shape_of-words-then-none_twice t c = c.loop.invariant.kept.len

pub read_pairs-returns-then-none_twice : goal.read_pairs-returns-then-none_twice
read_pairs-returns-then-none_twice t c = object-differs c.args.depth c.loop.previous c.loop.invariant (omega arith) c.none_twice.ensures c.if-none_twice.true

pub read_pairs-shape_of-words : goal.read_pairs-shape_of-words
read_pairs-shape_of-words t c = c.loop.invariant.kept.len

pub read_pairs-returns : goal.read_pairs-returns
read_pairs-returns t c = object-repeats c.args.depth c.loop.previous c.loop.invariant (omega arith) c.none_twice.ensures c.if-none_twice.false

pub read_sibling-returns-then-depth-eq0 : goal.read_sibling-returns-then-depth-eq0
read_sibling-returns-then-depth-eq0 t c = value-deep-answer c.args.s.now c.args.words.now c.args.depth c.args.c c.if-depth-eq0.true

pub read_sibling-read_value-requires : goal.read_sibling-read_value-requires
read_sibling-read_value-requires t c = (omega arith, c.requires)

pub read_sibling-shape_of-words-then-end-eq0 : goal.read_sibling-shape_of-words-then-end-eq0
read_sibling-shape_of-words-then-end-eq0 t c = c.read_value.auto.words

pub read_sibling-returns-then-end-eq0 : goal.read_sibling-returns-then-end-eq0
read_sibling-returns-then-end-eq0 t c = c.read_value.ensures

pub read_sibling-word_of-requires : goal.read_sibling-word_of-requires
read_sibling-word_of-requires t c = let ready = c.requires in omega (arith, ready.inside, ready.small, ready.budget)

pub read_sibling-bounds-words-word : goal.read_sibling-bounds-words-word
read_sibling-bounds-words-word t c = let ready = c.requires in omega (arith, ready.room, ready.budget)

pub read_sibling-returns : goal.read_sibling-returns
read_sibling-returns t c = leaf-answer c.args.s.now c.args.words.now c.args.depth c.args.c c.if-depth-eq0.false (c.leaf_end-end.ensures (omega (arith, c.if-end-eq0.false))) c.requires c.word_of.ensures

pub read_value-returns-then-depth-eq0 : goal.read_value-returns-then-depth-eq0
read_value-returns-then-depth-eq0 t c = value-deep-answer c.args.s.now c.args.words.now c.args.depth c.args.c c.if-depth-eq0.true

pub read_value-returns-in_err-head : goal.read_value-returns-in_err-head
read_value-returns-in_err-head t c = rw c.from_residual.ensures (value-headless-answer c.args.s.now c.args.words.now c.args.depth c.args.c c.if-depth-eq0.false (rw c.in_err-head.was at c.value_head.ensures))

pub read_value-cost_of-cost-requires : goal.read_value-cost_of-cost-requires
read_value-cost_of-cost-requires t c = let head = rw c.in_ok-head.was at c.value_head.ensures in rw c.held_by-held.ensures (held-few c.in_ok-head.head head.1)

pub read_value-returns-then-left-cost : goal.read_value-returns-then-left-cost
read_value-returns-then-left-cost t c =
    let head = rw c.in_ok-head.was at c.value_head.ensures in
    held-unpaid-answer c.args.s.now c.args.words.now c.args.depth c.in_ok-head.behind c.args.c c.in_ok-head.head c.if-depth-eq0.false head.0 c.cost_of-cost.result c.held_by-held.result c.held_by-held.ensures c.cost_of-cost.ensures c.if-left-cost.true

pub read_value-read_held-requires : goal.read_value-read_held-requires
read_value-read_held-requires t c = let head = rw c.in_ok-head.was at c.value_head.ensures in (omega (arith, c.if-depth-eq0.false), rw (← c.cost_of-cost.ensures) (ready-inside c.requires head.0.within (omega (arith, c.if-left-cost.false))))

pub read_value-returns-in_err-next : goal.read_value-returns-in_err-next
read_value-returns-in_err-next t c = rw c.from_residual-in_err-next.ensures (let head = rw c.in_ok-head.was at c.value_head.ensures in
    held-bad-answer c.args.s.now c.args.words.now c.args.depth c.in_ok-head.behind c.args.c c.in_ok-head.head c.if-depth-eq0.false head.0 c.read_held.new.words c.cost_of-cost.result c.if-left-cost.false c.held_by-held.result c.held_by-held.ensures c.cost_of-cost.ensures (rw c.in_err-next.was at c.read_held.ensures))

pub read_value-word_of-requires : goal.read_value-word_of-requires
read_value-word_of-requires t c = (
  omega (arith, c.requires.inside, c.requires.small),
  let head = rw c.in_ok-head.was at c.value_head.ensures in
      held-limit c.args.s.now c.args.words.now c.args.depth c.in_ok-head.behind c.args.c c.in_ok-head.head c.if-depth-eq0.false head.0 c.read_held.new.words c.cost_of-cost.result c.if-left-cost.false c.in_ok-next.next c.held_by-held.result c.requires c.cost_of-cost.ensures (rw c.in_ok-next.was at c.read_held.ensures),
)

pub read_value-returns : goal.read_value-returns
read_value-returns t c =
    let head = rw c.in_ok-head.was at c.value_head.ensures in
    held-answer c.args.s.now c.args.words.now c.args.depth c.in_ok-head.behind c.args.c c.in_ok-head.head c.if-depth-eq0.false head.0 c.read_held.new.words c.cost_of-cost.result c.if-left-cost.false c.in_ok-next.next c.held_by-held.result c.held_by-held.ensures c.cost_of-cost.ensures c.requires c.word_of.ensures (rw c.in_ok-next.was at c.read_held.ensures)

pub read_values-loop-init : goal.read_values-loop-init
read_values-loop-init t c =
    let all : c.args.count - 0 ≡ c.args.count = omega arith in
    rw all (siblings-begin (values-kind c.args.s.now c.args.depth) tt c.args.count c.requires)

pub read_values-read_sibling-requires : goal.read_values-read_sibling-requires
read_values-read_sibling-requires t c = (omega arith, ready-fewer c.loop.invariant.ready (omega arith))

pub read_values-shape_of-words-in_err-next : goal.read_values-shape_of-words-in_err-next
read_values-shape_of-words-in_err-next t c = c.read_sibling.auto.words ∙ c.loop.invariant.kept.len

pub read_values-returns-in_err-next : goal.read_values-returns-in_err-next
read_values-returns-in_err-next t c = rw c.from_residual.ensures (siblings-bad c.loop.invariant (omega arith) (rw c.in_err-next.was at c.read_sibling.ensures))

pub read_values-loop-preserved : goal.read_values-loop-preserved
read_values-loop-preserved t c =
    let one : c.args.count - c.loop.counter - 1 ≡ c.args.count - (c.loop.counter + 1) = omega arith in
    rw one at (siblings-next c.loop.invariant (c.args.count - (c.loop.counter + 1)) (omega arith) (omega arith) (rw c.in_ok-next.was at c.read_sibling.ensures))

pub read_values-shape_of-words : goal.read_values-shape_of-words
read_values-shape_of-words t c = c.loop.invariant.kept.len

pub read_values-returns : goal.read_values-returns
read_values-returns t c = siblings-end c.loop.invariant (omega arith) (omega arith)
