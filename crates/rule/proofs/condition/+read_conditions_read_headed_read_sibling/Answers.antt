use native.Mathlib.Omega.{arith}
use Prim.Native.Nat.{◌+◌, ◌-◌, ◌/◌, ◌%◌}
use mathlib.Core.Path.{◌≡◌, ap, ◌∙◌}
use lib.ListN.{length-set}
use Rattle.rule.proofs.KeptLaws.{ready-fewer, ready-inside}
use Rattle.rule.proofs.SiblingLaws.{siblings-begin, siblings-bad, siblings-next, siblings-end}
use Rattle.rule.proofs.SiblingKinds.{conditions-kind}
use Rattle.rule.proofs.ConditionAnswers.{condition-deep-answer, condition-headless-answer, operands-few, operands-unpaid-answer, operands-valueless-answer, operands-ready, operands-conditionless-answer, operands-answer}
use Rattle.rule.proofs.PlainLaws.{plain-unpaid-answer, plain-valueless-answer, plain-answer}
use Rattle.rule.proofs.condition.+read_conditions_read_headed_read_sibling.Goals as goal

pub read_conditions-loop-init : goal.read_conditions-loop-init
read_conditions-loop-init t c =
    let all : c.args.count - 0 ≡ c.args.count = omega arith in
    rw all (siblings-begin (conditions-kind c.args.s.now c.args.depth) tt c.args.count c.requires)

pub read_conditions-read_sibling-requires : goal.read_conditions-read_sibling-requires
read_conditions-read_sibling-requires t c = (omega arith, ready-fewer c.loop.invariant.ready (omega arith))

pub read_conditions-shape_of-words-in_err-next : goal.read_conditions-shape_of-words-in_err-next
read_conditions-shape_of-words-in_err-next t c = c.read_sibling.auto.words ∙ c.loop.invariant.kept.len

pub read_conditions-returns-in_err-next : goal.read_conditions-returns-in_err-next
read_conditions-returns-in_err-next t c = rw c.from_residual.ensures (siblings-bad c.loop.invariant (omega arith) (rw c.in_err-next.was at c.read_sibling.ensures))

pub read_conditions-loop-preserved : goal.read_conditions-loop-preserved
read_conditions-loop-preserved t c =
    let one : c.args.count - c.loop.counter - 1 ≡ c.args.count - (c.loop.counter + 1) = omega arith in
    rw one at (siblings-next c.loop.invariant (c.args.count - (c.loop.counter + 1)) (omega arith) (omega arith) (rw c.in_ok-next.was at c.read_sibling.ensures))

pub read_conditions-shape_of-words : goal.read_conditions-shape_of-words
read_conditions-shape_of-words t c = c.loop.invariant.kept.len

pub read_conditions-returns : goal.read_conditions-returns
read_conditions-returns t c = siblings-end c.loop.invariant (omega arith) (omega arith)

pub read_headed-returns-then-depth-eq0 : goal.read_headed-returns-then-depth-eq0
read_headed-returns-then-depth-eq0 t c = condition-deep-answer c.args.s.now c.args.words.now c.args.depth c.args.c c.if-depth-eq0.true

pub read_headed-returns-in_err-head : goal.read_headed-returns-in_err-head
read_headed-returns-in_err-head t c = rw c.from_residual.ensures (condition-headless-answer c.args.s.now c.args.words.now c.args.depth c.args.c c.if-depth-eq0.false (rw c.in_err-head.was at c.requires.1))

pub read_headed-overflow_add-cost : goal.read_headed-overflow_add-cost
read_headed-overflow_add-cost t c = let head = rw c.in_ok-head.was at c.requires.1 in let few = operands-few c.in_ok-head.head head.1 in omega (arith, few.0, few.1, ap (λ o. o.values) c.operands_of-operands.ensures, ap (λ o. o.conditions) c.operands_of-operands.ensures)

pub read_headed-returns-then-left-cost : goal.read_headed-returns-then-left-cost
read_headed-returns-then-left-cost t c =
    let head = rw c.in_ok-head.was at c.requires.1 in
    let operands = c.operands_of-operands.result in
    operands-unpaid-answer c.args.s.now c.args.words.now c.args.depth c.in_ok-head.behind operands.values operands.conditions c.args.c c.in_ok-head.head c.if-depth-eq0.false head.0 (ap (λ o. o.values) c.operands_of-operands.ensures) (ap (λ o. o.conditions) c.operands_of-operands.ensures) c.if-left-cost.true

pub read_headed-overflow_add-inner : goal.read_headed-overflow_add-inner
read_headed-overflow_add-inner t c = omega (arith, c.requires.0.budget)

pub read_headed-read_values-requires : goal.read_headed-read_values-requires
read_headed-read_values-requires t c = let head = rw c.in_ok-head.was at c.requires.1 in ready-inside c.requires.0 head.0.within (omega (arith, c.if-left-cost.false))

pub read_headed-shape_of-words-in_err-middle : goal.read_headed-shape_of-words-in_err-middle
read_headed-shape_of-words-in_err-middle t c = c.read_values.auto.words

pub read_headed-returns-in_err-middle : goal.read_headed-returns-in_err-middle
read_headed-returns-in_err-middle t c = rw c.from_residual-in_err-middle.ensures (let head = rw c.in_ok-head.was at c.requires.1 in
    let operands = c.operands_of-operands.result in
    operands-valueless-answer c.args.s.now c.args.words.now c.args.depth c.in_ok-head.behind operands.values operands.conditions c.args.c c.in_ok-head.head c.if-depth-eq0.false head.0 (ap (λ o. o.values) c.operands_of-operands.ensures) (ap (λ o. o.conditions) c.operands_of-operands.ensures) c.if-left-cost.false (rw c.in_err-middle.was at c.read_values.ensures))

pub read_headed-read_conditions-requires : goal.read_headed-read_conditions-requires
read_headed-read_conditions-requires t c = (
  omega (arith, c.if-depth-eq0.false),
  let head = rw c.in_ok-head.was at c.requires.1 in
      let operands = c.operands_of-operands.result in
      operands-ready c.args.s.now c.args.words.now c.args.depth c.in_ok-head.behind operands.values operands.conditions c.args.c c.in_ok-head.head c.if-depth-eq0.false head.0 (ap (λ o. o.values) c.operands_of-operands.ensures) (ap (λ o. o.conditions) c.operands_of-operands.ensures) c.if-left-cost.false c.requires.0 (rw c.in_ok-middle.was at c.read_values.ensures),
)

pub read_headed-shape_of-words-in_err-next : goal.read_headed-shape_of-words-in_err-next
read_headed-shape_of-words-in_err-next t c = c.read_conditions.auto.words ∙ c.read_values.auto.words

pub read_headed-returns-in_err-next : goal.read_headed-returns-in_err-next
read_headed-returns-in_err-next t c = rw c.from_residual-in_err-next.ensures (let head = rw c.in_ok-head.was at c.requires.1 in
    let operands = c.operands_of-operands.result in
    operands-conditionless-answer c.args.s.now c.args.words.now c.args.depth c.in_ok-head.behind operands.values operands.conditions c.args.c c.in_ok-head.head c.if-depth-eq0.false head.0 (ap (λ o. o.values) c.operands_of-operands.ensures) (ap (λ o. o.conditions) c.operands_of-operands.ensures) c.if-left-cost.false c.requires.0 (rw c.in_ok-middle.was at c.read_values.ensures) (rw c.in_err-next.was at c.read_conditions.ensures))

pub read_headed-word_of-requires : goal.read_headed-word_of-requires
read_headed-word_of-requires t c = let values = rw c.in_ok-middle.was at c.read_values.ensures in let conditions = rw c.in_ok-next.was at c.read_conditions.ensures in (omega (arith, c.requires.0.inside, c.requires.0.small), omega (arith, values.budget, conditions.budget, c.requires.0.budget, c.if-left-cost.false))

pub read_headed-offset_bounds-words-word : goal.read_headed-offset_bounds-words-word
read_headed-offset_bounds-words-word t c = omega (arith, c.requires.0.budget)

pub read_headed-bounds-words-word : goal.read_headed-bounds-words-word
read_headed-bounds-words-word t c = omega (arith, c.read_conditions.auto.words, c.read_values.auto.words, c.requires.0.room, c.requires.0.budget)

pub read_headed-shape_of-words : goal.read_headed-shape_of-words
read_headed-shape_of-words t c = length-set c.read_conditions.new.words c.args.c.word c.word_of.result ∙ c.read_conditions.auto.words ∙ c.read_values.auto.words

pub read_headed-returns : goal.read_headed-returns
read_headed-returns t c =
    let head = rw c.in_ok-head.was at c.requires.1 in
    let operands = c.operands_of-operands.result in
    operands-answer c.args.s.now c.args.words.now c.args.depth c.in_ok-head.behind operands.values operands.conditions c.args.c c.in_ok-head.head c.if-depth-eq0.false head.0 (ap (λ o. o.values) c.operands_of-operands.ensures) (ap (λ o. o.conditions) c.operands_of-operands.ensures) c.if-left-cost.false c.requires.0 (rw c.in_ok-middle.was at c.read_values.ensures) c.word_of.ensures (rw c.in_ok-next.was at c.read_conditions.ensures)

pub read_sibling-returns-then-depth-eq0 : goal.read_sibling-returns-then-depth-eq0
read_sibling-returns-then-depth-eq0 t c = condition-deep-answer c.args.s.now c.args.words.now c.args.depth c.args.c c.if-depth-eq0.true

pub read_sibling-read_headed-requires : goal.read_sibling-read_headed-requires
read_sibling-read_headed-requires t c = (omega arith, (c.requires, c.condition_head-head.ensures))

pub read_sibling-shape_of-words-then-plain-eq0 : goal.read_sibling-shape_of-words-then-plain-eq0
read_sibling-shape_of-words-then-plain-eq0 t c = c.read_headed.auto.words

pub read_sibling-returns-then-plain-eq0 : goal.read_sibling-returns-then-plain-eq0
read_sibling-returns-then-plain-eq0 t c = c.read_headed.ensures

pub read_sibling-returns-then-left-values : goal.read_sibling-returns-then-left-values
read_sibling-returns-then-left-values t c = plain-unpaid-answer c.args.s.now c.args.words.now c.args.depth (c.plain_condition-plain.result / 4) (c.plain_condition-plain.result % 4) c.args.c c.if-depth-eq0.false (c.plain_condition-plain.ensures (omega (arith, c.if-plain-eq0.false))) c.if-left-values.true

pub read_sibling-read_values-requires : goal.read_sibling-read_values-requires
read_sibling-read_values-requires t c = let plain = c.plain_condition-plain.ensures (omega (arith, c.if-plain-eq0.false)) in ready-inside c.requires plain.reads.within (omega (arith, c.if-left-values.false))

pub read_sibling-shape_of-words-in_err-end : goal.read_sibling-shape_of-words-in_err-end
read_sibling-shape_of-words-in_err-end t c = c.read_values.auto.words

pub read_sibling-returns-in_err-end : goal.read_sibling-returns-in_err-end
read_sibling-returns-in_err-end t c = rw c.from_residual.ensures (plain-valueless-answer c.args.s.now c.args.words.now c.args.depth (c.plain_condition-plain.result / 4) (c.plain_condition-plain.result % 4) c.args.c c.if-depth-eq0.false (c.plain_condition-plain.ensures (omega (arith, c.if-plain-eq0.false))) c.if-left-values.false (rw c.in_err-end.was at c.read_values.ensures))

pub read_sibling-word_of-requires : goal.read_sibling-word_of-requires
read_sibling-word_of-requires t c = let values = rw c.in_ok-end.was at c.read_values.ensures in (omega (arith, c.requires.inside, c.requires.small), omega (arith, values.budget, c.requires.budget, c.if-left-values.false))

pub read_sibling-bounds-words-word : goal.read_sibling-bounds-words-word
read_sibling-bounds-words-word t c = omega (arith, c.read_values.auto.words, c.requires.room, c.requires.budget)

pub read_sibling-shape_of-words : goal.read_sibling-shape_of-words
read_sibling-shape_of-words t c = length-set c.read_values.new.words c.args.c.word c.word_of.result ∙ c.read_values.auto.words

pub read_sibling-returns : goal.read_sibling-returns
read_sibling-returns t c = plain-answer c.args.s.now c.args.words.now c.args.depth (c.plain_condition-plain.result / 4) (c.plain_condition-plain.result % 4) c.args.c c.if-depth-eq0.false (c.plain_condition-plain.ensures (omega (arith, c.if-plain-eq0.false))) c.if-left-values.false c.requires (rw c.in_ok-end.was at c.read_values.ensures) c.word_of.ensures
