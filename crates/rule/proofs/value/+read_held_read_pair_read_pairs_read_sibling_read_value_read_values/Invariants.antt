-- The readers of a value, of one among others, of what a value holds, of values side by side, of a key with its value and of an object's keys, which call each other.
-- Each measure is five times the nesting that is left, and a little more for those that call another at the same nesting.
-- The loops' invariant: what has been read is right for the whole if what is left is.
use Prim.Native.Nat.{◌-◌, ◌+◌, ◌*◌}
use mathlib.Core.Bool.{true}
use mathlib.Core.Option.{none}
use Rattle.rule.proofs.SiblingLaws.{Passing}
use Rattle.rule.proofs.SiblingKinds.{values-kind, pairs-kind, sofar}
use Rattle.rule.proofs.value.+read_held_read_pair_read_pairs_read_sibling_read_value_read_values.Given as goal

abbrev pub decreases-read_held : goal.decreases-read_held
decreases-read_held l = 5 * l.depth + 4

abbrev pub decreases-read_pair : goal.decreases-read_pair
decreases-read_pair l = 5 * l.depth + 2

abbrev pub decreases-read_pairs : goal.decreases-read_pairs
decreases-read_pairs l = 5 * l.depth + 3

abbrev pub decreases-read_sibling : goal.decreases-read_sibling
decreases-read_sibling l = 5 * l.depth + 1

abbrev pub decreases-read_value : goal.decreases-read_value
decreases-read_value l = 5 * l.depth

abbrev pub decreases-read_values : goal.decreases-read_values
decreases-read_values l = 5 * l.depth + 2

abbrev pub invariant-read_pairs-loop : goal.invariant-read_pairs-loop
invariant-read_pairs-loop l =
    Passing (pairs-kind l.s l.depth) l.s l.initial.words l.words (true, none) (sofar l.s l.rise l.previous) l.count (2 * l.count) (l.count - l.counter) (2 * (l.count - l.counter)) l.c l.here

abbrev pub invariant-read_values-loop : goal.invariant-read_values-loop
invariant-read_values-loop l = Passing (values-kind l.s l.depth) l.s l.initial.words l.words tt tt l.count l.count (l.count - l.counter) (l.count - l.counter) l.initial.here l.here
