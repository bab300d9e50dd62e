-- `number::grammar::run_end` meets its contract: where the digits from `i` on end is where those from `at` on do, at each turn.
use Prim.Native.Nat.{◌+◌, ◌≤◌, max}
use mathlib.Core.Path.{◌≡◌}
use lib.ListN.{length, drop}
use Rattle.number.specs.Grammar.{run}
use Rattle.number.proofs.grammar.run_end.Given as goal

abbrev pub invariant-loop-i : goal.invariant-loop-i
invariant-loop-i l = (l.i + length (run (drop l.i l.s)) ≡ l.at + length (run (drop l.at l.s))) × (l.i ≤ max l.at (length l.s))
