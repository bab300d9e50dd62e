-- `json_text::unescape::lay_text` meets its contract.
use Prim.Native.Nat.{◌-◌}
use lib.ListN.{length}
use Rattle.json_text.proofs.Laying.{Laying}
use Rattle.json_text.proofs.unescape.lay_text.Given as goal

abbrev pub invariant-loop-i : goal.invariant-loop-i
invariant-loop-i l = Laying l.s l.at l.initial.out l.out l.o l.i l.e

abbrev pub decreases-loop-i : goal.decreases-loop-i
decreases-loop-i l = length l.s - l.i
