-- `json_text::quote::lay_escaped` meets its contract.
use Prim.Native.Nat.{◌-◌}
use lib.ListN.{length}
use Rattle.json_text.specs.Quoted.{escapes_of}
use Rattle.json_text.proofs.Quoting.{Escaping}
use Rattle.json_text.proofs.quote.lay_escaped.Given as goal

abbrev pub invariant-loop-i : goal.invariant-loop-i
invariant-loop-i l = Escaping (escapes_of l.how) l.text l.initial.out l.out l.o l.i l.e

abbrev pub decreases-loop-i : goal.decreases-loop-i
decreases-loop-i l = length l.text - l.i
