-- `json_sheet::texts::same_text` meets its contract: what is right for the chars left is right for all.
use Prim.Native.Nat.{◌-◌}
use mathlib.Core.Bool.{Bool}
use lib.ListN.{length}
use Rattle.json_keys.specs.Texts.{SameText}
use Rattle.json_sheet.proofs.texts.same_text.Given as goal

abbrev pub invariant-loop-a : goal.invariant-loop-a
invariant-loop-a l = (r : Bool) → SameText l.s l.i l.j r → SameText l.s l.a l.b r

abbrev pub decreases-loop-a : goal.decreases-loop-a
decreases-loop-a l = length l.s - l.i
