-- `json_sheet::texts::slot_of` meets its contract: the chars left, stirred into the number so far, give what all give.
use Prim.Native.Nat.{ℕ, ◌-◌, ◌<◌}
use lib.ListN.{length}
use Rattle.json_keys.specs.TextLaws.{Stirs}
use Rattle.json_sheet.proofs.texts.slot_of.Given as goal

abbrev pub invariant-loop-at : goal.invariant-loop-at
invariant-loop-at l = ((r : ℕ) → Stirs l.s l.i l.h r → Stirs l.s l.at 0 r) × (l.h < 4294967296)

abbrev pub decreases-loop-at : goal.decreases-loop-at
decreases-loop-at l = length l.s - l.i
