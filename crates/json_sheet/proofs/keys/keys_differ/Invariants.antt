-- `json_sheet::keys::keys_differ` meets its contract: what is right for the text left is right for all of it.
use Prim.Native.Nat.{◌-◌, ◌≤◌}
use mathlib.Core.Bool.{Bool}
use mathlib.Core.Path.{◌≡◌}
use lib.ListN.{length}
use Rattle.json_keys.specs.Repeats.{batch, KeysDiffer}
use Rattle.json_keys.specs.ScanLaws.{ScanIs}
use Rattle.json_sheet.proofs.keys.keys_differ.Given as goal

abbrev pub invariant-loop-i : goal.invariant-loop-i
invariant-loop-i l =
    (l.i ≤ length l.text) × (length l.links ≡ batch) × (length l.places ≡ batch) × ((r : Bool) → ScanIs l.text l.i r → KeysDiffer l.text r)

abbrev pub decreases-loop-i : goal.decreases-loop-i
decreases-loop-i l = length l.text - l.i
