-- Whether a name rises above the one before it.
use Prim.Native.Nat.{ℕ, zero, suc}
use mathlib.Core.Bool.{Bool, true}
use mathlib.Core.List.{List}
use mathlib.Core.Path.{◌≡◌, refl, sym}
use Rattle.text.specs.Order.{precedes, follows}
use Rattle.text.specs.Parts.{part_of}
use Rattle.text.specs.declared.part.Part.{Part}
use Rattle.schema.specs.Fields.{name_before}

pub rises-first : (s : List ℕ) (i : ℕ) (before : Part) (name : List ℕ) → i ≡ 0 → true ≡ follows (name_before s i before) name
unfolding follows name_before
rises-first s i before name e = rw e

pub rises-behind : (s : List ℕ) (i : ℕ) (before : Part) (name : List ℕ) (r : Bool) → (i ≡ 0 → ⊥) → precedes (part_of s before) name ≡ r → r ≡ follows (name_before s i before) name
unfolding follows name_before
rises-behind s zero before name r n e = absurd (n refl)
rises-behind s (suc i) before name r n e = sym e
