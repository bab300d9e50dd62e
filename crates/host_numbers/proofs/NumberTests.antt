-- The two answers of a number's test as one number.
use Prim.Native.Nat.{ℕ, ◌+◌, ◌*◌, ◌≤◌}
use mathlib.Core.Bool.{true, false}
use mathlib.Core.List.{List}
use mathlib.Core.Path.{◌≡◌}
use Rattle.number.specs.Finite.{is_finite}
use Rattle.number.specs.FirstDigit.{compared}
use Rattle.number.proofs.ComparedLaws.{compared-within}
use Rattle.number.specs.declared.magnitude.Tested.{Tested}
use Rattle.host_numbers.specs.NumberTest.{packed, finite_number}

module _ (s : List ℕ) {t : Tested} (told : (t.finite ≡ is_finite s) × (t.compared ≡ compared s)) where
  pub few : t.compared ≤ 309
  few = rw told.1 (compared-within s)

  pub packed-finite : t.finite ≡ true → 2 * t.compared + 1 ≡ finite_number s
  unfolding finite_number packed
  packed-finite f = rw (← told.0, ← told.1, f)

  pub packed-other : t.finite ≡ false → 2 * t.compared ≡ finite_number s
  unfolding finite_number packed
  packed-other f = rw (← told.0, ← told.1, f)
