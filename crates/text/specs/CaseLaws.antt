-- By cases: what a test says, and cases that cannot be.
use Rattle.std.specs.Prelude.{ℕ, Bool, true, false, ◌≡◌, refl}
use Rattle.std.proofs.Common.{arith}

pub by-test : {C : Type 0} (b : Bool) → (b ≡ true → C) → (b ≡ false → C) → C
by-test true f g = f refl
by-test false f g = g refl

-- `zero-not-one cc` closes a case in which two constructors would be the same
pub zero-not-one : {C : Type 0} → ◌≡◌ {A = ℕ} 0 1 → C
zero-not-one e = absurd (omega arith)
