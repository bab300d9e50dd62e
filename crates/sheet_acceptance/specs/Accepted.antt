-- The number that stands for a sheet's acceptance.
use Rattle.std.specs.Prelude.{ℕ}
use Rattle.std.proofs.Math.Option.{Option, none, some}

abbrev pub accepted : {A : Type 0} → Option A → ℕ
accepted none = 0
accepted (some a) = 1
