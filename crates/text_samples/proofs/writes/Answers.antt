use native.Mathlib.Omega.{arith}
use Rattle.text_samples.proofs.writes.Goals as goal

pub overflow_cast-left : goal.overflow_cast-left
overflow_cast-left c = omega arith

pub overflow_add-left : goal.overflow_add-left
overflow_add-left c = omega arith
