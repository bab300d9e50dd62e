-- The name of an operator by its number, as the code lays it.
use Prim.Native.Nat.{ℕ, ◌+◌, ◌≤◌, ◌<◌}
use native.Mathlib.Omega.{arith}
use mathlib.Core.List.{List}
use mathlib.Core.Path.{◌≡◌, refl}
use Rattle.text.specs.Ascii.{ascii}
use Rattle.sheet.specs.Operators.{operator_name}
use Rattle.sheet.proofs.OperatorLaws.{over, alike, name-past}
use Rattle.buffer.specs.Laid.{Laid}

name-low : (op : ℕ) → op ≤ 1 → operator_name op ≡ ascii "literal"
unfolding operator_name ascii over
name-low op h = alike operator_name (λ op. ascii "literal") 0 2 refl op (omega arith) (omega arith)

module _ (op : ℕ) {before after : List ℕ} {o next : ℕ} where
  pub laid-low : op ≤ 1 → Laid before after o (ascii "literal") next → Laid before after o (operator_name op) next
  laid-low h w = rw (name-low op h) w

  pub laid-named : (k : ℕ) → op ≤ k → k ≤ op → Laid before after o (operator_name k) next → Laid before after o (operator_name op) next
  laid-named k h l w = let e : op ≡ k = omega arith in rw e w

  -- the last of its group
  pub laid-above : (k : ℕ) → k < op → op ≤ k + 1 → Laid before after o (operator_name (k + 1)) next → Laid before after o (operator_name op) next
  laid-above k l h w = let e : op ≡ k + 1 = omega arith in rw e w

  pub laid-last : 20 < op → Laid before after o (ascii "for_any") next → Laid before after o (operator_name op) next
  unfolding operator_name ascii
  laid-last h w = rw (name-past op (omega arith)) w
