-- Operators that are the last of their group.
use Prim.Native.Nat.{ℕ, ◌+◌, ◌≤◌, ◌<◌}
use native.Mathlib.Omega.{arith}
use mathlib.Core.Path.{◌≡◌, refl}
use Rattle.text.specs.Ascii.{ascii}
use Rattle.sheet.specs.Operators.{operator_name}
use Rattle.sheet.proofs.OperatorLaws.{over, alike, name-past}

above : (op k : ℕ) → k ≤ op → (op ≡ k → ⊥) → k + 1 ≤ op
above op k low other = omega arith

below : (op k : ℕ) → (op ≡ k → ⊥) → op < k + 1 → op < k
below op k other high = omega arith

exactly : (op k : ℕ) → k ≤ op → op < k + 1 → op ≡ k
exactly op k low high = omega arith

pub name-first : (op : ℕ) → op < 8 → (op ≡ 2 → ⊥) → (op ≡ 3 → ⊥) → (op ≡ 4 → ⊥) → (op ≡ 5 → ⊥) → (op ≡ 6 → ⊥) → (op ≡ 7 → ⊥) → operator_name op ≡ ascii "literal"
unfolding operator_name ascii over
name-first op high n2 n3 n4 n5 n6 n7 =
    alike operator_name (λ op. ascii "literal") 0 2 refl op (omega arith) (below op 2 n2 (below op 3 n3 (below op 4 n4 (below op 5 n5 (below op 6 n6 (below op 7 n7 high))))))

pub op-in : (op : ℕ) → 8 ≤ op → op < 15 → (op ≡ 8 → ⊥) → (op ≡ 9 → ⊥) → (op ≡ 10 → ⊥) → (op ≡ 11 → ⊥) → (op ≡ 12 → ⊥) → (op ≡ 13 → ⊥) → op ≡ 14
op-in op low high n8 n9 n10 n11 n12 n13 =
    exactly op 14 (above op 13 (above op 12 (above op 11 (above op 10 (above op 9 (above op 8 low n8) n9) n10) n11) n12) n13) high

pub name-last : (op : ℕ)
    → 15 ≤ op
    → (op ≡ 15 → ⊥)
    → (op ≡ 16 → ⊥)
    → (op ≡ 17 → ⊥)
    → (op ≡ 18 → ⊥)
    → (op ≡ 19 → ⊥)
    → (op ≡ 20 → ⊥)
    → operator_name op ≡ ascii "for_any"
unfolding operator_name ascii
name-last op low n15 n16 n17 n18 n19 n20 =
    name-past op (above op 20 (above op 19 (above op 18 (above op 17 (above op 16 (above op 15 low n15) n16) n17) n18) n19) n20)
