-- Texts laid one after another, and words by their number.
use Prim.Native.Nat.{ℕ, ◌+◌, ◌≤◌, ◌<◌}
use native.Mathlib.Omega.{arith}
use mathlib.Core.Bool.{Bool, true, false, cond}
use mathlib.Core.List.{List, ◌++◌}
use mathlib.Core.Path.{◌≡◌, refl}
use lib.Dec.{eqb}
use lib.ListN.{length}
use borrow.Author.Tests.{ne_eqb}
use Rattle.text.specs.Ascii.{ascii}
use Rattle.buffer.specs.Laid.{most_place, Laid}
use Rattle.buffer.specs.LaidLaws.{laid_then}
use Rattle.sheet.specs.FieldKinds.{kind_count, kind_name}
use Rattle.message.specs.Words.{what, allowed}

room-kept : {before after : List ℕ} {o next : ℕ} {xs : List ℕ} → length before ≤ most_place → Laid before after o xs next → length after ≤ most_place
room-kept room u = omega (arith, u.len)

pub laid-two : {b₀ b₁ b₂ : List ℕ} {o₀ o₁ o₂ : ℕ} {x y : List ℕ}
    → length b₀ ≤ most_place → Laid b₀ b₁ o₀ x o₁ → Laid b₁ b₂ o₁ y o₂ → Laid b₀ b₂ o₀ (x ++ y) o₂
laid-two room u v = laid_then room u v

pub laid-three : {b₀ b₁ b₂ b₃ : List ℕ} {o₀ o₁ o₂ o₃ : ℕ} {x y z : List ℕ}
    → length b₀ ≤ most_place → Laid b₀ b₁ o₀ x o₁ → Laid b₁ b₂ o₁ y o₂ → Laid b₂ b₃ o₂ z o₃ → Laid b₀ b₃ o₀ (x ++ (y ++ z)) o₃
laid-three room u v w = laid_then room u (laid-two (room-kept room u) v w)

pub laid-four : {b₀ b₁ b₂ b₃ b₄ : List ℕ} {o₀ o₁ o₂ o₃ o₄ : ℕ} {x y z t : List ℕ}
    → length b₀ ≤ most_place → Laid b₀ b₁ o₀ x o₁ → Laid b₁ b₂ o₁ y o₂ → Laid b₂ b₃ o₂ z o₃ → Laid b₃ b₄ o₃ t o₄ → Laid b₀ b₄ o₀ (x ++ (y ++ (z ++ t))) o₄
laid-four room u v w l = laid_then room u (laid-three (room-kept room u) v w l)

pub laid-six : {b₀ b₁ b₂ b₃ b₄ b₅ b₆ : List ℕ} {o₀ o₁ o₂ o₃ o₄ o₅ o₆ : ℕ} {x y z t s r : List ℕ}
    → length b₀ ≤ most_place → Laid b₀ b₁ o₀ x o₁ → Laid b₁ b₂ o₁ y o₂ → Laid b₂ b₃ o₂ z o₃ → Laid b₃ b₄ o₃ t o₄ → Laid b₄ b₅ o₄ s o₅ → Laid b₅ b₆ o₅ r o₆
    → Laid b₀ b₆ o₀ (x ++ (y ++ (z ++ (t ++ (s ++ r))))) o₆
laid-six room u v w l m n =
    let one = room-kept room u in
    laid_then room u (laid_then one v (laid-four (room-kept one v) w l m n))

-- Numbers that are the last of their group

above : (n k : ℕ) → k ≤ n → (n ≡ k → ⊥) → k + 1 ≤ n
above n k low other = omega arith

exactly : (n k : ℕ) → k ≤ n → n < k + 1 → n ≡ k
exactly n k low high = omega arith

pub kind-array : (kind : ℕ) → 1 ≤ kind → kind < 7 → (kind ≡ 1 → ⊥) → (kind ≡ 2 → ⊥) → (kind ≡ 3 → ⊥) → (kind ≡ 4 → ⊥) → (kind ≡ 5 → ⊥) → kind ≡ 6
kind-array kind low high n1 n2 n3 n4 n5 =
    exactly kind 6 (above kind 5 (above kind 4 (above kind 3 (above kind 2 (above kind 1 low n1) n2) n3) n4) n5) high

either_way : (b : Bool) (t : List ℕ) → cond b t t ≡ t
either_way true t = refl
either_way false t = refl

pub kind-last : (kind : ℕ) → (1 ≤ kind → 7 ≤ kind) → (kind ≡ 7 → ⊥) → (kind ≡ 8 → ⊥) → (kind ≡ 9 → ⊥) → (kind ≡ 10 → ⊥) → (kind ≡ 11 → ⊥)
    → kind_name kind ≡ ascii "binary64"
unfolding kind_name ascii
kind-last kind late n7 n8 n9 n10 n11 =
    rw (
      ne_eqb kind 1 (early 1 (omega arith) (omega arith)),
      ne_eqb kind 2 (early 2 (omega arith) (omega arith)),
      ne_eqb kind 3 (early 3 (omega arith) (omega arith)),
      ne_eqb kind 4 (early 4 (omega arith) (omega arith)),
      ne_eqb kind 5 (early 5 (omega arith) (omega arith)),
      ne_eqb kind 6 (early 6 (omega arith) (omega arith)),
      ne_eqb kind 7 n7,
      ne_eqb kind 8 n8,
      ne_eqb kind 9 n9,
      ne_eqb kind 10 n10,
      ne_eqb kind 11 n11,
    )
    (either_way (eqb kind kind_count) (ascii "binary64"))
  where
    early : (k : ℕ) → 1 ≤ k → k ≤ 6 → kind ≡ k → ⊥
    early k low high e = let h = late (omega arith) in omega arith

pub what-last : (kind : ℕ) → (kind ≡ 1 → ⊥) → (kind ≡ 2 → ⊥) → (kind ≡ 3 → ⊥) → (kind ≡ 4 → ⊥) → (kind ≡ 5 → ⊥) → (kind ≡ 6 → ⊥) → (kind ≡ 7 → ⊥)
    → what kind ≡ ascii "a creation outcome template"
unfolding what
what-last kind n1 n2 n3 n4 n5 n6 n7 =
    rw (ne_eqb kind 1 n1, ne_eqb kind 2 n2, ne_eqb kind 3 n3, ne_eqb kind 4 n4, ne_eqb kind 5 n5, ne_eqb kind 6 n6, ne_eqb kind 7 n7)

pub allowed-last : (kind : ℕ) → (kind ≡ 1 → ⊥) → (kind ≡ 2 → ⊥) → (kind ≡ 3 → ⊥) → (kind ≡ 4 → ⊥) → (kind ≡ 5 → ⊥) → (kind ≡ 6 → ⊥) → (kind ≡ 7 → ⊥)
    → allowed kind ≡ ascii "$id, $entity, $version, $state, $to_state, $args, $args.<path>, $fields, $fields.<path>"
unfolding allowed
allowed-last kind n1 n2 n3 n4 n5 n6 n7 =
    rw (ne_eqb kind 1 n1, ne_eqb kind 2 n2, ne_eqb kind 3 n3, ne_eqb kind 4 n4, ne_eqb kind 5 n5, ne_eqb kind 6 n6, ne_eqb kind 7 n7)
