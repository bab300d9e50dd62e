-- What holds of all numbers below a bound, and what is reached step by step.
use Prim.Native.Nat.{ℕ, zero, suc, ◌+◌, ◌-◌, ◌<◌}
use mathlib.Core.Bool.{Bool, true, false}
use mathlib.Core.Path.{◌≡◌, refl}
use native.Mathlib.Omega.{arith}
use native.Mathlib.Numerals.{add-one}
use lib.Dec.{ltb}
use borrow.Author.Tests.{ltb-true, ltb-false}

module _ (P : ℕ → Type 0) where
  -- below `i`, and of the `n` numbers from `i` on
  pub below_more : (i n : ℕ) → ((k : ℕ) → k < i → P k) → ((k : ℕ) → k < n → P (i + k)) → (k : ℕ) → k < i + n → P k
  below_more i n low high k h = go (ltb k i) refl
    where
      go : (t : Bool) → ltb k i ≡ t → P k
      go true e = low k (ltb-true k i e)
      go false e =
          let above = ltb-false k i e in
          let back : i + (k - i) ≡ k = omega arith in
          rw back at (high (k - i) (omega arith))

  pub reached : (n : ℕ) → P 0 → ((i : ℕ) → i < n → P i → P (i + 1)) → P n
  reached zero start step = start
  reached (suc n) start step = rw (add-one n) at (step n (omega arith) (reached n start (λ i h. step i (omega arith))))
