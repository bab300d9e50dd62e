-- White_Space at each way through the one `match` on a code point.
use Prim.Native.Nat.{ℕ, ◌≤◌}
use mathlib.Core.Path.{◌≡◌, refl}
use mathlib.Core.Bool.{true, false, or-true}
use mathlib.Core.Logic.{◌⊎◌, inl, inr}
use borrow.Author.Tests.{ne_eqb}
use Rattle.text.specs.Utf8.{between}
use Rattle.text.specs.WhiteSpace.{is_white_space}
use Rattle.text.proofs.Bytes.{between-inside}

-- the single code points, in the order of the code's arm
abbrev pub Single : ℕ → Type 0
Single c = (c ≡ 0x20) ⊎ (c ≡ 0x85) ⊎ (c ≡ 0xA0) ⊎ (c ≡ 0x1680) ⊎ (c ≡ 0x202F) ⊎ (c ≡ 0x205F) ⊎ (c ≡ 0x3000)

pub white-at : (c k : ℕ) → is_white_space k ≡ true → c ≡ k → is_white_space c ≡ true
white-at c k h e = rw e h

pub single-white : (c : ℕ) → Single c → is_white_space c ≡ true
unfolding is_white_space between
single-white c (inl e) = white-at c 0x20 refl e
single-white c (inr (inl e)) = white-at c 0x85 refl e
single-white c (inr (inr (inl e))) = white-at c 0xA0 refl e
single-white c (inr (inr (inr (inl e)))) = white-at c 0x1680 refl e
single-white c (inr (inr (inr (inr (inl e))))) = white-at c 0x202F refl e
single-white c (inr (inr (inr (inr (inr (inl e)))))) = white-at c 0x205F refl e
single-white c (inr (inr (inr (inr (inr (inr e)))))) = white-at c 0x3000 refl e

pub controls-white : (c : ℕ) → 0x9 ≤ c → c ≤ 0xD → is_white_space c ≡ true
unfolding is_white_space
controls-white c l h = rw (between-inside 0x9 0xD c l h)

pub spaces-white : (c : ℕ) → 0x2000 ≤ c → c ≤ 0x200A → is_white_space c ≡ true
unfolding is_white_space
spaces-white c l h = simp (between-inside 0x2000 0x200A c l h, or-true)

pub separators-white : (c : ℕ) → 0x2028 ≤ c → c ≤ 0x2029 → is_white_space c ≡ true
unfolding is_white_space
separators-white c l h = simp (between-inside 0x2028 0x2029 c l h, or-true)

-- in none of the ranges
pub others-not-white
    : (c : ℕ)
    → (Single c → ⊥)
    → between 0x9 0xD c ≡ false
    → between 0x2000 0x200A c ≡ false
    → between 0x2028 0x2029 c ≡ false
    → is_white_space c ≡ false
unfolding is_white_space
others-not-white c n r₁ r₂ r₃ =
    simp (
      r₁,
      r₂,
      r₃,
      ne_eqb c 0x20 (λ e. n (inl e)),
      ne_eqb c 0x85 (λ e. n (inr (inl e))),
      ne_eqb c 0xA0 (λ e. n (inr (inr (inl e)))),
      ne_eqb c 0x1680 (λ e. n (inr (inr (inr (inl e))))),
      ne_eqb c 0x202F (λ e. n (inr (inr (inr (inr (inl e)))))),
      ne_eqb c 0x205F (λ e. n (inr (inr (inr (inr (inr (inl e))))))),
      ne_eqb c 0x3000 (λ e. n (inr (inr (inr (inr (inr (inr e))))))),
    )
