-- The tests on bytes at each way through the code.
use Prim.Native.Nat.{ℕ, ◌≤◌, ◌<◌}
use mathlib.Core.Path.{◌≡◌, refl}
use mathlib.Core.Bool.{Bool, true, false, and-false, or-false}
use native.Mathlib.Omega.{arith}
use lib.Dec.{leb}
use borrow.Author.Tests.{le-leb, lt-leb, leb-true, leb-false}
use Rattle.text.specs.Utf8.{between, is_tail, is_second_of3, is_second_of4}

pub between-inside : (low high b : ℕ) → low ≤ b → b ≤ high → between low high b ≡ true
unfolding between
between-inside low high b p q = rw (le-leb low b p, le-leb b high q)

pub between-below : (low high b : ℕ) → b < low → between low high b ≡ false
unfolding between
between-below low high b p = rw (lt-leb low b p)

pub between-above : (low high b : ℕ) → high < b → between low high b ≡ false
unfolding between
between-above low high b p = rw (lt-leb b high p, and-false)

pub second3-e0 : (a b : ℕ) → a ≡ 0xE0 → is_second_of3 a b ≡ between 0xA0 0xBF b
unfolding is_second_of3 between
second3-e0 a b e = rw e (simp or-false)

pub second3-ed : (a b : ℕ) → a ≡ 0xED → is_second_of3 a b ≡ between 0x80 0x9F b
unfolding is_second_of3 between
second3-ed a b e = rw e (simp or-false)

pub second3-others : (a b : ℕ) → 0xE1 ≤ a → a ≤ 0xEF → (a ≡ 0xED → ⊥) → is_second_of3 a b ≡ is_tail b
unfolding is_second_of3
second3-others a b l h n = go (leb a 0xEC) refl
  where
    go : (t : Bool) → leb a 0xEC ≡ t → is_second_of3 a b ≡ is_tail b
    go true e =
        let k = leb-true a 0xEC e in
        simp (
          between-above 0xE0 0xE0 a (omega arith),
          between-inside 0xE1 0xEC a l k,
          between-below 0xED 0xED a (omega arith),
          between-below 0xEE 0xEF a (omega arith),
          or-false,
        )
    go false e =
        let k = leb-false a 0xEC e in
        simp (
          between-above 0xE0 0xE0 a (omega arith),
          between-above 0xE1 0xEC a k,
          between-above 0xED 0xED a (omega arith),
          between-inside 0xEE 0xEF a (omega arith) h,
        )

pub second3-below : (a b : ℕ) → a < 0xE0 → is_second_of3 a b ≡ false
unfolding is_second_of3
second3-below a b h =
    simp (
      between-below 0xE0 0xE0 a h,
      between-below 0xE1 0xEC a (omega arith),
      between-below 0xED 0xED a (omega arith),
      between-below 0xEE 0xEF a (omega arith),
    )

pub second3-above : (a b : ℕ) → 0xEF < a → is_second_of3 a b ≡ false
unfolding is_second_of3
second3-above a b h =
    simp (
      between-above 0xE0 0xE0 a (omega arith),
      between-above 0xE1 0xEC a (omega arith),
      between-above 0xED 0xED a
          (omega arith),
      between-above 0xEE 0xEF a h,
    )

pub second4-f0 : (a b : ℕ) → a ≡ 0xF0 → is_second_of4 a b ≡ between 0x90 0xBF b
unfolding is_second_of4 between
second4-f0 a b e = rw e (simp or-false)

pub second4-f4 : (a b : ℕ) → a ≡ 0xF4 → is_second_of4 a b ≡ between 0x80 0x8F b
unfolding is_second_of4 between
second4-f4 a b e = rw e

pub second4-others : (a b : ℕ) → 0xF1 ≤ a → a ≤ 0xF3 → is_second_of4 a b ≡ is_tail b
unfolding is_second_of4
second4-others a b l h =
    simp
    (between-above 0xF0 0xF0 a (omega arith), between-inside 0xF1 0xF3 a l h, between-below 0xF4 0xF4 a (omega arith), or-false)

pub second4-below : (a b : ℕ) → a < 0xF0 → is_second_of4 a b ≡ false
unfolding is_second_of4
second4-below a b h =
    simp (between-below 0xF0 0xF0 a h, between-below 0xF1 0xF3 a (omega arith), between-below 0xF4 0xF4 a (omega arith))

pub second4-above : (a b : ℕ) → 0xF4 < a → is_second_of4 a b ≡ false
unfolding is_second_of4
second4-above a b h =
    simp (between-above 0xF0 0xF0 a (omega arith), between-above 0xF1 0xF3 a (omega arith), between-above 0xF4 0xF4 a h)
