-- Numbers whose digits are the bytes of a text: how they are put together, and what one of them says of its bytes.
use Prim.Native.Nat.{ℕ, zero, suc, ◌+◌, ◌*◌, ◌/◌, ◌%◌, ◌≤◌, ◌<◌}
use mathlib.Core.Bool.{Bool, true, false}
use mathlib.Core.Path.{◌≡◌, refl, ap, ap₂, sym, ◌∙◌}
use mathlib.Core.List.{List}
use native.Mathlib.Omega.{arith}
use lib.Bits.{bit_and, and_block, and_shr, and_mask}
use lib.Dec.{ltb}
use lib.ListN.{get_or}
use borrow.Author.Tests.{ltb-true, ltb-false}
use Rattle.text.specs.Decodes.{AsciiAt}
use Rattle.text.specs.Digits.{number, high_bits, Digits, big_endian, BigEndian}

module _ (s : List ℕ) (at : ℕ) where
  pub four-digits
      : (r : ℕ)
      → ((i : ℕ) → get_or s i 0 < 256)
      → r ≡ get_or s at 0 + get_or s (at + 1) 0 * 256 + get_or s (at + 2) 0 * 65536 + get_or s (at + 3) 0 * 16777216
      → Digits 4 s at r
  unfolding number
  four-digits r below e =
      let here : at + 0 ≡ at = omega arith in
      record { value-is = omega (arith, ap (λ (i : ℕ). get_or s i 0) here); below = below }

  pub four-big-endian
      : (r : ℕ)
      → ((i : ℕ) → get_or s i 0 < 256)
      → r ≡ get_or s (at + 3) 0 + get_or s (at + 2) 0 * 256 + get_or s (at + 1) 0 * 65536 + get_or s at 0 * 16777216
      → BigEndian 4 s at r
  unfolding big_endian
  four-big-endian r below e =
      let third : at + 1 + 1 ≡ at + 2 = omega arith in
      let fourth : at + 1 + 1 + 1 ≡ at + 3 = omega arith in
      record {
        value-is = omega (arith, ap (λ (i : ℕ). get_or s i 0) third, ap (λ (i : ℕ). get_or s i 0) fourth);
        below = below;
      }

  behind : (k : ℕ) → get_or s (at + 4 + k) 0 ≡ get_or s (at + (4 + k)) 0
  behind k = let e : at + 4 + k ≡ at + (4 + k) = omega arith in ap (λ (i : ℕ). get_or s i 0) e

  pub eight-digits : (x y r : ℕ) → Digits 4 s at x → Digits 4 s (at + 4) y → r ≡ x + y * 4294967296 → Digits 8 s at r
  unfolding number
  eight-digits x y r low high e =
      record {
        value-is = omega (arith, low.value-is, high.value-is, behind 0, behind 1, behind 2, behind 3);
        below = low.below;
      }

number_same
    : (n : ℕ) (f g : ℕ → ℕ)
    → ((k : ℕ) → f k < 256)
    → ((k : ℕ) → g k < 256)
    → number n f ≡ number n g
    → (k : ℕ)
    → k < n
    → f k ≡ g k
unfolding number
number_same zero f g a b e k h = absurd (omega arith)
number_same (suc n) f g a b e zero h = omega (arith, a 0, b 0)
number_same (suc n) f g a b e (suc k) h =
    number_same n (λ j. f (suc j)) (λ j. g (suc j)) (λ j. a (suc j)) (λ j. b (suc j)) (omega (arith, a 0, b 0)) k (omega arith)

pub same_digits
    : (n : ℕ) (s t : List ℕ) (at : ℕ) {v w : ℕ}
    → Digits n s at v
    → Digits n t at w
    → v ≡ w
    → (k : ℕ)
    → k < n
    → get_or s (at + k) 0 ≡ get_or t (at + k) 0
same_digits n s t at x y e =
    number_same n (λ k. get_or s (at + k) 0) (λ k. get_or t (at + k) 0) (λ k. x.below (at + k)) (λ k. y.below (at + k)) (sym x.value-is ∙ e ∙ y.value-is)

-- a byte without its highest bit is ASCII
byte-ascii : (b : ℕ) → b < 256 → bit_and b 0x80 ≡ 0 → b ≤ 0x7F
byte-ascii b h e =
    let even : (b / 128) % 2 ≡ 0 = sym (and_mask (b / 128) 1) ∙ sym (and_shr b 0x80 7) ∙ ap (λ (x : ℕ). x / 128) e in
    omega arith

lowest-apart : (a x y : ℕ) → a < 256 → bit_and (a + 256 * x) (0x80 + 256 * y) ≡ 0 → (bit_and a 0x80 ≡ 0) × (bit_and x y ≡ 0)
lowest-apart a x y h e =
    let p : x * 256 + a ≡ a + 256 * x = omega arith in
    let q : y * 256 + 0x80 ≡ 0x80 + 256 * y = omega arith in
    let none : bit_and x y * 256 + bit_and a 0x80 ≡ 0 = sym (and_block 8 x y a 0x80 h (omega arith)) ∙ ap₂ bit_and p q ∙ e in
    (omega arith, omega arith)

-- the first `n` of `m` digits, by their highest bits
number-ascii
    : (m n : ℕ) (f : ℕ → ℕ)
    → n ≤ m
    → ((k : ℕ) → f k < 256)
    → bit_and (number m f) (number n (λ k. 0x80)) ≡ 0
    → (k : ℕ)
    → k < n
    → f k ≤ 0x7F
unfolding number
number-ascii m zero f few below e k h = absurd (omega arith)
number-ascii zero (suc n) f few below e k h = absurd (omega arith)
number-ascii (suc m) (suc n) f few below e zero h = byte-ascii (f 0) (below 0) (lowest-apart (f 0) _ _ (below 0) e).0
number-ascii (suc m) (suc n) f few below e (suc k) h =
    number-ascii m n (λ j. f (suc j)) (omega arith) (λ j. below (suc j)) (lowest-apart (f 0) _ _ (below 0) e).1 k (omega arith)

pub digits-ascii
    : (m n : ℕ) (s : List ℕ) (at : ℕ) {v : ℕ}
    → n ≤ m
    → Digits m s at v
    → {mask : ℕ}
    → mask ≡ high_bits n
    → bit_and v mask ≡ 0
    → AsciiAt s at n
unfolding high_bits
digits-ascii m n s at few d high e =
    number-ascii m n (λ k. get_or s (at + k) 0) few (λ k. d.below (at + k)) (sym (ap₂ bit_and d.value-is high) ∙ e)

module _ (s t : List ℕ) (below : (i : ℕ) → get_or s i 0 < 256) (below' : (i : ℕ) → get_or t i 0 < 256) where
  -- a number that is the lower one so far stays so
  pub stays-below : (n at at' x y : ℕ) → x < y → big_endian n s at x < big_endian n t at' y
  unfolding big_endian
  stays-below zero at at' x y h = h
  stays-below (suc n) at at' x y h = stays-below n (at + 1) (at' + 1) _ _ (omega (arith, below at, below' at'))

module _ (s t : List ℕ) (below : (i : ℕ) → get_or s i 0 < 256) (below' : (i : ℕ) → get_or t i 0 < 256) where
  same-so-far : (n at x y : ℕ) → big_endian n s at x ≡ big_endian n t at y → x ≡ y
  same-so-far n at x y e = go (ltb x y) refl (ltb y x) refl
    where
      go : (p : Bool) → ltb x y ≡ p → (q : Bool) → ltb y x ≡ q → x ≡ y
      go true h q h' = absurd (omega (arith, stays-below s t below below' n at at x y (ltb-true x y h)))
      go false h true h' = absurd (omega (arith, stays-below t s below' below n at at y x (ltb-true y x h')))
      go false h false h' = omega (arith, ltb-false x y h, ltb-false y x h')

  same-digits-on : (n at x y : ℕ) → big_endian n s at x ≡ big_endian n t at y → (k : ℕ) → k < n → get_or s (at + k) 0 ≡ get_or t (at + k) 0
  unfolding big_endian
  same-digits-on zero at x y e k h = absurd (omega arith)
  same-digits-on (suc n) at x y e zero h =
      let so_far = same-so-far n (at + 1) _ _ e in
      let here : at + 0 ≡ at = omega arith in
      rw here (omega (arith, below at, below' at))
  same-digits-on (suc n) at x y e (suc k) h =
      let here : at + suc k ≡ at + 1 + k = omega arith in
      rw here (same-digits-on n (at + 1) _ _ e k (omega arith))

  pub same-big-endian
      : (n at : ℕ) {v w : ℕ}
      → v ≡ big_endian n s at 0
      → w ≡ big_endian n t at 0
      → v ≡ w
      → (k : ℕ)
      → k < n
      → get_or s (at + k) 0 ≡ get_or t (at + k) 0
  same-big-endian n at x y e = same-digits-on n at 0 0 (sym x ∙ e ∙ y)
