-- Laws of the place of the first nonzero digit against 10^308.
use Prim.Native.Nat.{ℕ, ◌+◌, ◌-◌, ◌<◌, ◌≤◌, ◌^◌, min}
use mathlib.Core.Path.{◌≡◌, refl, sym, ap, ◌∙◌}
use mathlib.Core.Bool.{Bool, true, false}
use mathlib.Core.List.{List, [], ◌∷◌, ◌++◌, map, append-nil}
use native.Mathlib.Omega.{arith}
use native.Mathlib.Nat.{not-suc-le-zero}
use lib.ListN.{length, take, drop, length-map, length-append, length-drop, drop_of_length-le}
use lib.Seq.{take_all}
use lib.Dec.{ltb}
use borrow.Author.Tests.{ltb-true, ltb-false, lt-ltb, le-ltb}
use Rattle.number.specs.Finite.{digit, value}
use Rattle.number.specs.FirstDigit.{largest, zeros, significant, order, level_of, level_by, digits_in, level_in, decided, compared_at}
use Rattle.number.specs.Tests.{Tests, TestsNumber}
use Rattle.number.specs.declared.magnitude.Tested.{Tested}
use Rattle.number.proofs.Digits.{map-drop, significant-whole, significant-fraction}
use Rattle.std.specs.declared.cmp.Ordering.TheVariants.{Equal, Greater, Less}

module _ (a b : ℕ) where
  pub order_below : a < b → order a b ≡ Less
  unfolding order
  order_below h = rw (lt-ltb a b h)

  pub order-above : b < a → order a b ≡ Greater
  unfolding order
  order-above h = rw (le-ltb a b (omega (arith, h)), lt-ltb b a h)

  pub order-even : b ≤ a → a ≤ b → order a b ≡ Equal
  unfolding order
  order-even h k = rw (le-ltb a b h, le-ltb b a k)

-- only the distance counts
pub order_same : (a b c d : ℕ) → a + d ≡ c + b → order a b ≡ order c d
order_same a b c d e = go (ltb a b) refl (ltb b a) refl
  where
    go : (s : Bool) → ltb a b ≡ s → (t : Bool) → ltb b a ≡ t → order a b ≡ order c d
    go true p t q = order_below a b (ltb-true a b p) ∙ sym (order_below c d (omega (arith, ltb-true a b p, e)))
    go false p true q = order-above a b (ltb-true b a q) ∙ sym (order-above c d (omega (arith, ltb-true b a q, e)))
    go false p false q =
        order-even a b (ltb-false a b p) (ltb-false b a q)
        ∙ sym (order-even c d (omega (arith, ltb-false a b p, ltb-false b a q, e)) (omega (arith, ltb-false a b p, ltb-false b a q, e)))

module _ (n f e : ℕ) where
  pub level-behind : n ≤ f → level_of true n f e ≡ Less
  unfolding level_of
  level-behind h = order_below n (309 + (f + e)) (omega (arith, h))

  pub level_before : f < n → order (n - f) (309 + e) ≡ level_of true n f e
  unfolding level_of
  level_before h = order_same (n - f) (309 + e) n (309 + (f + e)) (omega (arith, h))

  pub level-high : 309 + f < e → level_of false n f e ≡ Greater
  unfolding level_of
  level-high h = order-above (n + e) (309 + f) (omega (arith, h))

-- only the distance from the point counts
level-shift : (lowered : Bool) (n f m g e : ℕ) → n + g ≡ m + f → level_of lowered n f e ≡ level_of lowered m g e
unfolding level_of
level-shift false n f m g e h = order_same (n + e) (309 + f) (m + e) (309 + g) (omega (arith, h))
level-shift true n f m g e h = order_same n (309 + (f + e)) m (309 + (g + e)) (omega (arith, h))

-- an exponent past the largest one decides alone, whatever its digits
level-large : (lowered : Bool) (n f e : ℕ) → n + f < 2 ^ 63 → largest < e → level_of lowered n f largest ≡ level_of lowered n f e
unfolding level_of
level-large false n f e h l = order-above (n + largest) (309 + f) (omega (arith, h)) ∙ sym (order-above (n + e) (309 + f) (omega (arith, h, l)))
level-large true n f e h l = order_below n (309 + (f + largest)) (omega (arith, h)) ∙ sym (order_below n (309 + (f + e)) (omega (arith, h, l)))

level-capped : (lowered : Bool) (n f e : ℕ) → n + f < 2 ^ 63 → level_of lowered n f (min e largest) ≡ level_of lowered n f e
level-capped lowered n f e h = go (ltb largest e) refl
  where
    go : (t : Bool) → ltb largest e ≡ t → level_of lowered n f (min e largest) ≡ level_of lowered n f e
    go true p =
        let m : min e largest ≡ largest = omega (arith, ltb-true largest e p) in
        ap (level_of lowered n f) m ∙ level-large lowered n f e h (ltb-true largest e p)
    go false p =
        let m : min e largest ≡ e = omega (arith, ltb-false largest e p) in
        ap (level_of lowered n f) m

level-by : (lowered : Bool) (ds : List ℕ) (f e : ℕ) → 0 < length ds → level_by lowered ds f e ≡ level_of lowered (length ds) f e
unfolding level_by
level-by lowered [] f e h = absurd (not-suc-le-zero h)
level-by lowered (d ∷ ds) f e h = refl

-- each way to the answer
module _ (whole fraction : List ℕ) (lowered : Bool) (exponent : List ℕ) (w : ℕ) (is : w ≡ zeros (map digit whole)) where
  pub tests-whole : {r : Tested} → w < length whole → length whole < 2 ^ 63
      → Tests (level_of lowered (length (take (length whole - w) (drop w whole))) 0 (min (value exponent) largest)) (map digit (take (length whole - w) (drop w whole) ++ fraction)) r
      → TestsNumber (record { whole = whole; fraction = fraction; lowered = lowered; exponent = exponent }) r
  unfolding digits_in level_in
  tests-whole h k t =
      let n : length (map digit (drop w whole ++ fraction)) ≡ length whole - w + length fraction = simp (length-map, length-append, length-drop) in
      let all : take (length whole - w) (drop w whole) ≡ drop w whole = take_all (length whole - w) (drop w whole) (omega (arith, length-drop w whole)) in
      let p : 0 < length (map digit (drop w whole ++ fraction)) = omega (arith, n, h) in
      rw (
        significant-whole whole fraction w is h,
        level-by lowered (map digit (drop w whole ++ fraction)) (length fraction) (value exponent) p,
        n,
        level-shift lowered (length whole - w + length fraction) (length fraction) (length whole - w) 0 (value exponent) (omega arith),
        ← level-capped lowered (length whole - w) 0 (value exponent) (omega (arith, k)),
      )
      (rw (all, length-drop w whole) at t)

  module _ (f : ℕ) (is-behind : f ≡ zeros (map digit fraction)) (h : length whole ≤ w) where
    rest : significant (map digit (whole ++ fraction)) ≡ map digit (drop f fraction)
    unfolding significant
    rest = significant-fraction whole fraction w is h ∙ rw (← is-behind, map-drop)

    pub tests-fraction : {r : Tested} → f < length fraction → length fraction < 2 ^ 63
        → Tests (level_of lowered 0 f (min (value exponent) largest)) (map digit (take (length fraction - f) (drop f fraction) ++ [])) r
        → TestsNumber (record { whole = whole; fraction = fraction; lowered = lowered; exponent = exponent }) r
    unfolding digits_in level_in
    tests-fraction l k t =
        let n : length (map digit (drop f fraction)) ≡ length fraction - f = simp (length-map, length-drop) in
        let all : take (length fraction - f) (drop f fraction) ≡ drop f fraction = take_all (length fraction - f) (drop f fraction) (omega (arith, length-drop f fraction)) in
        let p : 0 < length (map digit (drop f fraction)) = omega (arith, n, l) in
        rw (
          rest,
          level-by lowered (map digit (drop f fraction)) (length fraction) (value exponent) p,
          n,
          level-shift lowered (length fraction - f) (length fraction) 0 f (value exponent) (omega (arith, l)),
          ← level-capped lowered 0 f (value exponent) (omega (arith, l, k)),
        )
        (rw (all, append-nil) at t)

    pub tests-zero : length fraction ≤ f
        → TestsNumber (record { whole = whole; fraction = fraction; lowered = lowered; exponent = exponent }) (record { finite = true; compared = 0 })
    unfolding digits_in level_in level_by decided compared_at
    tests-zero l = rw (rest, drop_of_length-le fraction l) (refl, refl)
