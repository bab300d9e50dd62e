-- The place of the first nonzero digit decides whether a number is below the limit, and the bound's digits do where that place is 10^308.
use Prim.Native.Nat.{ℕ, zero, suc, ◌+◌, ◌*◌, ◌<◌, ◌≤◌, ◌^◌}
use mathlib.Core.Path.{◌≡◌, refl, sym, ap, subst₂, ◌∙◌}
use mathlib.Core.Bool.{Bool, true, false, cond}
use mathlib.Core.List.{List, [], ◌∷◌, ◌++◌, map}
use native.Mathlib.Omega.{arith}
use native.Mathlib.Nat.{add-zero, one-mul, mul_assoc, mul_right_comm, le_trans, le_of_eq, lt_of_lt_of_le, mul-le-mul_right, mul-lt-mul_of_pos_right, pow-le-pow_right, not-suc-le-zero}
use lib.ListN.{length, drop}
use lib.Pow.{pow-add}
use lib.Dec.{eqb, ltb, lit≤}
use borrow.Author.Tests.{ltb-true, ltb-false, eqb-false, lt-ltb, le-ltb}
use Rattle.number.specs.Bound.{bound}
use Rattle.number.specs.Grammar.{Number}
use Rattle.number.specs.Finite.{digit, numeral_from, numeral, value, limit, is_below, is_below_at, finite}
use Rattle.number.specs.FirstDigit.{zeros, significant, order, level_of, level_by, digits_in, level_in, is_less, decided}
use Rattle.number.proofs.Table.{bound-value, bound-tens, bound-length}
use Rattle.number.proofs.Levels.{order_below, order-above, order-even}
use Rattle.number.proofs.Numeral.{tens, tens-tail, ten-pos, numeral-least, numeral-most, numeral-significant, Says, says-test, says-times, says-over, less-says}

below-positive : (m a b : ℕ) → 0 < m → is_below m a b ≡ ltb (m * 10 ^ a) (limit * 10 ^ b)
unfolding is_below
below-positive zero a b h = absurd (not-suc-le-zero h)
below-positive (suc m) a b h = refl

-- only the distance between the powers counts
says-shift : (t : Bool) (x y p q a b : ℕ) → q + a ≡ p + b → Says t (x * 10 ^ p) (y * 10 ^ q) → Says t (x * 10 ^ a) (y * 10 ^ b)
says-shift t x y p q a b h s = says-over t (x * 10 ^ a) (y * 10 ^ b) (10 ^ p) (ten-pos p) (rw (mul_right_comm x (10 ^ a) (10 ^ p), ← raised) (says-times t (x * 10 ^ p) (y * 10 ^ q) (10 ^ a) (ten-pos a) s))
  where
    raised : y * 10 ^ q * 10 ^ a ≡ y * 10 ^ b * 10 ^ p
    raised =
        mul_assoc y (10 ^ q) (10 ^ a)
        ∙ (ap (λ (k : ℕ). y * k) (sym (pow-add 10 q a) ∙ (ap (λ (k : ℕ). 10 ^ k) h ∙ pow-add 10 p b))
        ∙ (sym (mul_assoc y (10 ^ p) (10 ^ b)) ∙ mul_right_comm y (10 ^ p) (10 ^ b)))

module _ (d : ℕ) (ds : List ℕ) (nonzero : 0 < d) (t : tens (d ∷ ds) ≡ true) where
  pub first-least : 10 ^ length ds ≤ numeral (d ∷ ds)
  unfolding numeral numeral_from
  first-least =
      le_trans (le_of_eq (sym (one-mul (10 ^ length ds))))
      (le_trans (mul-le-mul_right (10 ^ length ds) (omega (arith, nonzero))) (numeral-least (0 * 10 + d) ds))

  pub first-most : numeral (d ∷ ds) < 10 ^ suc (length ds)
  unfolding numeral
  first-most = lt_of_lt_of_le (numeral-most 0 (d ∷ ds) t) (le_of_eq (one-mul (10 ^ suc (length ds))))

  -- after 10^308: below 10^308 itself, which is below the limit
  place-below : (a b : ℕ) → suc (length ds) + a < 309 + b → numeral (d ∷ ds) * 10 ^ a < limit * 10 ^ b
  place-below a b h =
      lt_of_lt_of_le (mul-lt-mul_of_pos_right first-most (ten-pos a))
      (le_trans (le_of_eq (sym (pow-add 10 (suc (length ds)) a)))
      (le_trans (pow-le-pow_right {n = 10} (omega arith) {i = suc (length ds) + a} {j = 308 + b} (omega (arith, h)))
      (le_trans (le_of_eq (pow-add 10 308 b)) (mul-le-mul_right (10 ^ b) (lit≤ tt)))))

  -- before it: at least 10^309, which is above the limit
  place-above : (a b : ℕ) → 309 + b < suc (length ds) + a → limit * 10 ^ b ≤ numeral (d ∷ ds) * 10 ^ a
  place-above a b h =
      le_trans (mul-le-mul_right {m = limit} {n = 10 ^ 309} (10 ^ b) (lit≤ tt))
      (le_trans (le_of_eq (sym (pow-add 10 309 b)))
      (le_trans (pow-le-pow_right {n = 10} (omega arith) {i = 309 + b} {j = length ds + a} (omega (arith, h)))
      (le_trans (le_of_eq (pow-add 10 (length ds) a)) (mul-le-mul_right (10 ^ a) first-least))))

  place-even : (a b : ℕ) → suc (length ds) + a ≡ 309 + b → Says (is_less (d ∷ ds) bound) (numeral (d ∷ ds) * 10 ^ a) (limit * 10 ^ b)
  unfolding numeral
  place-even a b h =
      says-shift (is_less (d ∷ ds) bound) (numeral (d ∷ ds)) limit 309 (suc (length ds)) a b h
      (subst₂ (λ (y k : ℕ). Says (is_less (d ∷ ds) bound) (numeral (d ∷ ds) * 10 ^ k) (y * 10 ^ suc (length ds))) bound-value bound-length
      (less-says 0 (d ∷ ds) bound t bound-tens))

  by_first : (a b : ℕ) → decided (order (suc (length ds) + a) (309 + b)) (is_less (d ∷ ds) bound) ≡ is_below (numeral (d ∷ ds)) a b
  unfolding decided
  by_first a b = go (ltb n m) refl (ltb m n) refl ∙ sym (below-positive (numeral (d ∷ ds)) a b (omega (arith, ten-pos (length ds), first-least)))
    where
      n : ℕ
      n = suc (length ds) + a

      m : ℕ
      m = 309 + b

      go : (l : Bool) → ltb n m ≡ l → (g : Bool) → ltb m n ≡ g → decided (order n m) (is_less (d ∷ ds) bound) ≡ ltb (numeral (d ∷ ds) * 10 ^ a) (limit * 10 ^ b)
      go true p g q = rw (order_below n m (ltb-true n m p)) (sym (lt-ltb _ _ (place-below a b (ltb-true n m p))))
      go false p true q = rw (order-above n m (ltb-true m n q)) (sym (le-ltb _ _ (place-above a b (ltb-true m n q))))
      go false p false q =
          let e : n ≡ m = omega (arith, ltb-false n m p, ltb-false m n q) in
          rw (order-even n m (ltb-false n m p) (ltb-false m n q)) (says-test (is_less (d ∷ ds) bound) _ _ (place-even a b e))

-- a row that begins with a nonzero digit, if with any
abbrev pub Leads : List ℕ → Type 0
Leads [] = Unit {0}
Leads (d ∷ ds) = 0 < d

pub leads-significant : (ds : List ℕ) → Leads (significant ds)
unfolding significant zeros
leads-significant [] = tt
leads-significant (d ∷ ds) = go (eqb d 0) refl (leads-significant ds)
  where
    go : (t : Bool) → eqb d 0 ≡ t → Leads (drop (zeros ds) ds) → Leads (drop (cond t (suc (zeros ds)) 0) (d ∷ ds))
    go true p h = h
    go false p h = positive d (eqb-false d 0 p)
      where
        positive : (k : ℕ) → (k ≡ 0 → ⊥) → 0 < k
        positive zero e = absurd (e refl)
        positive (suc k) e = omega arith

pub tens-drop : (n : ℕ) (ds : List ℕ) → tens ds ≡ true → tens (drop n ds) ≡ true
tens-drop zero ds t = t
tens-drop (suc n) [] t = t
tens-drop (suc n) (d ∷ ds) t = tens-drop n ds (tens-tail d ds t)

by_place : (lowered : Bool) (ds : List ℕ) (f e : ℕ) → Leads ds → tens ds ≡ true → decided (level_by lowered ds f e) (is_less ds bound) ≡ is_below_at lowered (numeral ds) f e
unfolding level_by level_of decided is_below_at is_below numeral numeral_from
by_place false [] f e h t = refl
by_place true [] f e h t = refl
by_place false (d ∷ ds) f e h t = by_first d ds h t e f
by_place true (d ∷ ds) f e h t = ap (λ (n : ℕ). decided (order n (309 + (f + e))) (is_less (d ∷ ds) bound)) (sym (add-zero (suc (length ds)))) ∙ by_first d ds h t 0 (f + e)

-- a number whose digits are digits is finite as the place of its first nonzero one decides
pub finite-decided : (n : Number) → tens (map digit (n.whole ++ n.fraction)) ≡ true → decided (level_in n) (is_less (digits_in n) bound) ≡ finite n
unfolding digits_in level_in significant finite value
finite-decided n t =
    let ds = map digit (n.whole ++ n.fraction) in
    by_place n.lowered (significant ds) (length n.fraction) (value n.exponent) (leads-significant ds) (tens-drop (zeros ds) ds t)
    ∙ ap (λ (m : ℕ). is_below_at n.lowered m (length n.fraction) (value n.exponent)) (numeral-significant ds)
