-- What rows of digits write: bounds by their length, and the digit by digit comparison of two rows.
use Prim.Native.Nat.{ℕ, suc, ◌+◌, ◌*◌, ◌<◌, ◌≤◌, ◌^◌}
use mathlib.Core.Path.{◌≡◌, refl, sym, ap, ◌∙◌}
use mathlib.Core.Bool.{Bool, true, false, cond, ◌&&◌}
use mathlib.Core.List.{List, [], ◌∷◌}
use native.Mathlib.Omega.{arith}
use native.Mathlib.Nat.{mul-one, mul_assoc, mul_right_comm, le_trans, le_of_lt, lt_of_lt_of_le, mul-le-mul_right, mul-lt-mul_of_pos_right, le_of_mul-le-mul_right, lt_of_mul-lt-mul_right, pow-succ', one-le-pow}
use lib.ListN.{length, drop}
use lib.Dec.{eqb, ltb}
use borrow.Author.Tests.{ltb-true, ltb-false, eqb-true, lt-ltb, le-ltb}
use Rattle.text.proofs.Bools.{and-true-0, and-true-1}
use Rattle.number.specs.Finite.{numeral_from, numeral}
use Rattle.number.specs.FirstDigit.{zeros, significant, is_less}

-- every digit is below ten
unfoldable pub tens : List ℕ → Bool
tens [] = true
tens (d ∷ ds) = ltb d 10 && tens ds

module _ (d : ℕ) (ds : List ℕ) (t : tens (d ∷ ds) ≡ true) where
  pub tens-head : d < 10
  unfolding tens
  tens-head = ltb-true d 10 (and-true-0 (ltb d 10) (tens ds) t)

  pub tens-tail : tens ds ≡ true
  unfolding tens
  tens-tail = and-true-1 (ltb d 10) (tens ds) t

pub ten-pos : (n : ℕ) → 0 < 10 ^ n
ten-pos n = one-le-pow n 10 (omega arith)

tenfold : (a n : ℕ) → a * 10 ^ suc n ≡ a * 10 * 10 ^ n
tenfold a n = ap (λ (k : ℕ). a * k) (pow-succ' 10 n) ∙ sym (mul_assoc a 10 (10 ^ n))

-- a row of n digits after v writes from v * 10^n up to (v + 1) * 10^n
pub numeral-least : (v : ℕ) (ds : List ℕ) → v * 10 ^ length ds ≤ numeral_from v ds
unfolding numeral_from
numeral-least v [] = omega (arith, mul-one v)
numeral-least v (d ∷ ds) =
    rw (tenfold v (length ds))
    (le_trans (mul-le-mul_right (10 ^ length ds) (omega arith)) (numeral-least (v * 10 + d) ds))

pub numeral-most : (v : ℕ) (ds : List ℕ) → tens ds ≡ true → numeral_from v ds < suc v * 10 ^ length ds
unfolding numeral_from
numeral-most v [] t = omega (arith, mul-one (suc v))
numeral-most v (d ∷ ds) t =
    rw (tenfold (suc v) (length ds))
    (lt_of_lt_of_le (numeral-most (v * 10 + d) ds (tens-tail d ds t)) (mul-le-mul_right (10 ^ length ds) (omega (arith, tens-head d ds t))))

-- zeros that lead write nothing
pub numeral-significant : (ds : List ℕ) → numeral (significant ds) ≡ numeral ds
unfolding numeral numeral_from significant zeros
numeral-significant [] = refl
numeral-significant (d ∷ ds) = go (eqb d 0) refl (numeral-significant ds)
  where
    go : (t : Bool) → eqb d 0 ≡ t → numeral_from 0 (drop (zeros ds) ds) ≡ numeral_from 0 ds → numeral_from 0 (drop (cond t (suc (zeros ds)) 0) (d ∷ ds)) ≡ numeral_from (0 * 10 + d) ds
    go true p e = rw (eqb-true d 0 p) e
    go false p e = refl

-- a test's answer as an order
abbrev pub Says : Bool → ℕ → ℕ → Type 0
Says true x y = x < y
Says false x y = y ≤ x

pub says-test : (t : Bool) (x y : ℕ) → Says t x y → t ≡ ltb x y
says-test true x y h = sym (lt-ltb x y h)
says-test false x y h = sym (le-ltb x y h)

pub says-times : (t : Bool) (x y k : ℕ) → 0 < k → Says t x y → Says t (x * k) (y * k)
says-times true x y k p h = mul-lt-mul_of_pos_right h p
says-times false x y k p h = mul-le-mul_right k h

pub says-over : (t : Bool) (x y k : ℕ) → 0 < k → Says t (x * k) (y * k) → Says t x y
says-over true x y k p h = lt_of_mul-lt-mul_right k h
says-over false x y k p h = le_of_mul-le-mul_right h p

-- x over p against y over q, by bounds on both
over-less : {x y : ℕ} (a b p q : ℕ) → x < a * p → b * q ≤ y → a ≤ b → 0 < q → x * q < y * p
over-less a b p q hx hy h pos =
    lt_of_lt_of_le (mul-lt-mul_of_pos_right hx pos)
    (rw (mul_right_comm a p q) (le_trans (mul-le-mul_right p (mul-le-mul_right q h)) (mul-le-mul_right p hy)))

over-most : {x y : ℕ} (a b p q : ℕ) → a * p ≤ x → y < b * q → b ≤ a → y * p ≤ x * q
over-most a b p q hx hy h =
    le_trans (mul-le-mul_right p (le_of_lt hy))
    (rw (mul_right_comm b q p) (le_trans (mul-le-mul_right q (mul-le-mul_right p h)) (mul-le-mul_right q hx)))

-- one digit of each row, d and b, after the same v: x is what v, d and a rest of one row write, y what v, b and a rest of the other
digit-says : (v d b x y p q : ℕ) (t : Bool)
    → (v * 10 + d) * p ≤ x → x < suc (v * 10 + d) * p
    → (v * 10 + b) * q ≤ y → y < suc (v * 10 + b) * q
    → 0 < q → (d ≡ b → Says t (x * q) (y * p))
    → Says (cond (ltb d b) true (cond (ltb b d) false t)) (x * q) (y * p)
digit-says v d b x y p q t x-least x-most y-least y-most pos same = go (ltb d b) refl (ltb b d) refl
  where
    go : (l : Bool) → ltb d b ≡ l → (g : Bool) → ltb b d ≡ g → Says (cond l true (cond g false t)) (x * q) (y * p)
    go true e g f = over-less (suc (v * 10 + d)) (v * 10 + b) p q x-most y-least (omega (arith, ltb-true d b e)) pos
    go false e true f = over-most (v * 10 + d) (suc (v * 10 + b)) p q x-least y-most (omega (arith, ltb-true b d f))
    go false e false f = same (omega (arith, ltb-false d b e, ltb-false b d f))

-- what the comparison of two rows says: the numbers that they write, as if both had equally many digits
pub less-says : (v : ℕ) (ds bs : List ℕ) → tens ds ≡ true → tens bs ≡ true → Says (is_less ds bs) (numeral_from v ds * 10 ^ length bs) (numeral_from v bs * 10 ^ length ds)
unfolding is_less numeral_from
less-says v ds [] td tb = rw (mul-one (numeral_from v ds)) (numeral-least v ds)
less-says v [] (b ∷ bs) td tb =
    rw (tenfold v (length bs))
    (digit-says v 0 b (v * 10) (numeral_from (v * 10 + b) bs) 1 (10 ^ length bs) (is_less [] bs)
    (omega (arith, mul-one (v * 10 + 0)))
    (omega (arith, mul-one (suc (v * 10 + 0))))
    (numeral-least (v * 10 + b) bs)
    (numeral-most (v * 10 + b) bs (tens-tail b bs tb))
    (ten-pos (length bs))
    (λ e.
    let z : v * 10 + b ≡ v * 10 = omega (arith, e) in
    rw z (less-says (v * 10) [] bs td (tens-tail b bs tb))))
less-says v (d ∷ ds) (b ∷ bs) td tb =
    let x = numeral_from (v * 10 + d) ds in
    let y = numeral_from (v * 10 + b) bs in
    let p = 10 ^ length ds in
    let q = 10 ^ length bs in
    rw (tenfold x (length bs), tenfold y (length ds), mul_right_comm x 10 q, mul_right_comm y 10 p)
    (says-times (is_less (d ∷ ds) (b ∷ bs)) (x * q) (y * p) 10 (omega arith)
    (digit-says v d b x y p q (is_less ds bs)
    (numeral-least (v * 10 + d) ds)
    (numeral-most (v * 10 + d) ds (tens-tail d ds td))
    (numeral-least (v * 10 + b) bs)
    (numeral-most (v * 10 + b) bs (tens-tail b bs tb))
    (ten-pos (length bs))
    (λ e. rw (← e) (less-says (v * 10 + d) ds bs (tens-tail d ds td) (tens-tail b bs tb)))))
