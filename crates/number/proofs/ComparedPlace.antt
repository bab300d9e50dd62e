-- How many digits are compared is what the sentence says: none unless the magnitude is at least 10^308 and below 10^309, else up to and with the first
-- digit that differs.
use Prim.Native.Nat.{ℕ, zero, suc, ◌+◌, ◌*◌, ◌≤◌, ◌<◌, ◌^◌}
use mathlib.Core.Bool.{Bool, true, false, cond}
use mathlib.Core.List.{List, [], ◌∷◌, ◌++◌, map}
use mathlib.Core.Option.{none, some}
use mathlib.Core.Path.{◌≡◌, refl, sym, ◌∙◌}
use native.Mathlib.Omega.{arith}
use native.Mathlib.Nat.{add-zero, le_trans, le_of_eq, lt_of_lt_of_le, mul-le-mul_right, mul-lt-mul_of_pos_right, pow-le-pow_right}
use lib.ListN.{length, get_or, drop}
use lib.Pow.{pow-add}
use lib.Dec.{eqb, ltb}
use borrow.Author.Tests.{eqb-true, eqb-false, ltb-true, ltb-false}
use Rattle.number.specs.Bound.{bound}
use Rattle.number.specs.Grammar.{Number, number}
use Rattle.number.specs.Finite.{digit, numeral_from, numeral, value}
use Rattle.number.specs.FirstDigit.{zeros, significant, order, level_of, level_by, digits_in, level_in, matched, compared_at, compared_in, compared}
use Rattle.number.specs.Compared.{Between, BetweenAt, UpTo, ComparedSays}
use Rattle.number.proofs.Levels.{order_below, order-above, order-even}
use Rattle.number.proofs.Numeral.{tens, ten-pos, numeral-significant}
use Rattle.number.proofs.Table.{bound-length}
use Rattle.number.proofs.Tens.{number_digits}
use Rattle.number.proofs.Decides.{first-least, first-most, Leads, leads-significant, tens-drop}

-- The first digit that differs.

behind : (ds : List ℕ) (i : ℕ) → get_or (drop 1 ds) i 0 ≡ get_or ds (suc i) 0
behind [] i = refl
behind (d ∷ ds) i = refl

first-differs : (ds : List ℕ) (b : ℕ) (bs : List ℕ) → (get_or ds 0 0 ≡ b → ⊥) → UpTo ds (b ∷ bs) 1
first-differs ds b bs other =
    record {
      some-digit = omega arith;
      most = omega arith;
      same = λ i less. absurd (omega arith);
      differs = λ i is less same. at i (omega arith) same;
    }
  where
    at : (i : ℕ) → i ≡ 0 → get_or ds i 0 ≡ get_or (b ∷ bs) i 0 → ⊥
    at zero e same = other same
    at (suc i) e same = omega arith

one_more : (ds : List ℕ) (b : ℕ) (bs : List ℕ) (k : ℕ) → get_or ds 0 0 ≡ b → UpTo (drop 1 ds) bs k → UpTo ds (b ∷ bs) (suc k)
one_more ds b bs k first u =
    record {
      some-digit = omega arith;
      most = omega (arith, u.most);
      same = same;
      differs = differs;
    }
  where
    same : (i : ℕ) → i + 1 < suc k → get_or ds i 0 ≡ get_or (b ∷ bs) i 0
    same zero less = first
    same (suc i) less = sym (behind ds i) ∙ u.same i (omega arith)

    differs : (i : ℕ) → i + 1 ≡ suc k → suc k < suc (length bs) → get_or ds i 0 ≡ get_or (b ∷ bs) i 0 → ⊥
    differs zero is less e = omega (arith, u.some-digit)
    differs (suc i) is less e = u.differs i (omega arith) (omega arith) (behind ds i ∙ e)

last-same : (ds : List ℕ) (b : ℕ) → UpTo ds (b ∷ []) 1
last-same ds b =
    record {
      some-digit = omega arith;
      most = omega arith;
      same = λ i less. absurd (omega arith);
      differs = λ i is less same. omega arith;
    }

up_to : (ds bs : List ℕ) → 0 < length bs → UpTo ds bs (matched ds bs)
unfolding matched
up_to ds [] h = absurd (omega arith)
up_to ds (b ∷ []) h = go (eqb (get_or ds 0 0) b)
  where
    go : (t : Bool) → UpTo ds (b ∷ []) (cond t 1 1)
    go true = last-same ds b
    go false = last-same ds b
up_to ds (b ∷ c ∷ bs) h = go (eqb (get_or ds 0 0) b) refl (up_to (drop 1 ds) (c ∷ bs) (omega arith))
  where
    go : (t : Bool) → eqb (get_or ds 0 0) b ≡ t → UpTo (drop 1 ds) (c ∷ bs) (matched (drop 1 ds) (c ∷ bs))
        → UpTo ds (b ∷ c ∷ bs) (cond t (suc (matched (drop 1 ds) (c ∷ bs))) 1)
    go true e u = one_more ds b (c ∷ bs) _ (eqb-true (get_or ds 0 0) b e) u
    go false e u = first-differs ds b (c ∷ bs) (eqb-false (get_or ds 0 0) b e)

up-to-bound : (ds : List ℕ) → UpTo ds bound (matched ds bound)
up-to-bound ds = up_to ds bound (omega (arith, bound-length))

-- Where the first nonzero digit stands.

-- of a row whose first digit is not zero, what is compared by the place of that digit
pub record Placed (here : Type 0) (ds : List ℕ) (count : ℕ) : Type 0 where
  pub elsewhere : (here → ⊥) → count ≡ 0
  pub there : here → UpTo ds bound count

module _ (d : ℕ) (ds : List ℕ) (nonzero : 0 < d) (t : tens (d ∷ ds) ≡ true) where
  below : (a b : ℕ) → suc (length ds) + a < 309 + b → Between (numeral (d ∷ ds)) a b → ⊥
  below a b h here =
      let less : numeral (d ∷ ds) * 10 ^ a < 10 ^ 308 * 10 ^ b =
      lt_of_lt_of_le (mul-lt-mul_of_pos_right (first-most d ds nonzero t) (ten-pos a))
      (le_trans (le_of_eq (sym (pow-add 10 (suc (length ds)) a)))
      (le_trans (pow-le-pow_right {n = 10} (omega arith) {i = suc (length ds) + a} {j = 308 + b} (omega (arith, h)))
      (le_of_eq (pow-add 10 308 b))))
      in
      apart _ _ less here.least
    where
      apart : (x y : ℕ) → x < y → y ≤ x → ⊥
      apart x y p q = omega arith

  above : (a b : ℕ) → 309 + b < suc (length ds) + a → Between (numeral (d ∷ ds)) a b → ⊥
  above a b h here =
      let more : 10 ^ 309 * 10 ^ b ≤ numeral (d ∷ ds) * 10 ^ a =
      le_trans (le_of_eq (sym (pow-add 10 309 b)))
      (le_trans (pow-le-pow_right {n = 10} (omega arith) {i = 309 + b} {j = length ds + a} (omega (arith, h)))
      (le_trans (le_of_eq (pow-add 10 (length ds) a)) (mul-le-mul_right (10 ^ a) (first-least d ds nonzero t))))
      in
      apart _ _ here.most more
    where
      apart : (x y : ℕ) → x < y → y ≤ x → ⊥
      apart x y p q = omega arith

  even : (a b : ℕ) → suc (length ds) + a ≡ 309 + b → Between (numeral (d ∷ ds)) a b
  even a b h =
      record {
        least =
            le_trans (le_of_eq (sym (pow-add 10 308 b)))
            (le_trans (pow-le-pow_right {n = 10} (omega arith) {i = 308 + b} {j = length ds + a} (omega (arith, h)))
            (le_trans (le_of_eq (pow-add 10 (length ds) a)) (mul-le-mul_right (10 ^ a) (first-least d ds nonzero t))));
        most =
            lt_of_lt_of_le (mul-lt-mul_of_pos_right (first-most d ds nonzero t) (ten-pos a))
            (le_trans (le_of_eq (sym (pow-add 10 (suc (length ds)) a)))
            (le_trans (pow-le-pow_right {n = 10} (omega arith) {i = suc (length ds) + a} {j = 309 + b} (omega (arith, h)))
            (le_of_eq (pow-add 10 309 b))));
      }

  by_order : (a b : ℕ) → Placed (Between (numeral (d ∷ ds)) a b) (d ∷ ds) (compared_at (order (suc (length ds) + a) (309 + b)) (d ∷ ds))
  unfolding compared_at
  by_order a b = go (ltb n m) refl (ltb m n) refl
    where
      n : ℕ
      n = suc (length ds) + a

      m : ℕ
      m = 309 + b

      go : (l : Bool) → ltb n m ≡ l → (g : Bool) → ltb m n ≡ g → Placed (Between (numeral (d ∷ ds)) a b) (d ∷ ds) (compared_at (order n m) (d ∷ ds))
      go true p g q =
          rw (order_below n m (ltb-true n m p))
          (record { elsewhere = λ h. refl; there = λ h. absurd (below a b (ltb-true n m p) h) })
      go false p true q =
          rw (order-above n m (ltb-true m n q))
          (record { elsewhere = λ h. refl; there = λ h. absurd (above a b (ltb-true m n q) h) })
      go false p false q =
          let e : n ≡ m = omega (arith, ltb-false n m p, ltb-false m n q) in
          rw (order-even n m (ltb-false n m p) (ltb-false m n q))
          (record { elsewhere = λ h. absurd (h (even a b e)); there = λ h. up-to-bound (d ∷ ds) })

-- zero stands nowhere
nothing : (a b : ℕ) → Between 0 a b → ⊥
nothing a b h = zero-least (10 ^ 308) (10 ^ b) (ten-pos 308) (ten-pos b) h.least
  where
    zero-least : (x y : ℕ) → 0 < x → 0 < y → x * y ≤ 0 * 10 ^ a → ⊥
    zero-least (suc x) (suc y) p q h = omega arith
    zero-least zero y p q h = omega arith
    zero-least (suc x) zero p q h = omega arith

by_level : (lowered : Bool) (ds : List ℕ) (f e : ℕ) → Leads ds → tens ds ≡ true → Placed (BetweenAt lowered (numeral ds) f e) ds (compared_at (level_by lowered ds f e) ds)
unfolding level_by level_of compared_at numeral numeral_from
by_level false [] f e h t = record { elsewhere = λ h. refl; there = λ h. absurd (nothing e f h) }
by_level true [] f e h t = record { elsewhere = λ h. refl; there = λ h. absurd (nothing 0 (f + e) h) }
by_level false (d ∷ ds) f e h t = by_order d ds h t e f
by_level true (d ∷ ds) f e h t =
    rw (add-zero (suc (length ds))) at (by_order d ds h t 0 (f + e))

pub compared-says : (s : List ℕ) (n : Number) → number s ≡ some n → ComparedSays n (compared s)
unfolding compared compared_in level_in digits_in significant value
compared-says s n reads =
    let ds = map digit (n.whole ++ n.fraction) in
    let placed = by_level n.lowered (significant ds) (length n.fraction) (value n.exponent) (leads-significant ds) (tens-drop (zeros ds) ds (number_digits s n reads)) in
    rw reads
    (record {
      elsewhere = λ h. placed.elsewhere (λ there. h (rw (numeral-significant ds) at there));
      there = λ h. placed.there (rw (numeral-significant ds) h);
    })

-- a text that is not a number has none
pub compared-other : (s : List ℕ) → number s ≡ none → compared s ≡ 0
unfolding compared compared_in
compared-other s e = rw e
