-- Laws of rows of digits at a place: each way through the code's loops, as an equation of what the loop computes.
use Prim.Native.Nat.{ℕ, zero, suc, ◌+◌, ◌*◌, ◌-◌, ◌<◌, ◌≤◌}
use mathlib.Core.Path.{◌≡◌, refl, sym, ap, ◌∙◌}
use mathlib.Core.Bool.{Bool, true, false, cond}
use mathlib.Core.List.{List, [], ◌∷◌, ◌++◌, map, map-append}
use native.Mathlib.Omega.{arith}
use native.Mathlib.Nat.{add-zero, le_of_suc-le-suc, not-suc-le-zero}
use native.Mathlib.Numerals.{add-one}
use lib.ListN.{length, drop, get_or, length-map, get_or-map, get_or-append, get_or-eq_default, drop_of_length-le, length-append}
use lib.Seq.{drop-cons, drop-drop, get_or-drop, get_or-append-add, drop-append-le, drop-append-add}
use lib.Dec.{ltb, eqb}
use borrow.Author.Tests.{ltb-false, lt-ltb, le-ltb, eq-eqb, ne_eqb}
use Rattle.number.specs.Finite.{digit, numeral_from}
use Rattle.number.specs.FirstDigit.{zeros, significant, is_less, matched}

pub map-drop : (f : ℕ → ℕ) (n : ℕ) (s : List ℕ) → map f (drop n s) ≡ drop n (map f s)
map-drop f zero s = refl
map-drop f (suc n) [] = refl
map-drop f (suc n) (b ∷ s) = map-drop f n s

-- a numeral grows digit by digit
pub numeral-on : (v : ℕ) (s : List ℕ) (i : ℕ) → i < length s → numeral_from v (map digit (drop i s)) ≡ numeral_from (v * 10 + digit (get_or s i 0)) (map digit (drop (i + 1) s))
unfolding numeral_from
numeral-on v s i h = rw (add-one, drop-cons s i 0 h)

pub numeral-out : (v : ℕ) (s : List ℕ) (i : ℕ) → length s ≤ i → numeral_from v (map digit (drop i s)) ≡ v
unfolding numeral_from
numeral-out v s i h = rw (drop_of_length-le s h)

pub numeral-grows : (v : ℕ) (ds : List ℕ) → v ≤ numeral_from v ds
unfolding numeral_from
numeral-grows v [] = omega arith
numeral-grows v (d ∷ ds) = omega (arith, numeral-grows (v * 10 + d) ds)

-- one more digit: ten times as much at least
pub numeral-tenfold : (v : ℕ) (s : List ℕ) (i : ℕ) → i < length s → v * 10 ≤ numeral_from v (map digit (drop i s))
numeral-tenfold v s i h =
    rw (numeral-on v s i h) (omega (arith, numeral-grows (v * 10 + digit (get_or s i 0)) (map digit (drop (i + 1) s))))

-- zeros that lead
zeros-cons : (d : ℕ) (ds : List ℕ) → d ≡ 0 → zeros (d ∷ ds) ≡ suc (zeros ds)
unfolding zeros
zeros-cons d ds e = rw (eq-eqb d 0 e)

zeros-other : (d : ℕ) (ds : List ℕ) → (d ≡ 0 → ⊥) → zeros (d ∷ ds) ≡ 0
unfolding zeros
zeros-other d ds e = rw (ne_eqb d 0 e)

pub zeros-on : (s : List ℕ) (i : ℕ) → i < length s → digit (get_or s i 0) ≡ 0 → i + zeros (map digit (drop i s)) ≡ i + 1 + zeros (map digit (drop (i + 1) s))
zeros-on s i h e = rw (drop-cons s i 0 h, zeros-cons (digit (get_or s i 0)) (map digit (drop (suc i) s)) e, ← add-one i) (omega arith)

pub zeros-stop : (s : List ℕ) (i : ℕ) → i < length s → (digit (get_or s i 0) ≡ 0 → ⊥) → i + zeros (map digit (drop i s)) ≡ i
zeros-stop s i h e = rw (drop-cons s i 0 h, zeros-other (digit (get_or s i 0)) (map digit (drop (suc i) s)) e) (omega arith)

pub zeros-out : (s : List ℕ) (i : ℕ) → length s ≤ i → i + zeros (map digit (drop i s)) ≡ i
unfolding zeros
zeros-out s i h = rw (drop_of_length-le s h) (omega arith)

zeros-append : (a b : List ℕ) → zeros a < length a → zeros (a ++ b) ≡ zeros a
unfolding zeros
zeros-append [] b h = absurd (not-suc-le-zero h)
zeros-append (d ∷ a) b h = go (eqb d 0) h (zeros-append a b)
  where
    go : (t : Bool) → cond t (suc (zeros a)) 0 < suc (length a) → (zeros a < length a → zeros (a ++ b) ≡ zeros a) → cond t (suc (zeros (a ++ b))) 0 ≡ cond t (suc (zeros a)) 0
    go true l e = ap suc (e (le_of_suc-le-suc l))
    go false l e = refl

zeros-through : (a b : List ℕ) → length a ≤ zeros a → zeros (a ++ b) ≡ length a + zeros b
unfolding zeros
zeros-through [] b h = omega arith
zeros-through (d ∷ a) b h = go (eqb d 0) h (zeros-through a b)
  where
    go : (t : Bool) → suc (length a) ≤ cond t (suc (zeros a)) 0 → (length a ≤ zeros a → zeros (a ++ b) ≡ length a + zeros b) → cond t (suc (zeros (a ++ b))) 0 ≡ suc (length a) + zeros b
    go true l e = omega (arith, e (le_of_suc-le-suc l))
    go false l e = absurd (not-suc-le-zero l)

-- the digits from the first nonzero one on, where that comes before the point, after it, or nowhere
module _ (whole fraction : List ℕ) (w : ℕ) (is : w ≡ zeros (map digit whole)) where
  pub significant-whole : w < length whole → significant (map digit (whole ++ fraction)) ≡ map digit (drop w whole ++ fraction)
  unfolding significant
  significant-whole h =
      let l : zeros (map digit whole) < length (map digit whole) = rw (← is, length-map whole digit) h in
      rw (map-append digit whole fraction, zeros-append (map digit whole) (map digit fraction) l, ← is, map-append digit (drop w whole) fraction, map-drop)
      (drop-append-le w (map digit whole) (map digit fraction) (rw (length-map whole digit) (omega (arith, h))))

  pub significant-fraction : length whole ≤ w → significant (map digit (whole ++ fraction)) ≡ significant (map digit fraction)
  unfolding significant
  significant-fraction h =
      let l : length (map digit whole) ≤ zeros (map digit whole) = rw (← is, length-map whole digit) h in
      rw (map-append digit whole fraction, zeros-through (map digit whole) (map digit fraction) l)
      (drop-append-add (map digit whole) (map digit fraction) (zeros (map digit fraction)))

-- the digit at a place of two rows
pub digit-high : (high low : List ℕ) (i : ℕ) → i < length high → digit (get_or high i 0) ≡ get_or (map digit (high ++ low)) i 0
digit-high high low i h = ap digit (sym (get_or-append high low 0 i h)) ∙ sym (get_or-map digit (high ++ low) i 0)

pub digit_low : (high low : List ℕ) (i : ℕ) → length high ≤ i → digit (get_or low (i - length high) 0) ≡ get_or (map digit (high ++ low)) i 0
digit_low high low i h =
    let n : length high + (i - length high) ≡ i = omega (arith, h) in
    ap digit (sym (get_or-append-add high low (i - length high) 0) ∙ ap (λ (k : ℕ). get_or (high ++ low) k 0) n)
    ∙ sym (get_or-map digit (high ++ low) i 0)

pub digit-out : (high low : List ℕ) (i : ℕ) → length high ≤ i → length low ≤ i - length high → 0 ≡ get_or (map digit (high ++ low)) i 0
digit-out high low i h k =
    let n : length (map digit (high ++ low)) ≤ i = rw (length-map (high ++ low) digit, length-append high low) (omega (arith, h, k)) in
    sym (get_or-eq_default (map digit (high ++ low)) 0 n)

-- digits against a bound's: what is left from place i on decides as the whole does, and is compared after i digits
abbrev pub Left : List ℕ → List ℕ → ℕ → Type 0
Left ds bs i = (is_less (drop i ds) (drop i bs) ≡ is_less ds bs) × (i + matched (drop i ds) (drop i bs) ≡ matched ds bs)

module _ (ds bs : List ℕ) (i : ℕ) (h : i < length bs) where
  head : get_or (drop i ds) 0 0 ≡ get_or ds i 0
  head = get_or-drop i ds 0 0 ∙ ap (λ (k : ℕ). get_or ds k 0) (add-zero i)

  less-first : (d b : ℕ) (bs' : List ℕ) → (d ≡ b → ⊥) → cond (ltb d b) true (cond (ltb b d) false (is_less (drop 1 (drop i ds)) bs')) ≡ ltb d b
  less-first d b bs' e = go (ltb d b) refl
    where
      go : (t : Bool) → ltb d b ≡ t → cond t true (cond (ltb b d) false (is_less (drop 1 (drop i ds)) bs')) ≡ t
      go true p = refl
      go false p = rw (lt-ltb b d (omega (arith, ltb-false d b p, e)))

  -- d is the digit at place i
  pub left-differs : {d : ℕ} → d ≡ get_or ds i 0 → (d ≡ get_or bs i 0 → ⊥) → Left ds bs i → (ltb d (get_or bs i 0) ≡ is_less ds bs) × (i + 1 ≡ matched ds bs)
  unfolding is_less matched
  left-differs {d} is e l = (
    sym (rw (drop-cons bs i 0 h, head, ← is) (less-first d (get_or bs i 0) (drop (suc i) bs) e)) ∙ l.0,
    sym (rw (drop-cons bs i 0 h, head, ← is, ne_eqb d (get_or bs i 0) e)) ∙ l.1,
  )

  pub left-same : {d : ℕ} → d ≡ get_or ds i 0 → d ≡ get_or bs i 0 → Left ds bs i → Left ds bs (i + 1)
  unfolding is_less matched
  left-same is same l =
      let e : get_or ds i 0 ≡ get_or bs i 0 = sym is ∙ same in
      let less : is_less (drop i ds) (drop i bs) ≡ is_less (drop (i + 1) ds) (drop (i + 1) bs) =
      rw (
        drop-cons bs i 0 h,
        head,
        le-ltb (get_or ds i 0) (get_or bs i 0) (omega (arith, e)),
        le-ltb (get_or bs i 0) (get_or ds i 0) (omega (arith, e)),
        drop-drop 1 i ds,
        add-one,
      )
      in
      let count : i + matched (drop i ds) (drop i bs) ≡ i + 1 + matched (drop (i + 1) ds) (drop (i + 1) bs) =
      rw (drop-cons bs i 0 h, head, eq-eqb (get_or ds i 0) (get_or bs i 0) e, drop-drop 1 i ds, add-one) (omega arith)
      in
      (sym less ∙ l.0, sym count ∙ l.1)

pub left-none : (ds bs : List ℕ) (i : ℕ) → length bs ≤ i → Left ds bs i → (false ≡ is_less ds bs) × (i ≡ matched ds bs)
unfolding is_less matched
left-none ds bs i h l =
    let none = drop_of_length-le bs h in
    (rw none at l.0, omega (arith, rw none at l.1))
