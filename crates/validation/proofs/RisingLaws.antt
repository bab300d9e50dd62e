-- The numbers of a set below a bound, as a rising list: which they are, how many, and that no other rising list has the same.
use Rattle.std.specs.Prelude.{ℕ, zero, suc, ◌+◌, ◌≤◌, ◌<◌, Bool, true, false, cond, ◌&&◌, ◌||◌, List, [], ◌∷◌, ◌++◌, ◌≡◌, refl, ltb, eqb, length}
use Rattle.std.proofs.Common.{arith, append-nil, sym, ap, ◌∙◌, length-append, ltb-true, ltb-false, lt-ltb, le-ltb, eqb-true, eq-eqb}
use Rattle.std.proofs.lemmas.Bool.{false≢true, eqb-false}
use Rattle.std.proofs.Math.Bool.{and-true, and-false, or-true, or-false}
use Rattle.text.proofs.Bools.{and-true-0, or-true-cases}
use Rattle.widening.specs.Opening.{is_in}
use Rattle.widening.proofs.OpeningLaws.{Among}
use Rattle.validation.specs.Marked.{Rises}
use Rattle.validation.specs.Openings.{rising_to}

in-append : (xs ys : List ℕ) (e : ℕ) → is_in (xs ++ ys) e ≡ (is_in xs e || is_in ys e)
unfolding is_in
in-append [] ys e = refl
in-append (x ∷ xs) ys e = go (eqb x e) (in-append xs ys e)
  where
    go : (b : Bool) → is_in (xs ++ ys) e ≡ (is_in xs e || is_in ys e) → (b || is_in (xs ++ ys) e) ≡ ((b || is_in xs e) || is_in ys e)
    go true h = refl
    go false h = h

-- the last number, if it passes
in-last : (b : Bool) (n e : ℕ) → is_in (cond b (n ∷ []) []) e ≡ (b && eqb n e)
unfolding is_in
in-last true n e = or-false (eqb n e)
in-last false n e = refl

next-above : (n e : ℕ) → n ≤ e → (n ≡ e → ⊥) → suc n ≤ e
next-above n e h k = omega arith

below_next : (e n : ℕ) → eqb n e ≡ false → ltb e n ≡ ltb e (suc n)
below_next e n other = go (ltb e n) refl
  where
    go : (b : Bool) → ltb e n ≡ b → b ≡ ltb e (suc n)
    go true less = rw (lt-ltb e (suc n) (omega (arith, ltb-true e n less))) refl
    go false above = rw (le-ltb e (suc n) (next-above n e (ltb-false e n above) (eqb-false n e other))) refl

-- a number is in the list exactly if it is below the bound and passes
pub rising-has : (n : ℕ) (p : ℕ → Bool) (e : ℕ) → is_in (rising_to n p) e ≡ (ltb e n && p e)
unfolding rising_to is_in
rising-has zero p e = rw (le-ltb e 0 (omega arith)) refl
rising-has (suc n) p e =
    in-append (rising_to n p) (cond (p n) (n ∷ []) []) e
    ∙ (rw (rising-has n p e, in-last (p n) n e) (go (eqb n e) refl))
  where
    go : (b : Bool) → eqb n e ≡ b → ((ltb e n && p e) || (p n && b)) ≡ (ltb e (suc n) && p e)
    go true same = rw (← (eqb-true n e same), le-ltb n n (omega arith), lt-ltb n (suc n) (omega arith)) (and-true (p n))
    go false other = rw (and-false (p n), or-false (ltb e n && p e), below_next e n other) refl

pub rising-below : (n : ℕ) (p : ℕ → Bool) (e : ℕ) → is_in (rising_to n p) e ≡ true → e < n
rising-below n p e h = ltb-true e n (and-true-0 (ltb e n) (p e) (sym (rising-has n p e) ∙ h))

-- The list, number by number.

pub rising-takes : (n : ℕ) (p : ℕ → Bool) → p n ≡ true → rising_to (suc n) p ≡ rising_to n p ++ (n ∷ [])
unfolding rising_to
rising-takes n p h = rw h refl

pub rising-skips : (n : ℕ) (p : ℕ → Bool) → p n ≡ false → rising_to (suc n) p ≡ rising_to n p
unfolding rising_to
rising-skips n p h = rw h (append-nil (rising_to n p))

pub rising-agree : (n : ℕ) (p q : ℕ → Bool) → ((e : ℕ) → e < n → p e ≡ q e) → rising_to n p ≡ rising_to n q
unfolding rising_to
rising-agree zero p q h = refl
rising-agree (suc n) p q h =
    λ i. rising-agree n p q (λ e below. h e (omega arith)) i ++ cond (h n (omega arith) i) (n ∷ []) []

-- How many they are.

unfoldable one : Bool → ℕ
one b = cond b 1 0

last-length : (b : Bool) (n : ℕ) → length (cond b (n ∷ []) []) ≡ one b
unfolding one
last-length true n = refl
last-length false n = refl

rising-length : (n : ℕ) (p : ℕ → Bool) → length (rising_to (suc n) p) ≡ length (rising_to n p) + one (p n)
unfolding rising_to
rising-length n p = length-append (rising_to n p) (cond (p n) (n ∷ []) []) ∙ ap (λ (k : ℕ). length (rising_to n p) + k) (last-length (p n) n)

one-few : (b : Bool) → one b ≤ 1
unfolding one
one-few true = omega arith
one-few false = omega arith

one_grows : (b b' : Bool) → (b ≡ true → b' ≡ true) → one b ≤ one b'
unfolding one
one_grows true b' h = rw (h refl) (omega arith)
one_grows false b' h = omega arith

pub rising-few : (n : ℕ) (p : ℕ → Bool) → length (rising_to n p) ≤ n
unfolding rising_to
rising-few zero p = omega arith
rising-few (suc n) p = rw (rising-length n p) (omega (arith, rising-few n p, one-few (p n)))

-- a set that is among another has no more numbers
rising-no-more : (n : ℕ) (less more : ℕ → Bool) → Among less more → length (rising_to n less) ≤ length (rising_to n more)
unfolding rising_to
rising-no-more zero less more w = omega arith
rising-no-more (suc n) less more w =
    rw (rising-length n less, rising-length n more)
    (omega (arith, rising-no-more n less more w, one_grows (less n) (more n) (w n)))

fewer-next : (n : ℕ) (less more : ℕ → Bool) (e : ℕ)
    → Among less more
    → e < suc n
    → less e ≡ false
    → more e ≡ true
    → (e < n → length (rising_to n less) < length (rising_to n more))
    → (b : Bool)
    → eqb n e ≡ b
    → length (rising_to n less) + one (less n) < length (rising_to n more) + one (more n)
unfolding one
fewer-next n less more e w below lacks has h true same =
    rw (eqb-true n e same, lacks, has) (omega (arith, rw (eqb-true n e same) at (rising-no-more n less more w)))
fewer-next n less more e w below lacks has h false other =
    let is_next : (n ≡ e → ⊥) = eqb-false n e other in
    let fewer = h (omega arith) in
    omega (arith, fewer, one_grows (less n) (more n) (w n))

-- and fewer, where it lacks one of them
pub rising-fewer : (n : ℕ) (less more : ℕ → Bool) (e : ℕ)
    → Among less more
    → e < n
    → less e ≡ false
    → more e ≡ true
    → length (rising_to n less) < length (rising_to n more)
rising-fewer zero less more e w below lacks has = absurd (omega arith)
rising-fewer (suc n) less more e w below lacks has =
    rw (rising-length n less, rising-length n more)
    (fewer-next n less more e w below lacks has (λ below'. rising-fewer n less more e w below' lacks has) (eqb n e) refl)

-- They rise.

-- from low on, and below high
abbrev RisesTo : (low high : ℕ) → List ℕ → Type 0
RisesTo low high [] = low ≤ high
RisesTo low high (x ∷ xs) = (low ≤ x) × RisesTo (x + 1) high xs

rises-last : (b : Bool) (low n : ℕ) (xs : List ℕ) → RisesTo low n xs → RisesTo low (suc n) (xs ++ cond b (n ∷ []) [])
rises-last true low n [] h = (h, omega arith)
rises-last false low n [] h = omega arith
rises-last b low n (x ∷ xs) h = (h.0, rises-last b (x + 1) n xs h.1)

rises-to : (n : ℕ) (p : ℕ → Bool) → RisesTo 0 n (rising_to n p)
unfolding rising_to
rises-to zero p = omega arith
rises-to (suc n) p = rises-last (p n) 0 n (rising_to n p) (rises-to n p)

rises-from : (low high : ℕ) (xs : List ℕ) → RisesTo low high xs → Rises low xs
rises-from low high [] h = tt
rises-from low high (x ∷ xs) h = (h.0, rises-from (x + 1) high xs h.1)

pub rising-rises : (n : ℕ) (p : ℕ → Bool) → Rises 0 (rising_to n p)
rising-rises n p = rises-from 0 n (rising_to n p) (rises-to n p)

-- No two rising lists have the same numbers.

in-cases : {A : Type 0} (x : ℕ) (xs : List ℕ) (e : ℕ) → is_in (x ∷ xs) e ≡ true → (x ≡ e → A) → (is_in xs e ≡ true → A) → A
unfolding is_in
in-cases x xs e h f g = or-true-cases (eqb x e) (is_in xs e) (λ same. f (eqb-true x e same)) g h

in-here : (x : ℕ) (xs : List ℕ) → is_in (x ∷ xs) x ≡ true
unfolding is_in
in-here x xs = rw (eq-eqb x x refl) refl

in-behind : (x : ℕ) (xs : List ℕ) (e : ℕ) → is_in xs e ≡ true → is_in (x ∷ xs) e ≡ true
unfolding is_in
in-behind x xs e h = rw h (or-true (eqb x e))

rises-least : (low : ℕ) (xs : List ℕ) (e : ℕ) → Rises low xs → is_in xs e ≡ true → low ≤ e
unfolding is_in
rises-least low [] e r h = absurd (false≢true h)
rises-least low (x ∷ xs) e r h =
    in-cases x xs e h (λ same. omega (arith, r.0)) (λ h. omega (arith, r.0, rises-least (x + 1) xs e r.1 h))

tail-among : (x : ℕ) (xs ys : List ℕ) → Rises (x + 1) xs → Among (is_in (x ∷ xs)) (is_in (x ∷ ys)) → Among (is_in xs) (is_in ys)
tail-among x xs ys r w e h =
    let above : x + 1 ≤ e = rises-least (x + 1) xs e r h in
    in-cases x ys e (w e (in-behind x xs e h)) (λ same. absurd (omega arith)) (λ k. k)

empty-among : (x : ℕ) (xs : List ℕ) → Among (is_in (x ∷ xs)) (is_in []) → ⊥
unfolding is_in
empty-among x xs w = false≢true (w x (in-here x xs))

same_head : (low : ℕ) (x y : ℕ) (xs ys : List ℕ) → Rises low (y ∷ ys) → Among (is_in (x ∷ xs)) (is_in (y ∷ ys)) → y ≤ x
same_head low x y xs ys r w = rises-least y (y ∷ ys) x (omega arith, r.1) (w x (in-here x xs))

pub rises-same : (low : ℕ) (xs ys : List ℕ)
    → Rises low xs
    → Rises low ys
    → Among (is_in xs) (is_in ys)
    → Among (is_in ys) (is_in xs)
    → xs ≡ ys
rises-same low [] [] r q w v = refl
rises-same low [] (y ∷ ys) r q w v = absurd (empty-among y ys v)
rises-same low (x ∷ xs) [] r q w v = absurd (empty-among x xs w)
rises-same low (x ∷ xs) (y ∷ ys) r q w v =
    let same : y ≡ x = omega (arith, same_head low x y xs ys q w, same_head low y x ys xs r v) in
    let q' : Rises (x + 1) ys = rw same at q.1 in
    let w' : Among (is_in (x ∷ xs)) (is_in (x ∷ ys)) = rw same at w in
    let v' : Among (is_in (x ∷ ys)) (is_in (x ∷ xs)) = rw same at v in
    rw same
    (ap (λ (zs : List ℕ). x ∷ zs) (rises-same (x + 1) xs ys r.1 q' (tail-among x xs ys r.1 w') (tail-among x ys xs q' v')))
