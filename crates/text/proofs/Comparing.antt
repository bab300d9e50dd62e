-- Laws of the order of two texts: by their first bytes, and by their bytes from a place on.
use Prim.Native.Nat.{ℕ, zero, suc, min, ◌+◌, ◌*◌, ◌<◌, ◌≤◌}
use mathlib.Core.Path.{◌≡◌, refl, ap, sym}
use mathlib.Core.Bool.{Bool, true, false}
use mathlib.Core.List.{List, [], ◌∷◌}
use native.Mathlib.Omega.{arith}
use native.Mathlib.Numerals.{add-one}
use lib.Dec.{ltb}
use lib.ListN.{length, drop, get_or, drop_of_length-le}
use lib.Seq.{drop-cons}
use borrow.Author.Tests.{lt-ltb, le-ltb, eq-eqb, ne_eqb, ltb-true, ltb-false}
use Rattle.text.specs.Digits.{big_endian, BigEndian}
use Rattle.text.proofs.Below.{below_more, reached}
use Rattle.text.proofs.DigitLaws.{stays-below, same-big-endian}
use Rattle.text.specs.Order.{precedes, same_bytes}
use Rattle.text.specs.OrderLaws.{same_bytes-equal}
use Rattle.text.specs.CaseLaws.{by-test}
use Rattle.std.specs.Ordering.{MatchOrdering}
use Rattle.std.specs.declared.cmp.Ordering.{Ordering}
use Rattle.std.specs.declared.cmp.Ordering.TheVariants.{Less, Equal, Greater}
use Rattle.text.specs.Compares.{Compares, Stand, SameAt, SameStart}

cons_same : (x y : ℕ) {s t : List ℕ} {p q r : Bool} → x ≡ y → Stand s t p q r → Stand (x ∷ s) (y ∷ t) p q r
unfolding precedes same_bytes
cons_same x y e h =
    record {
      before-is = rw (le-ltb x y (omega arith), eq-eqb x y e) h.before-is;
      same-is = rw (eq-eqb x y e) h.same-is;
      behind-is = rw (le-ltb y x (omega arith), eq-eqb y x (omega arith)) h.behind-is;
    }

cons-less : (x y : ℕ) (s t : List ℕ) → x < y → Stand (x ∷ s) (y ∷ t) true false false
unfolding precedes same_bytes
cons-less x y s t h =
    record {
      before-is = rw (lt-ltb x y h);
      same-is = rw (ne_eqb x y (λ e. omega arith));
      behind-is = rw (le-ltb y x (omega arith), ne_eqb y x (λ e. omega arith));
    }

cons-greater : (x y : ℕ) (s t : List ℕ) → y < x → Stand (x ∷ s) (y ∷ t) false false true
unfolding precedes same_bytes
cons-greater x y s t h =
    record {
      before-is = rw (le-ltb x y (omega arith), ne_eqb x y (λ e. omega arith));
      same-is = rw (ne_eqb x y (λ e. omega arith));
      behind-is = rw (lt-ltb y x h);
    }

nil-cons : (y : ℕ) (t : List ℕ) → Stand [] (y ∷ t) true false false
unfolding precedes same_bytes
nil-cons y t = record { before-is = refl; same-is = refl; behind-is = refl }

cons-nil : (x : ℕ) (s : List ℕ) → Stand (x ∷ s) [] false false true
unfolding precedes same_bytes
cons-nil x s = record { before-is = refl; same-is = refl; behind-is = refl }

nil-nil : Stand [] [] false true false
unfolding precedes same_bytes
nil-nil = record { before-is = refl; same-is = refl; behind-is = refl }

-- however the bytes from place i on compare, so do the texts
abbrev pub Goes : List ℕ → List ℕ → ℕ → Type 0
Goes a b i = (p q r : Bool) → Stand (drop i a) (drop i b) p q r → Stand a b p q r

module _ (a b : List ℕ) (i : ℕ) (goes : Goes a b i) where
  pub both_end : length a ≤ i → length b ≤ i → Stand a b false true false
  both_end ha hb = goes _ _ _ (rw (drop_of_length-le a ha, drop_of_length-le b hb) nil-nil)

  pub first_ends : length a ≤ i → i < length b → Stand a b true false false
  first_ends ha hb = goes _ _ _ (rw (drop_of_length-le a ha, drop-cons b i 0 hb) (nil-cons _ _))

  module _ (ha : i < length a) where
    pub second-ends : length b ≤ i → Stand a b false false true
    second-ends hb = goes _ _ _ (rw (drop-cons a i 0 ha, drop_of_length-le b hb) (cons-nil _ _))

    module _ (hb : i < length b) where
      pub is-less : get_or a i 0 < get_or b i 0 → Stand a b true false false
      is-less h = goes _ _ _ (rw (drop-cons a i 0 ha, drop-cons b i 0 hb) (cons-less _ _ _ _ h))

      pub is_greater : get_or b i 0 < get_or a i 0 → Stand a b false false true
      is_greater h = goes _ _ _ (rw (drop-cons a i 0 ha, drop-cons b i 0 hb) (cons-greater _ _ _ _ h))

      pub unequal : (get_or a i 0 ≡ get_or b i 0 → ⊥) → (r : Ordering)
          → MatchOrdering r (get_or a i 0 < get_or b i 0) (get_or a i 0 ≡ get_or b i 0) (get_or b i 0 < get_or a i 0)
          → Compares a b r
      unequal ne Less h = is-less h
      unequal ne Equal h = absurd (ne h)
      unequal ne Greater h = is_greater h

      pub goes_on : get_or a i 0 ≡ get_or b i 0 → Goes a b (i + 1)
      goes_on e p q r h = goes p q r (rw (drop-cons a i 0 ha, drop-cons b i 0 hb) (cons_same _ _ e (rw (add-one i) at h)))

-- the bytes up to the end of the shorter are the same: the lengths decide
pub by-lengths : (a b : List ℕ) (i : ℕ) → Goes a b i → i ≡ min (length a) (length b) → (r : Ordering)
    → MatchOrdering r (length a < length b) (length a ≡ length b) (length b < length a)
    → Compares a b r
by-lengths a b i goes n Less h = first_ends a b i goes (omega arith) (omega arith)
by-lengths a b i goes n Equal h = both_end a b i goes (omega arith) (omega arith)
by-lengths a b i goes n Greater h = second-ends a b i goes (omega arith) (omega arith)

-- Bytes that are passed over by eights

pub same_none : (a b : List ℕ) → SameStart a b 0
same_none a b = record { in-first = omega arith; in-second = omega arith; same = λ k h. absurd (omega arith) }

pub same_more
    : (a b : List ℕ) (i n : ℕ)
    → SameStart a b i
    → i + n ≤ length a
    → i + n ≤ length b
    → SameAt a b i n
    → SameStart a b (i + n)
same_more a b i n h p q at =
    record { in-first = p; in-second = q; same = below_more (λ k. get_or a k 0 ≡ get_or b k 0) i n h.same at }

-- so do the texts after the bytes that are the same
pub goes-start : (a b : List ℕ) (n : ℕ) → SameStart a b n → Goes a b n
goes-start a b n h =
    reached (Goes a b) n (λ p q r s. s)
    (λ i l goes. goes_on a b i goes (omega (arith, h.in-first)) (omega (arith, h.in-second)) (h.same i l))

-- Numbers of several bytes of both texts, the first byte their highest digit

module _ (a b : List ℕ) (below : (i : ℕ) → get_or a i 0 < 256) (below' : (i : ℕ) → get_or b i 0 < 256) where
  number-decides
      : (n i x y : ℕ)
      → x ≡ y
      → Goes a b i
      → i + n ≤ length a
      → i + n ≤ length b
      → (big_endian n a i x < big_endian n b i y → Stand a b true false false) × (big_endian n b i y < big_endian n a i x → Stand a b false false true)
  unfolding big_endian
  number-decides zero i x y e goes p q = (λ h. absurd (omega arith), λ h. absurd (omega arith))
  number-decides (suc n) i x y e goes p q =
      go (λ e' goes'. number-decides n (i + 1) _ _ e' goes' (omega arith) (omega arith))
      (ltb (get_or a i 0) (get_or b i 0)) refl (ltb (get_or b i 0) (get_or a i 0)) refl
    where
      v : ℕ
      v = big_endian n a (i + 1) (x * 256 + get_or a i 0)

      w : ℕ
      w = big_endian n b (i + 1) (y * 256 + get_or b i 0)

      Decided : Type 0
      Decided = (v < w → Stand a b true false false) × (w < v → Stand a b false false true)

      go
          : (x * 256 + get_or a i 0 ≡ y * 256 + get_or b i 0 → Goes a b (i + 1) → Decided)
          → (f : Bool)
          → ltb (get_or a i 0) (get_or b i 0) ≡ f
          → (g : Bool)
          → ltb (get_or b i 0) (get_or a i 0) ≡ g
          → Decided
      go on true h g h' =
          let less = ltb-true (get_or a i 0) (get_or b i 0) h in
          let lower = stays-below a b below below' n (i + 1) (i + 1) (x * 256 + get_or a i 0) (y * 256 + get_or b i 0) (omega arith) in
          (λ _. is-less a b i goes (omega arith) (omega arith) less, λ k. absurd (omega arith))
      go on false h true h' =
          let less = ltb-true (get_or b i 0) (get_or a i 0) h' in
          let lower = stays-below b a below' below n (i + 1) (i + 1) (y * 256 + get_or b i 0) (x * 256 + get_or a i 0) (omega arith) in
          (λ k. absurd (omega arith), λ _. is_greater a b i goes (omega arith) (omega arith) less)
      go on false h false h' =
          let p' = ltb-false (get_or a i 0) (get_or b i 0) h in
          let q' = ltb-false (get_or b i 0) (get_or a i 0) h' in
          on (omega arith) (goes_on a b i goes (omega arith) (omega arith) (omega arith))

module _ (a b : List ℕ) (n i v w : ℕ) (same : SameStart a b i) (p : i + n ≤ length a) (q : i + n ≤ length b) (x : BigEndian n a i v) (y : BigEndian n b i w) where
  decided : (v < w → Stand a b true false false) × (w < v → Stand a b false false true)
  decided = rw (x.value-is, y.value-is) (number-decides a b x.below y.below n i 0 0 refl (goes-start a b i same) p q)

  pub number-less : v < w → Stand a b true false false
  number-less = decided.0

  pub number-greater : w < v → Stand a b false false true
  number-greater = decided.1

  pub number_same : v ≡ w → SameStart a b (i + n)
  number_same e = same_more a b i n same p q (same-big-endian a b x.below y.below n i x.value-is y.value-is e)

-- Texts that are the same, or not

apart : (f : List ℕ → ℕ) (a b : List ℕ) → (f a ≡ f b → ⊥) → false ≡ same_bytes a b
apart f a b h = sym (by-test (same_bytes a b) (λ e. absurd (h (ap f (same_bytes-equal a b e)))) (λ e. e))

pub same-apart : (a b : List ℕ) → (length a ≡ length b → ⊥) → false ≡ same_bytes a b
same-apart = apart length

pub same-apart-at : (a b : List ℕ) (i : ℕ) → (get_or a i 0 ≡ get_or b i 0 → ⊥) → false ≡ same_bytes a b
same-apart-at a b i = apart (λ s. get_or s i 0) a b

pub same-to-the-end : (a b : List ℕ) (i : ℕ) → Goes a b i → length a ≡ length b → length a ≤ i → true ≡ same_bytes a b
same-to-the-end a b i goes e h = sym (both_end a b i goes h (omega arith)).same-is
