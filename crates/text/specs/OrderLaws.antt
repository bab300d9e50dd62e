-- The order of texts is strict and transitive, and the test for the same bytes says what it seems to say.
use Rattle.std.specs.Prelude.{ℕ, ◌<◌, true, false, List, [], ◌∷◌, ◌⊎◌, ◌≡◌, refl, ltb, eqb}
use Rattle.std.proofs.Math.Bool.{and-eq-true_iff}
use Rattle.std.proofs.lemmas.Bool.{false≢true}
use Rattle.std.proofs.Common.{inl, inr, sym, ap₂, ◌∙◌, arith, ltb-true, lt-ltb, le-ltb, eqb-true, eq-eqb}
use Rattle.text.specs.Order.{precedes, same_bytes}
use Rattle.text.specs.CaseLaws.{by-test}

pub same_bytes-equal : (a b : List ℕ) → same_bytes a b ≡ true → a ≡ b
unfolding same_bytes
same_bytes-equal [] [] e = refl
same_bytes-equal [] (b ∷ t) e = absurd (false≢true e)
same_bytes-equal (a ∷ s) [] e = absurd (false≢true e)
same_bytes-equal (a ∷ s) (b ∷ t) e =
    let h = (and-eq-true_iff (eqb a b) (same_bytes s t)).0 e in
    ap₂ (λ (x : ℕ) (r : List ℕ). x ∷ r) (eqb-true a b h.0) (same_bytes-equal s t h.1)

pub same_bytes-refl : (a : List ℕ) → same_bytes a a ≡ true
unfolding same_bytes
same_bytes-refl [] = refl
same_bytes-refl (a ∷ s) = rw (eq-eqb a a refl) (same_bytes-refl s)

pub equal-same_bytes : (a b : List ℕ) → a ≡ b → same_bytes a b ≡ true
equal-same_bytes a b e = rw e (same_bytes-refl b)

pub same_bytes-symmetric : (a b : List ℕ) → same_bytes a b ≡ same_bytes b a
same_bytes-symmetric a b =
    by-test (same_bytes a b) (λ e. e ∙ sym (equal-same_bytes b a (sym (same_bytes-equal a b e))))
    (λ e. by-test (same_bytes b a) (λ q. equal-same_bytes a b (sym (same_bytes-equal b a q)) ∙ sym q) (λ q. e ∙ sym q))

pub precedes-irreflexive : (a : List ℕ) → precedes a a ≡ false
unfolding precedes
precedes-irreflexive [] = refl
precedes-irreflexive (a ∷ s) = rw (le-ltb a a (omega arith), eq-eqb a a refl) (precedes-irreflexive s)

-- the first byte decides, or it is the same and the others do
precedes-parts : (a b : ℕ) (s t : List ℕ) → precedes (a ∷ s) (b ∷ t) ≡ true → (a < b) ⊎ ((a ≡ b) × (precedes s t ≡ true))
unfolding precedes
precedes-parts a b s t e =
    by-test (ltb a b) (λ q. inl (ltb-true a b q))
    (λ q.
    let h = (and-eq-true_iff (eqb a b) (precedes s t)).0 (rw q at e) in
    inr (eqb-true a b h.0, h.1))

precedes-first : (a b : ℕ) (s t : List ℕ) → a < b → precedes (a ∷ s) (b ∷ t) ≡ true
unfolding precedes
precedes-first a b s t h = rw (lt-ltb a b h)

precedes-others : (a b : ℕ) (s t : List ℕ) → a ≡ b → precedes s t ≡ true → precedes (a ∷ s) (b ∷ t) ≡ true
unfolding precedes
precedes-others a b s t q e = rw (q, le-ltb b b (omega arith), eq-eqb b b refl) e

pub precedes-transitive : (a b c : List ℕ) → precedes a b ≡ true → precedes b c ≡ true → precedes a c ≡ true
unfolding precedes
precedes-transitive [] [] c e f = absurd (false≢true e)
precedes-transitive [] (b ∷ t) [] e f = absurd (false≢true f)
precedes-transitive [] (b ∷ t) (c ∷ u) e f = refl
precedes-transitive (a ∷ s) [] c e f = absurd (false≢true e)
precedes-transitive (a ∷ s) (b ∷ t) [] e f = absurd (false≢true f)
precedes-transitive (a ∷ s) (b ∷ t) (c ∷ u) e f = go (precedes-parts a b s t e) (precedes-parts b c t u f) (precedes-transitive s t u)
  where
    go : (a < b) ⊎ ((a ≡ b) × (precedes s t ≡ true)) → (b < c) ⊎ ((b ≡ c) × (precedes t u ≡ true))
        → (precedes s t ≡ true → precedes t u ≡ true → precedes s u ≡ true) → precedes (a ∷ s) (c ∷ u) ≡ true
    go (inl h) (inl k) more = precedes-first a c s u (omega arith)
    go (inl h) (inr k) more = precedes-first a c s u (omega arith)
    go (inr h) (inl k) more = precedes-first a c s u (omega arith)
    go (inr h) (inr k) more = precedes-others a c s u (h.0 ∙ k.0) (more h.1 k.1)

-- a text that comes before another is not the same
pub precedes-differs : (a b : List ℕ) → precedes a b ≡ true → same_bytes a b ≡ false
precedes-differs a b e = by-test (same_bytes a b) (λ q. absurd (false≢true (rw (same_bytes-equal a b q, precedes-irreflexive) at e))) (λ q. q)
