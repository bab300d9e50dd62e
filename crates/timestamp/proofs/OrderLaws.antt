-- The order of instants is strict and total: none is earlier than itself, it is transitive, and of two with different fields one is earlier.
use Rattle.std.specs.Prelude.{ℕ, ◌<◌, Bool, true, false, cond, List, [], ◌∷◌, ◌⊎◌, ◌≡◌, refl, ltb, eqb, length, get_or}
use Rattle.std.proofs.lemmas.Bool.{false≢true, eqb-false}
use Rattle.std.proofs.Common.{inl, inr, sym, ap, ap₂, ◌∙◌, arith, ltb-true, ltb-false, lt-ltb, eqb-true, eq-eqb, ne_eqb}
use Rattle.timestamp.specs.Order.{list_of, is_below, is_earlier}
use Rattle.timestamp.specs.declared.Fields.{Fields}

below-irreflexive : (s : List ℕ) → is_below s s ≡ false
unfolding is_below
below-irreflexive [] = refl
below-irreflexive (a ∷ s) = rw (eq-eqb a a refl) (below-irreflexive s)

-- the first number decides, or it is the same and the others do
below_parts : (a b : ℕ) (s t : List ℕ) → is_below (a ∷ s) (b ∷ t) ≡ true → (a < b) ⊎ ((a ≡ b) × (is_below s t ≡ true))
unfolding is_below
below_parts a b s t e = by (eqb a b) refl e
  where
    by : (same : Bool) → eqb a b ≡ same → cond same (is_below s t) (ltb a b) ≡ true → (a < b) ⊎ ((a ≡ b) × (is_below s t ≡ true))
    by true q e = inr (eqb-true a b q, e)
    by false q e = inl (ltb-true a b e)

below-first : (a b : ℕ) (s t : List ℕ) → a < b → is_below (a ∷ s) (b ∷ t) ≡ true
unfolding is_below
below-first a b s t h = rw (ne_eqb a b (omega arith)) (lt-ltb a b h)

below-others : (a b : ℕ) (s t : List ℕ) → a ≡ b → is_below s t ≡ true → is_below (a ∷ s) (b ∷ t) ≡ true
unfolding is_below
below-others a b s t q e = rw (eq-eqb a b q) e

below-transitive : (s t u : List ℕ) → is_below s t ≡ true → is_below t u ≡ true → is_below s u ≡ true
unfolding is_below
below-transitive [] t u e f = absurd (false≢true e)
below-transitive (a ∷ s) [] u e f = absurd (false≢true e)
below-transitive (a ∷ s) (b ∷ t) [] e f = absurd (false≢true f)
below-transitive (a ∷ s) (b ∷ t) (c ∷ u) e f = go (below_parts a b s t e) (below_parts b c t u f) (below-transitive s t u)
  where
    go : (a < b) ⊎ ((a ≡ b) × (is_below s t ≡ true)) → (b < c) ⊎ ((b ≡ c) × (is_below t u ≡ true))
        → (is_below s t ≡ true → is_below t u ≡ true → is_below s u ≡ true) → is_below (a ∷ s) (c ∷ u) ≡ true
    go (inl h) (inl k) more = below-first a c s u (omega arith)
    go (inl h) (inr k) more = below-first a c s u (omega arith)
    go (inr h) (inl k) more = below-first a c s u (omega arith)
    go (inr h) (inr k) more = below-others a c s u (h.0 ∙ k.0) (more h.1 k.1)

-- two lists of one length, neither below the other
below_total : (s t : List ℕ) → length s ≡ length t → is_below s t ≡ false → is_below t s ≡ false → s ≡ t
unfolding is_below
below_total [] [] n e f = refl
below_total [] (b ∷ t) n e f = absurd (omega arith)
below_total (a ∷ s) [] n e f = absurd (omega arith)
below_total (a ∷ s) (b ∷ t) n e f = by (eqb a b) refl (eqb b a) refl (below_total s t (omega arith)) e f
  where
    by : (same : Bool) → eqb a b ≡ same → (back : Bool) → eqb b a ≡ back
        → (is_below s t ≡ false → is_below t s ≡ false → s ≡ t)
        → cond same (is_below s t) (ltb a b) ≡ false
        → cond back (is_below t s) (ltb b a) ≡ false
        → ◌≡◌ {A = List ℕ} (a ∷ s) (b ∷ t)
    by true q true p more e f = ap₂ (λ (x : ℕ) (r : List ℕ). x ∷ r) (eqb-true a b q) (more e f)
    by true q false p more e f = absurd (eqb-false b a p (sym (eqb-true a b q)))
    by false q true p more e f = absurd (eqb-false a b q (sym (eqb-true b a p)))
    by false q false p more e f =
        let h = ltb-false a b e in
        let k = ltb-false b a f in
        absurd (eqb-false a b q (omega arith))

-- the fields are the numbers of the list
same-fields : (f g : Fields) → list_of f ≡ list_of g → f ≡ g
unfolding list_of
same-fields f g e = λ i.
    record {
      year = nth 0 i;
      month = nth 1 i;
      day = nth 2 i;
      hour = nth 3 i;
      minute = nth 4 i;
      second = nth 5 i;
      nanoseconds = nth 6 i;
    }
  where
    nth : (n : ℕ) → get_or (list_of f) n 0 ≡ get_or (list_of g) n 0
    nth n = ap (λ (l : List ℕ). get_or l n 0) e

pub earlier-irreflexive : (f : Fields) → is_earlier f f ≡ false
unfolding is_earlier
earlier-irreflexive f = below-irreflexive (list_of f)

pub earlier-transitive : (f g h : Fields) → is_earlier f g ≡ true → is_earlier g h ≡ true → is_earlier f h ≡ true
unfolding is_earlier
earlier-transitive f g h = below-transitive (list_of f) (list_of g) (list_of h)

pub earlier-total : (f g : Fields) → is_earlier f g ≡ false → is_earlier g f ≡ false → f ≡ g
unfolding is_earlier list_of
earlier-total f g p q = same-fields f g (below_total (list_of f) (list_of g) refl p q)
