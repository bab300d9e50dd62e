-- What the table says of operators is what comparisons of their numbers say.
use Rattle.std.specs.Prelude.{ℕ, zero, suc, ◌+◌, ◌≤◌, ◌<◌, false, cond, ◌&&◌, List, [], ◌∷◌, ◌≡◌, refl, get_or, drop, leb, eqb}
use Rattle.std.proofs.Common.{arith, sym, ap, subst, ◌∙◌, le-leb, leb-true, leb-false, eqb-true}
use Rattle.std.proofs.lemmas.Bool.{lt-leb, eqb-false}
use Rattle.text.specs.CaseLaws.{by-test}
use Rattle.sheet.specs.Operators.{Operator, Shape, literal, many, negation, one, two, comparison, quantifier, operator_row, shape_of, operator_name, is_service_operator, is_instant_test, is_affix, is_observed}

-- what a function gives for the `n` numbers from `low` on
unfoldable pub over : {A : Type 0} → (ℕ → A) → (low n : ℕ) → List A
over f low zero = []
over f low (suc n) = f low ∷ over f (suc low) n

-- two functions that give the same list over a range are the same there
pub alike : {A : Type 0} (f g : ℕ → A) (low n : ℕ) → over f low n ≡ over g low n → (k : ℕ) → low ≤ k → k < low + n → f k ≡ g k
unfolding over
alike f g low zero e k l h = absurd (omega arith)
alike {A} f g low (suc n) e k l h =
    by-test (eqb low k)
    (λ q. subst (λ (j : ℕ). f j ≡ g j) (eqb-true low k q) (ap (λ (x : List A). get_or x 0 (f low)) e))
    (λ q. let other = eqb-false low k q in alike f g (suc low) n (ap (λ (x : List A). drop 1 x) e) k (omega arith) (omega arith))

-- past the last number the last row stays
pub row-past : (op : ℕ) → 21 ≤ op → operator_row op ≡ operator_row 21
unfolding operator_row
row-past op h =
    by-test (leb op 21)
    (λ q. rw (lt-leb op 1 (omega arith), lt-leb op 2 (omega arith), lt-leb op 3 (omega arith), lt-leb op 4 (omega arith), lt-leb op 5 (omega arith), lt-leb op 6 (omega arith), lt-leb op 7 (omega arith), lt-leb op 8 (omega arith), lt-leb op 9 (omega arith), lt-leb op 10 (omega arith), lt-leb op 11 (omega arith), lt-leb op 12 (omega arith), lt-leb op 13 (omega arith), lt-leb op 14 (omega arith), lt-leb op 15 (omega arith), lt-leb op 16 (omega arith), lt-leb op 17 (omega arith), lt-leb op 18 (omega arith), lt-leb op 19 (omega arith), lt-leb op 20 (omega arith), q))
    (λ q. rw (lt-leb op 1 (omega arith), lt-leb op 2 (omega arith), lt-leb op 3 (omega arith), lt-leb op 4 (omega arith), lt-leb op 5 (omega arith), lt-leb op 6 (omega arith), lt-leb op 7 (omega arith), lt-leb op 8 (omega arith), lt-leb op 9 (omega arith), lt-leb op 10 (omega arith), lt-leb op 11 (omega arith), lt-leb op 12 (omega arith), lt-leb op 13 (omega arith), lt-leb op 14 (omega arith), lt-leb op 15 (omega arith), lt-leb op 16 (omega arith), lt-leb op 17 (omega arith), lt-leb op 18 (omega arith), lt-leb op 19 (omega arith), lt-leb op 20 (omega arith), q))

everywhere : {A : Type 0} (f g : ℕ → A) → over f 0 21 ≡ over g 0 21 → ((op : ℕ) → 21 ≤ op → f op ≡ g op) → (op : ℕ) → f op ≡ g op
everywhere f g e past op =
    by-test (leb 21 op)
    (λ q. past op (leb-true 21 op q))
    (λ q. let l = leb-false 21 op q in alike f g 0 21 e op (omega arith) (omega arith))

instant-test-range : (op : ℕ) → is_instant_test op ≡ (leb 6 op && leb op 7)
unfolding is_instant_test over
instant-test-range =
    everywhere is_instant_test (λ op. leb 6 op && leb op 7) refl
    (λ op h. rw (row-past op h, le-leb 6 op (omega arith), lt-leb op 7 (omega arith)))

affix-range : (op : ℕ) → is_affix op ≡ (leb 16 op && leb op 17)
unfolding is_affix over
affix-range =
    everywhere is_affix (λ op. leb 16 op && leb op 17) refl
    (λ op h. rw (row-past op h, le-leb 16 op (omega arith), lt-leb op 17 (omega arith)))

observed-range : (op : ℕ) → is_observed op ≡ cond (leb 18 op) (leb op 19) (leb 8 op && leb op 15)
unfolding is_observed over
observed-range =
    everywhere is_observed (λ op. cond (leb 18 op) (leb op 19) (leb 8 op && leb op 15)) refl
    (λ op h. rw (row-past op h, le-leb 18 op (omega arith), lt-leb op 19 (omega arith)))

pub service-operator-range : (op : ℕ) → leb 18 op ≡ is_service_operator op
unfolding is_service_operator over
service-operator-range =
    everywhere (λ op. leb 18 op) is_service_operator refl
    (λ op h. le-leb 18 op (omega arith) ∙ sym (ap (λ (r : Operator). r.is_service) (row-past op h)))

-- as code tells them apart, test by test

unfoldable pub shape_by_tests : ℕ → Shape
shape_by_tests op =
    cond (leb op 1) literal
    (cond (leb op 3) many
    (cond (leb op 4) negation
    (cond (leb op 5) one
    (cond (leb op 17) two
    (cond (leb op 18) comparison
    (cond (leb op 19) one quantifier))))))

pub shape-tests : (op : ℕ) → shape_of op ≡ shape_by_tests op
unfolding shape_by_tests shape_of over
shape-tests =
    everywhere shape_of shape_by_tests refl
    (λ op h.
    ap (λ (r : Operator). r.shape) (row-past op h)
    ∙ rw (lt-leb op 1 (omega arith), lt-leb op 3 (omega arith), lt-leb op 4 (omega arith), lt-leb op 5 (omega arith), lt-leb op 17 (omega arith), lt-leb op 18 (omega arith), lt-leb op 19 (omega arith)))

module _ {op : ℕ} where
  pub instant-early : op < 6 → false ≡ is_instant_test op
  instant-early h = rw (instant-test-range op, lt-leb 6 op h)

  pub instant-late : 6 ≤ op → leb op 7 ≡ is_instant_test op
  instant-late h = rw (instant-test-range op, le-leb 6 op h)

  pub affix-early : op < 16 → false ≡ is_affix op
  affix-early h = rw (affix-range op, lt-leb 16 op h)

  pub affix-late : 16 ≤ op → leb op 17 ≡ is_affix op
  affix-late h = rw (affix-range op, le-leb 16 op h)

  pub observed-early : op < 18 → op < 8 → false ≡ is_observed op
  observed-early h k = rw (observed-range op, lt-leb 18 op h, lt-leb 8 op k)

  pub observed-middle : op < 18 → 8 ≤ op → leb op 15 ≡ is_observed op
  observed-middle h k = rw (observed-range op, lt-leb 18 op h, le-leb 8 op k)

  pub observed-late : 18 ≤ op → leb op 19 ≡ is_observed op
  observed-late h = rw (observed-range op, le-leb 18 op h)

pub name-past : (op : ℕ) → 21 ≤ op → operator_name op ≡ operator_name 21
unfolding operator_name
name-past op h = ap (λ (r : Operator). r.name) (row-past op h)
