-- The value or the condition that a message names is there, under the number of its entry.
use Prim.Native.Nat.{ℕ}
use Rattle.std.specs.Prelude.{Bool, true, false, not, cond, ◌&&◌, ◌||◌, ◌≡◌, eqb}
use Rattle.std.proofs.lemmas.Bool.{false≢true}
use mathlib.Core.List.{List, [], ◌∷◌, ◌++◌, map}
use Rattle.std.proofs.Math.Option.{Option, none, some, IsSome}
use Rattle.std.proofs.Math.Path.{refl}
use Rattle.std.proofs.Common.{eq-eqb}
use Rattle.text.specs.Reader.{or_else}
use Rattle.sheet.specs.Operators.{is_instant_test, is_affix, is_observed}
use Rattle.definition.specs.Tree.{Text, Value, constant, number, string, array, object, Values, no_values, value, Pairs, no_pairs, pair, Condition, literal, many, negation, one, two, comparison, quantifier, Conditions, no_conditions, condition, Rule, rule, template}
use Rattle.reference.specs.Setting.{Setting}
use Rattle.validation.specs.Check.{Binder, Question, fails_if, Check, check, reference_text, reference_check, references, references_of_values, references_of_pairs, Literal, numbers, numbers_of_values, numbers_of_pairs, literals, literals_of_conditions, literal_check, entry_of, is_string, instant_form, instant_operand, affix_operand, compare_side, operand, operator_check, body, bodies, literal_checks, checks}
use Rattle.validation.proofs.CheckLaws.{Every, every_append, every-if}
use Rattle.message.specs.Message.{here_else, value_in, value_in_values, value_in_pairs, value_in_condition, value_in_conditions, value_at, Head, head_in, head_in_conditions, head_of, names_value, names_head}
use Rattle.message.proofs.StandingLaws.{every_map}

pub record Found (values : ℕ → Option Value) (heads : ℕ → Option Head) (c : Check) : Type 0 where
  pub value : names_value c.number ≡ true → IsSome (values c.place)
  pub head : names_head c.number ≡ true → IsSome (heads c.place)

-- Lookups

some_first : {A : Type 0} (x y : Option A) → IsSome x → IsSome (or_else x y)
unfolding or_else
some_first none y h = absurd h
some_first (some a) y h = tt

some-second : {A : Type 0} (x y : Option A) → IsSome y → IsSome (or_else x y)
unfolding or_else
some-second none y h = h
some-second (some a) y h = tt

some-here : {A : Type 0} (e : ℕ) (a : A) (o : Option A) → IsSome (here_else (eqb e e) a o)
unfolding here_else
some-here e a o = rw (eq-eqb e e refl) tt

some-later : {A : Type 0} (b : Bool) (a : A) (o : Option A) → IsSome o → IsSome (here_else b a o)
unfolding here_else
some-later true a o h = tt
some-later false a o h = h

value-here : (v : Value) → IsSome (value_in (entry_of v) v)
unfolding value_in entry_of
value-here (constant e type) = some-here e (constant e type) none
value-here (number e digits) = some-here e (number e digits) none
value-here (string e t) = some-here e (string e t) none
value-here (array e values) = some-here e (array e values) (value_in_values e values)
value-here (object e pairs) = some-here e (object e pairs) (value_in_pairs e pairs)

-- Numbers of the literal pass

abbrev AllFound : (ℕ → Option Value) → List Literal → Type 0
AllFound look [] = Unit {0}
AllFound look (l ∷ ls) = IsSome (look l.entry) × AllFound look ls

all_append : (look : ℕ → Option Value) (xs ys : List Literal) → AllFound look xs → AllFound look ys → AllFound look (xs ++ ys)
all_append look [] ys h k = k
all_append look (x ∷ xs) ys h k = (h.0, all_append look xs ys h.1 k)

all-if : (look : ℕ → Option Value) (b : Bool) (xs : List Literal) → AllFound look xs → AllFound look (cond b xs [])
all-if look true xs h = h
all-if look false xs h = tt

all-wider : (look look' : ℕ → Option Value) (xs : List Literal) → ((p : ℕ) → IsSome (look p) → IsSome (look' p)) → AllFound look xs → AllFound look' xs
all-wider look look' [] f h = tt
all-wider look look' (x ∷ xs) f h = (f x.entry h.0, all-wider look look' xs f h.1)

mutual
  unfolding numbers value_in entry_of

  numbers-found : (v : Value) → AllFound (λ p. value_in p v) (numbers v)
  numbers-found (constant e type) = tt
  numbers-found (number e digits) = (some-here e (number e digits) none, tt)
  numbers-found (string e t) = tt
  numbers-found (array e values) =
      all-wider (λ p. value_in_values p values) (λ p. value_in p (array e values)) (numbers_of_values values)
      (λ p h. some-later (eqb e p) (array e values) (value_in_values p values) h) (values-found values)
  numbers-found (object e pairs) =
      all-wider (λ p. value_in_pairs p pairs) (λ p. value_in p (object e pairs)) (numbers_of_pairs pairs)
      (λ p h. some-later (eqb e p) (object e pairs) (value_in_pairs p pairs) h) (pairs-found pairs)

  values-found : (vs : Values) → AllFound (λ p. value_in_values p vs) (numbers_of_values vs)
  values-found no_values = tt
  values-found (value v others) =
      all_append (λ p. value_in_values p (value v others)) (numbers v) (numbers_of_values others)
      (all-wider (λ p. value_in p v) (λ p. value_in_values p (value v others)) (numbers v) (λ p h. some_first (value_in p v) (value_in_values p others) h) (numbers-found v))
      (all-wider (λ p. value_in_values p others) (λ p. value_in_values p (value v others)) (numbers_of_values others) (λ p h. some-second (value_in p v) (value_in_values p others) h) (values-found others))

  pairs-found : (ps : Pairs) → AllFound (λ p. value_in_pairs p ps) (numbers_of_pairs ps)
  pairs-found no_pairs = tt
  pairs-found (pair key v others) =
      all_append (λ p. value_in_pairs p (pair key v others)) (numbers v) (numbers_of_pairs others)
      (all-wider (λ p. value_in p v) (λ p. value_in_pairs p (pair key v others)) (numbers v) (λ p h. some_first (value_in p v) (value_in_pairs p others) h) (numbers-found v))
      (all-wider (λ p. value_in_pairs p others) (λ p. value_in_pairs p (pair key v others)) (numbers_of_pairs others) (λ p h. some-second (value_in p v) (value_in_pairs p others) h) (pairs-found others))

both_found : (left right : Value) → AllFound (λ p. or_else (value_in p left) (value_in p right)) (numbers left ++ numbers right)
both_found left right =
    all_append (λ p. or_else (value_in p left) (value_in p right)) (numbers left) (numbers right)
    (all-wider (λ p. value_in p left) (λ p. or_else (value_in p left) (value_in p right)) (numbers left) (λ p h. some_first (value_in p left) (value_in p right) h) (numbers-found left))
    (all-wider (λ p. value_in p right) (λ p. or_else (value_in p left) (value_in p right)) (numbers right) (λ p h. some-second (value_in p left) (value_in p right) h) (numbers-found right))

mutual
  unfolding literals value_in_condition

  literals-found : (c : Condition) → AllFound (λ p. value_in_condition p c) (literals c)
  literals-found (literal e truth) = tt
  literals-found (many e op children) = conditions-found children
  literals-found (negation e child) = literals-found child
  literals-found (one e op v) = all-if (λ p. value_in p v) (is_observed op) (numbers v) (numbers-found v)
  literals-found (two e op left right) = all-if (λ p. or_else (value_in p left) (value_in p right)) (is_observed op) (numbers left ++ numbers right) (both_found left right)
  literals-found (comparison e which left right) = both_found left right
  literals-found (quantifier e op bind over that) =
      all-wider (λ p. value_in_condition p that) (λ p. or_else (value_in p over) (value_in_condition p that)) (literals that)
      (λ p h. some-second (value_in p over) (value_in_condition p that) h) (literals-found that)

  conditions-found : (cs : Conditions) → AllFound (λ p. value_in_conditions p cs) (literals_of_conditions cs)
  conditions-found no_conditions = tt
  conditions-found (condition c others) =
      all_append (λ p. value_in_conditions p (condition c others)) (literals c) (literals_of_conditions others)
      (all-wider (λ p. value_in_condition p c) (λ p. value_in_conditions p (condition c others)) (literals c) (λ p h. some_first (value_in_condition p c) (value_in_conditions p others) h) (literals-found c))
      (all-wider (λ p. value_in_conditions p others) (λ p. value_in_conditions p (condition c others)) (literals_of_conditions others) (λ p h. some-second (value_in_condition p c) (value_in_conditions p others) h) (conditions-found others))

-- Checks

module _ (values : ℕ → Option Value) (heads : ℕ → Option Head) where
  -- a check whose message names neither
  nameless : (n p : ℕ) (bs : List Binder) (q : Question) → names_value n ≡ false → names_head n ≡ false → Found values heads (check n p bs q)
  unfolding check
  nameless n p bs q v h = record { value = λ k. absurd (false≢true (rw v at k)); head = λ k. absurd (false≢true (rw h at k)) }

  with_value : (n p : ℕ) (bs : List Binder) (q : Question) → names_head n ≡ false → IsSome (values p) → Found values heads (check n p bs q)
  unfolding check
  with_value n p bs q h is = record { value = λ k. is; head = λ k. absurd (false≢true (rw h at k)) }

  with-head : (n p : ℕ) (bs : List Binder) (q : Question) → names_value n ≡ false → IsSome (heads p) → Found values heads (check n p bs q)
  unfolding check
  with-head n p bs q v is = record { value = λ k. absurd (false≢true (rw v at k)); head = λ k. is }

  literal-checks : (ls : List Literal) → AllFound values ls → Every (Found values heads) (map literal_check ls)
  unfolding literal_check names_head
  literal-checks [] h = tt
  literal-checks (l ∷ ls) h = (with_value 14 l.entry [] _ refl h.0, literal-checks ls h.1)

  module _ (bs : List Binder) where
    reference-found : (e : ℕ) (o : Option Text) → Every (Found values heads) (reference_check bs e o)
    unfolding reference_check names_value names_head
    reference-found e none = tt
    reference-found e (some t) = (nameless 18 e bs _ refl refl, tt)

    mutual
      unfolding references

      references-found : (v : Value) → Every (Found values heads) (references bs v)
      references-found (constant e type) = tt
      references-found (number e digits) = tt
      references-found (string e t) = reference-found e (reference_text t)
      references-found (array e vs) = references-of-values vs
      references-found (object e pairs) = references-of-pairs pairs

      references-of-values : (vs : Values) → Every (Found values heads) (references_of_values bs vs)
      references-of-values no_values = tt
      references-of-values (value v others) = every_append (Found values heads) (references bs v) (references_of_values bs others) (references-found v) (references-of-values others)

      references-of-pairs : (ps : Pairs) → Every (Found values heads) (references_of_pairs bs ps)
      references-of-pairs no_pairs = tt
      references-of-pairs (pair key v others) = every_append (Found values heads) (references bs v) (references_of_pairs bs others) (references-found v) (references-of-pairs others)

    operand-found : (op : ℕ) (v : Value) → IsSome (values (entry_of v)) → Every (Found values heads) (operand op bs v)
    unfolding operand instant_operand affix_operand names_head
    operand-found op v is =
        every-if (Found values heads) (is_instant_test op) (instant_operand bs v) _
        (every_append (Found values heads) (references bs v) _ (references-found v) (with_value 20 (entry_of v) bs (instant_form v) refl is, tt))
        (every-if (Found values heads) (is_affix op) (affix_operand bs v) _
        (every_append (Found values heads) (references bs v) _ (references-found v) (with_value 19 (entry_of v) bs (fails_if (not (is_string v)) 0) refl is, tt))
        (references-found v))

    side-found : (d : ℕ) (v : Value) → Every (Found values heads) (compare_side bs d v)
    unfolding compare_side names_value names_head
    side-found d v = (nameless 17 (entry_of v) bs _ refl refl, references-found v)

found_wider : (values values' : ℕ → Option Value) (heads heads' : ℕ → Option Head) (xs : List Check)
    → ((p : ℕ) → IsSome (values p) → IsSome (values' p))
    → ((p : ℕ) → IsSome (heads p) → IsSome (heads' p))
    → Every (Found values heads) xs
    → Every (Found values' heads') xs
found_wider values values' heads heads' xs f g e =
    every_map (Found values heads) (Found values' heads') xs (λ c k. record { value = λ h. f c.place (k.value h); head = λ h. g c.place (k.head h) }) e

module _ (setting : Setting) where
  mutual
    unfolding body bodies value_in_condition head_in operator_check names_value names_head

    body-found : (bs : List Binder) (c : Condition) → Every (Found (λ p. value_in_condition p c) (λ p. head_in p c)) (body setting bs c)
    body-found bs (literal e truth) = (with-head (λ p. value_in_condition p (literal e truth)) (λ p. head_in p (literal e truth)) 15 e bs _ refl (some-here e _ none), tt)
    body-found bs (many e op children) =
        let c = many e op children in (
          with-head (λ p. value_in_condition p c) (λ p. head_in p c) 15 e bs _ refl (some-here e _ (head_in_conditions e children)),
          (
            with-head (λ p. value_in_condition p c) (λ p. head_in p c) 16 e bs _ refl (some-here e _ (head_in_conditions e children)),
            found_wider (λ p. value_in_conditions p children) (λ p. value_in_condition p c) (λ p. head_in_conditions p children) (λ p. head_in p c) (bodies setting bs children)
                (λ p h. h) (λ p h. some-later (eqb e p) _ (head_in_conditions p children) h) (bodies-found bs children),
          ),
        )
    body-found bs (negation e child) =
        let c = negation e child in (
          with-head (λ p. value_in_condition p c) (λ p. head_in p c) 15 e bs _ refl (some-here e _ (head_in e child)),
          found_wider (λ p. value_in_condition p child) (λ p. value_in_condition p c) (λ p. head_in p child) (λ p. head_in p c) (body setting bs child)
              (λ p h. h) (λ p h. some-later (eqb e p) _ (head_in p child) h) (body-found bs child),
        )
    body-found bs (one e op v) =
        let c = one e op v in (
          with-head (λ p. value_in_condition p c) (λ p. head_in p c) 15 e bs _ refl (some-here e _ none),
          references-found (λ p. value_in_condition p c) (λ p. head_in p c) bs v,
        )
    body-found bs (two e op left right) =
        let c = two e op left right in (
          with-head (λ p. value_in_condition p c) (λ p. head_in p c) 15 e bs _ refl (some-here e _ none),
          every_append (Found (λ p. value_in_condition p c) (λ p. head_in p c)) (operand op bs left) (operand op bs right)
              (operand-found (λ p. value_in_condition p c) (λ p. head_in p c) bs op left (some_first (value_in (entry_of left) left) (value_in (entry_of left) right) (value-here left)))
              (operand-found (λ p. value_in_condition p c) (λ p. head_in p c) bs op right (some-second (value_in (entry_of right) left) (value_in (entry_of right) right) (value-here right))),
        )
    body-found bs (comparison e which left right) =
        let c = comparison e which left right in (
          with-head (λ p. value_in_condition p c) (λ p. head_in p c) 15 e bs _ refl (some-here e _ none),
          every_append (Found (λ p. value_in_condition p c) (λ p. head_in p c)) (compare_side bs 1 left) (compare_side bs 2 right)
              (side-found (λ p. value_in_condition p c) (λ p. head_in p c) bs 1 left)
              (side-found (λ p. value_in_condition p c) (λ p. head_in p c) bs 2 right),
        )
    body-found bs (quantifier e op bind over that) =
        let c = quantifier e op bind over that in
        let inner : List Binder = record { name = bind; over = over } ∷ bs in (
          with-head (λ p. value_in_condition p c) (λ p. head_in p c) 15 e bs _ refl (some-here e _ (head_in e that)),
          (
            with-head (λ p. value_in_condition p c) (λ p. head_in p c) 21 e bs _ refl (some-here e _ (head_in e that)),
            every_append (Found (λ p. value_in_condition p c) (λ p. head_in p c)) (references bs over) _ (references-found (λ p. value_in_condition p c) (λ p. head_in p c) bs over) (
              nameless (λ p. value_in_condition p c) (λ p. head_in p c) 22 e bs _ refl refl,
              found_wider (λ p. value_in_condition p that) (λ p. value_in_condition p c) (λ p. head_in p that) (λ p. head_in p c) (body setting inner that)
                  (λ p h. some-second (value_in p over) (value_in_condition p that) h) (λ p h. some-later (eqb e p) _ (head_in p that) h) (body-found inner that),
            ),
          ),
        )

    bodies-found : (bs : List Binder) (cs : Conditions) → Every (Found (λ p. value_in_conditions p cs) (λ p. head_in_conditions p cs)) (bodies setting bs cs)
    bodies-found bs no_conditions = tt
    bodies-found bs (condition c others) =
        every_append (Found (λ p. value_in_conditions p (condition c others)) (λ p. head_in_conditions p (condition c others))) (body setting bs c) (bodies setting bs others)
        (found_wider (λ p. value_in_condition p c) (λ p. value_in_conditions p (condition c others)) (λ p. head_in p c) (λ p. head_in_conditions p (condition c others)) (body setting bs c)
        (λ p h. some_first (value_in_condition p c) (value_in_conditions p others) h) (λ p h. some_first (head_in p c) (head_in_conditions p others) h) (body-found bs c))
        (found_wider (λ p. value_in_conditions p others) (λ p. value_in_conditions p (condition c others)) (λ p. head_in_conditions p others) (λ p. head_in_conditions p (condition c others)) (bodies setting bs others)
        (λ p h. some-second (value_in_condition p c) (value_in_conditions p others) h) (λ p h. some-second (head_in p c) (head_in_conditions p others) h) (bodies-found bs others))

  pub checks-found : (r : Rule) → Every (Found (λ p. value_at p r) (head_of r)) (checks setting r)
  unfolding checks literal_checks value_at head_of names_value names_head
  checks-found (rule name message assert) =
      let values : ℕ → Option Value = λ (p : ℕ). value_in_condition p assert in
      let heads : ℕ → Option Head = λ (p : ℕ). head_in p assert in (
        nameless values heads 11 1 [] _ refl refl,
        (
          nameless values heads 12 1 [] _ refl refl,
          (
            nameless values heads 13 2 [] _ refl refl,
            every_append (Found values heads) (literal_checks setting assert) (body setting [] assert)
                (every-if (Found values heads) setting.is_service (map literal_check (literals assert)) [] (literal-checks values heads (literals assert) (literals-found assert)) tt)
                (body-found [] assert),
          ),
        ),
      )
  checks-found (template v) = references-found (λ p. value_in p v) (head_of (template v)) [] v
