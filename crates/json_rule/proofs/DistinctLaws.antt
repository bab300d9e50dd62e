-- JSON in a rule's shape has no key twice, if the rule's values have none: a rule's own objects have members of different names.
use Rattle.std.specs.Prelude.{ℕ, Bool, false, cond, not, ◌&&◌, ◌⊎◌, ◌≡◌, refl, eqb, length}
use Rattle.std.proofs.Math.Bool.{true, and-eq-true_iff}
use Rattle.std.proofs.lemmas.Bool.{false≢true}
use mathlib.Core.List.{List, [], ◌∷◌, map}
use Rattle.std.proofs.Common.{inl, inr, ◌∙◌, arith, eqb-true}
use Rattle.std.proofs.Math.Option
use Rattle.std.proofs.Math.Option.{Option, none, some, bind, some-injective, none-ne-some, bind-eq-some_iff, map-eq-some_iff}
use Rattle.std.proofs.Math.Path.{sym, ap, ap₂, subst, subst₃}
use Rattle.text.specs.Ascii.{ascii}
use Rattle.text.specs.Order.{same_bytes, is_among, none_twice}
use Rattle.text.specs.OrderLaws.{same_bytes-equal}
use Rattle.text.specs.CaseLaws.{by-test, zero-not-one}
use Rattle.text.specs.Reader.{or_else}
use Rattle.sheet.specs.Operators.{Shape, shape_of}
use Rattle.sheet.specs.Operators as Operators
use Rattle.json_text.specs.Distinct.{keys_of, distinct, distinct_elements, distinct_members}
use Rattle.json_text.specs.Json.{Text, Json, null, truth, number, string, array, object, Elements, no_elements, element, Members, no_members, member}
use Rattle.definition.specs.Tree.{Value, Condition, many, negation, one, two, comparison, quantifier, Rule, rule}
use Rattle.definition.specs.Decode.{decode_rule}
use Rattle.definition.specs.Write.{write_rule}
use Rattle.definition.proofs.RoundTrip.{rule-round-trip}
use Rattle.json_rule.specs.Shape.{value_of, Part, left, which, right, over, bound, body, as_left, as_which, as_right, as_over, as_bound, as_body, first_of, comparison_from, quantifier_from, comparison_of, which_of, bound_of, comparison_part, quantifier_part, comparison_parts, comparison_in, two_from, listed, two_in, operator_of, conditions_from, the_only, operation, condition_of, operations, children_of, conditions_of, parts_of, quantifier_parts, RulePart, asserts, names, says, as_assert, as_name, as_message, optional_of, rule_part, rule_parts, rule_from, rule_of}
use Rattle.json_rule.specs.Apart.{apart_value, apart_condition, apart_conditions, apart_rule}
use Rattle.json_rule.proofs.ApartLaws.{both, apart-json, apart_bare, apart_fits}
use Rattle.json_rule.proofs.ShapedLaws.{decodes-bare}

-- What is collected: all of it is good if the first is, and the rest

unfoldable all : {A : Type 0} → (A → Bool) → List A → Bool
all good [] = true
all good (a ∷ others) = good a && all good others

module _ {A : Type 0} (o : Option A) (rest : Option (List A)) where
  first-and-rest : {C : Type 0} (found : List A) → bind o (λ a. Option.map (λ (others : List A). a ∷ others) rest) ≡ some found
      → ((a : A) (others : List A) → o ≡ some a → rest ≡ some others → a ∷ others ≡ found → C) → C
  first-and-rest found e f =
      let b = (bind-eq-some_iff o (λ a. Option.map (λ (others : List A). a ∷ others) rest)).0 e in
      let m = (map-eq-some_iff (λ (others : List A). b.0 ∷ others) rest).0 b.2 in
      f b.0 m.0 b.1 m.1 m.2

  collected : (good : A → Bool) (x y : Bool) → ((a : A) → o ≡ some a → good a ≡ true → x ≡ true)
      → ((others : List A) → rest ≡ some others → all good others ≡ true → y ≡ true)
      → (found : List A) → bind o (λ a. Option.map (λ (others : List A). a ∷ others) rest) ≡ some found → all good found ≡ true → (x && y) ≡ true
  unfolding all
  collected good x y f g found e h =
      first-and-rest found e λ a others p q same.
      let k = (and-eq-true_iff (good a) (all good others)).0 (subst (λ (l : List A). all good l ≡ true) (sym same) h) in
      both x y (f a p k.0) (g others q k.1)

-- A member and what is made of it: which key it had, and that its value has no key twice if that has none

module _ {A : Type 0} (name : A → Text) (good : A → Bool) where
  abbrev Stands : Text → Json → A → Type 0
  Stands key v a = (key ≡ name a) × (good a ≡ true → distinct v ≡ true)

  abbrev Stand : Members → List A → Type 0
  Stand ms found = (keys_of ms ≡ map name found) × (all good found ≡ true → distinct_members ms ≡ true)

  none-stand : (found : List A) → some [] ≡ some found → Stand no_members found
  unfolding keys_of distinct_members
  none-stand found e = (ap (map name) (some-injective [] found e), λ h. refl)

  one-stands : (key : Text) (v : Json) (others : Members) (o : Option A) (rest : Option (List A)) → ((a : A) → o ≡ some a → Stands key v a)
      → ((found : List A) → rest ≡ some found → Stand others found)
      → (found : List A) → bind o (λ a. Option.map (λ (others : List A). a ∷ others) rest) ≡ some found → Stand (member key v others) found
  unfolding keys_of distinct_members
  one-stands key v others o rest f g found e = (
    first-and-rest o rest found e λ a more p q same. ap₂ (λ (k : Text) (ks : List Text). k ∷ ks) (f a p).0 (g more q).0 ∙ ap (map name) same,
    λ h. collected o rest good (distinct v) (distinct_members others) (λ a p. (f a p).1) (λ more q. (g more q).1) found e h,
  )

  same-stands : (key : Text) (v : Json) (a b : A) → a ≡ b → Stands key v a → Stands key v b
  same-stands key v a b e s = subst (λ (x : A). Stands key v x) e s

  called-stands : (key word : Text) (v : Json) (a : A) → same_bytes key word ≡ true → Stands word v a → Stands key v a
  called-stands key word v a e s = (same_bytes-equal key word e ∙ s.0, s.1)

-- Three that differ, each one of three, are those in some order

abbrev Among : {A : Type 0} (x a b c : A) → Type 0
Among x a b c = (x ≡ a) ⊎ ((x ≡ b) ⊎ (x ≡ c))

swapped : {A : Type 0} {w a b c : A} → Among w a b c → Among w b a c
swapped (inl p) = inr (inl p)
swapped (inr (inl p)) = inl p
swapped (inr (inr p)) = inr (inr p)

turned : {A : Type 0} {w a b c : A} → Among w a b c → Among w c a b
turned (inl p) = inr (inl p)
turned (inr (inl p)) = inr (inr p)
turned (inr (inr p)) = inl p

module _ {A : Type 0} {x y z : A} (x-y : x ≡ y → ⊥) (x-z : x ≡ z → ⊥) (y-z : y ≡ z → ⊥) where
  begun : (P : A → A → A → Type 0) (a b c : A) → x ≡ a → Among y a b c → Among z a b c → P x y z → P x z y → P a b c
  begun P a b c p (inl q) r h k = absurd (x-y (p ∙ sym q))
  begun P a b c p (inr (inl q)) (inl r) h k = absurd (x-z (p ∙ sym r))
  begun P a b c p (inr (inl q)) (inr (inl r)) h k = absurd (y-z (q ∙ sym r))
  begun P a b c p (inr (inl q)) (inr (inr r)) h k = subst₃ P p q r h
  begun P a b c p (inr (inr q)) (inl r) h k = absurd (x-z (p ∙ sym r))
  begun P a b c p (inr (inr q)) (inr (inl r)) h k = subst₃ P p r q k
  begun P a b c p (inr (inr q)) (inr (inr r)) h k = absurd (y-z (q ∙ sym r))

  three : (P : A → A → A → Type 0) (a b c : A) → Among x a b c → Among y a b c → Among z a b c
      → P x y z → P x z y → P y x z → P z x y → P y z x → P z y x → P a b c
  three P a b c (inl p) ys zs xyz xzy yxz zxy yzx zyx = begun P a b c p ys zs xyz xzy
  three P a b c (inr (inl p)) ys zs xyz xzy yxz zxy yzx zyx = begun (λ s t u. P t s u) b a c p (swapped ys) (swapped zs) yxz zxy
  three P a b c (inr (inr p)) ys zs xyz xzy yxz zxy yzx zyx = begun (λ s t u. P t u s) c a b p (turned ys) (turned zs) yzx zyx

-- Parts: which key each had

unfoldable part_key : Part → Text
part_key (left v) = ascii "left"
part_key (which n) = ascii "op"
part_key (right v) = ascii "right"
part_key (over v) = ascii "in"
part_key (bound name) = ascii "as"
part_key (body c) = ascii "that"

unfoldable apart_part : Part → Bool
apart_part (left v) = apart_value v
apart_part (which n) = true
apart_part (right v) = apart_value v
apart_part (over v) = apart_value v
apart_part (bound name) = true
apart_part (body c) = apart_condition c

unfoldable settled : List Part → Bool
settled parts = none_twice (map part_key parts) && all apart_part parts

-- what a part is told by
record Told (p : Part) : Type 0 where
  is-left : (v : Value) → as_left p ≡ some v → left v ≡ p
  is-which : (n : ℕ) → as_which p ≡ some n → which n ≡ p
  is_right : (v : Value) → as_right p ≡ some v → right v ≡ p
  is-over : (v : Value) → as_over p ≡ some v → over v ≡ p
  is-bound : (name : Text) → as_bound p ≡ some name → bound name ≡ p
  is_body : (c : Condition) → as_body p ≡ some c → body c ≡ p

never : {A C : Type 0} (a : A) → none ≡ some a → C
never a e = absurd (none-ne-some a e)

told : (p : Part) → Told p
unfolding as_left as_which as_right as_over as_bound as_body
told (left v) = record { is-left = λ w e. ap left (sym (some-injective v w e)); is-which = λ a e. never a e; is_right = λ a e. never a e; is-over = λ a e. never a e; is-bound = λ a e. never a e; is_body = λ a e. never a e }
told (which n) = record { is-left = λ a e. never a e; is-which = λ m e. ap which (sym (some-injective n m e)); is_right = λ a e. never a e; is-over = λ a e. never a e; is-bound = λ a e. never a e; is_body = λ a e. never a e }
told (right v) = record { is-left = λ a e. never a e; is-which = λ a e. never a e; is_right = λ w e. ap right (sym (some-injective v w e)); is-over = λ a e. never a e; is-bound = λ a e. never a e; is_body = λ a e. never a e }
told (over v) = record { is-left = λ a e. never a e; is-which = λ a e. never a e; is_right = λ a e. never a e; is-over = λ w e. ap over (sym (some-injective v w e)); is-bound = λ a e. never a e; is_body = λ a e. never a e }
told (bound name) = record { is-left = λ a e. never a e; is-which = λ a e. never a e; is_right = λ a e. never a e; is-over = λ a e. never a e; is-bound = λ t e. ap bound (sym (some-injective name t e)); is_body = λ a e. never a e }
told (body c) = record { is-left = λ a e. never a e; is-which = λ a e. never a e; is_right = λ a e. never a e; is-over = λ a e. never a e; is-bound = λ a e. never a e; is_body = λ d e. ap body (sym (some-injective c d e)) }

or_some : {A : Type 0} (o q : Option A) (a : A) → or_else o q ≡ some a → (o ≡ some a) ⊎ (q ≡ some a)
unfolding or_else
or_some none q a e = inr e
or_some (some b) q a e = inl e

first-among : {A B : Type 0} (f : A → Option B) (g : B → A) → ((p : A) (v : B) → f p ≡ some v → g v ≡ p)
    → (parts : List A) (a b c : A) → parts ≡ a ∷ b ∷ c ∷ [] → (v : B) → first_of f parts ≡ some v → Among (g v) a b c
unfolding first_of or_else
first-among {A = A} f g is parts a b c same v e = at_first (or_some (f a) _ v (subst (λ (l : List A). first_of f l ≡ some v) same e))
  where
    at_last : (f c ≡ some v) ⊎ (none ≡ some v) → Among (g v) a b c
    at_last (inl h) = inr (inr (is c v h))
    at_last (inr h) = never v h

    at_second : (f b ≡ some v) ⊎ (or_else (f c) none ≡ some v) → Among (g v) a b c
    at_second (inl h) = inr (inl (is b v h))
    at_second (inr h) = at_last (or_some (f c) none v h)

    at_first : (f a ≡ some v) ⊎ (or_else (f b) (or_else (f c) none) ≡ some v) → Among (g v) a b c
    at_first (inl h) = inl (is a v h)
    at_first (inr h) = at_second (or_some (f b) _ v h)

of_three : {A C : Type 0} (l : List A) → eqb (length l) 3 ≡ true → ((a b c : A) → l ≡ a ∷ b ∷ c ∷ [] → C) → C
of_three l e f = go l (eqb-true (length l) 3 e) f
  where
    go : {A C : Type 0} (l : List A) → length l ≡ 3 → ((a b c : A) → l ≡ a ∷ b ∷ c ∷ [] → C) → C
    go [] h f = absurd (omega arith)
    go (a ∷ []) h f = absurd (omega arith)
    go (a ∷ b ∷ []) h f = absurd (omega arith)
    go (a ∷ b ∷ c ∷ []) h f = f a b c refl
    go (a ∷ b ∷ c ∷ d ∷ l) h f = absurd (omega arith)

-- exactly three parts, and each of the three
from-three : {X Y Z C : Type 0} (f : Part → Option X) (g : Part → Option Y) (h : Part → Option Z) (make : X → Y → Z → Condition) (parts : List Part) (d : Condition)
    → cond (eqb (length parts) 3) (bind (first_of f parts) (λ x. bind (first_of g parts) (λ y. bind (first_of h parts) (λ z. some (make x y z))))) none ≡ some d
    → ((a b c : Part) (x : X) (y : Y) (z : Z) → parts ≡ a ∷ b ∷ c ∷ [] → first_of f parts ≡ some x → first_of g parts ≡ some y → first_of h parts ≡ some z → make x y z ≡ d → C) → C
from-three f g h make parts d e k =
    by-test (eqb (length parts) 3)
    (λ q.
    of_three parts q λ a b c same.
    let first = (bind-eq-some_iff (first_of f parts) _).0 (rw q at e) in
    let second = (bind-eq-some_iff (first_of g parts) _).0 first.2 in
    let last = (bind-eq-some_iff (first_of h parts) _).0 second.2 in
    k a b c first.0 second.0 last.0 same first.1 second.1 last.1 (some-injective (make first.0 second.0 last.0) d last.2))
    (λ q. never d (rw q at e))

module _ (a b c : Part) where
  compared-three : (l r : Value) (n : ℕ) → (apart_value l && apart_value r) ≡ true → Among (left l) a b c → Among (which n) a b c → Among (right r) a b c → settled (a ∷ b ∷ c ∷ []) ≡ true
  unfolding settled part_key apart_part all none_twice is_among same_bytes ascii
  compared-three l r n h x y z =
      let k = (and-eq-true_iff (apart_value l) (apart_value r)).0 h in
      let p : apart_value l ≡ true = k.0 in
      let q : apart_value r ≡ true = k.1 in
      three (λ e. zero-not-one cc) (λ e. zero-not-one cc) (λ e. zero-not-one cc) (λ s t u. settled (s ∷ t ∷ u ∷ []) ≡ true) a b c x y z
      (rw (p, q)) (rw (p, q)) (rw (p, q)) (rw (p, q)) (rw (p, q)) (rw (p, q))

  quantified-three : (v : Value) (name : Text) (d : Condition) → (apart_value v && apart_condition d) ≡ true → Among (over v) a b c → Among (bound name) a b c → Among (body d) a b c → settled (a ∷ b ∷ c ∷ []) ≡ true
  unfolding settled part_key apart_part all none_twice is_among same_bytes ascii
  quantified-three v name d h x y z =
      let k = (and-eq-true_iff (apart_value v) (apart_condition d)).0 h in
      let p : apart_value v ≡ true = k.0 in
      let q : apart_condition d ≡ true = k.1 in
      three (λ e. zero-not-one cc) (λ e. zero-not-one cc) (λ e. zero-not-one cc) (λ s t u. settled (s ∷ t ∷ u ∷ []) ≡ true) a b c x y z
      (rw (p, q)) (rw (p, q)) (rw (p, q)) (rw (p, q)) (rw (p, q)) (rw (p, q))

compared-settled : (parts : List Part) (c : Condition) → comparison_from parts ≡ some c → apart_condition c ≡ true → settled parts ≡ true
unfolding comparison_from apart_condition
compared-settled parts c e h =
    from-three as_left as_which as_right (λ l n r. comparison 0 n l r) parts c e λ x y z l n r same p q s is.
    subst (λ (ps : List Part). settled ps ≡ true) (sym same)
    (compared-three x y z l r n (subst (λ (d : Condition). apart_condition d ≡ true) (sym is) h) (first-among as_left left (λ p. (told p).is-left) parts x y z same l p)
    (first-among as_which which (λ p. (told p).is-which) parts x y z same n q) (first-among as_right right (λ p. (told p).is_right) parts x y z same r s))

quantified-settled : (op : ℕ) (parts : List Part) (c : Condition) → quantifier_from op parts ≡ some c → apart_condition c ≡ true → settled parts ≡ true
unfolding quantifier_from apart_condition
quantified-settled op parts c e h =
    from-three as_over as_bound as_body (λ v name d. quantifier 0 op name v d) parts c e λ x y z v name d same p q s is.
    subst (λ (ps : List Part). settled ps ≡ true) (sym same)
    (quantified-three x y z v name d (subst (λ (d : Condition). apart_condition d ≡ true) (sym is) h) (first-among as_over over (λ p. (told p).is-over) parts x y z same v p)
    (first-among as_bound bound (λ p. (told p).is-bound) parts x y z same name q) (first-among as_body body (λ p. (told p).is_body) parts x y z same d s))

-- Their members

abbrev PartStands : Text → Json → Part → Type 0
PartStands = Stands part_key apart_part

part-stands : (key word : Text) (v : Json) (p q : Part) → same_bytes key word ≡ true → some p ≡ some q → PartStands word v p → PartStands key v q
part-stands key word v p q k e s = called-stands part_key apart_part key word v q k (same-stands part_key apart_part word v p q (some-injective p q e) s)

left-stands : (v : Json) → PartStands (ascii "left") v (left (value_of v))
unfolding part_key apart_part
left-stands v = (refl, λ h. sym (apart-json v) ∙ h)

right-stands : (v : Json) → PartStands (ascii "right") v (right (value_of v))
unfolding part_key apart_part
right-stands v = (refl, λ h. sym (apart-json v) ∙ h)

over-stands : (v : Json) → PartStands (ascii "in") v (over (value_of v))
unfolding part_key apart_part
over-stands v = (refl, λ h. sym (apart-json v) ∙ h)

module _ (key : Text) where
  which-stands : (v : Json) (p : Part) → same_bytes key (ascii "op") ≡ true → which_of v ≡ some p → PartStands key v p
  unfolding which_of part_key distinct
  which-stands null p k e = never p e
  which-stands (truth b) p k e = never p e
  which-stands (number digits) p k e = never p e
  which-stands (string t) p k e =
      by-test (eqb (comparison_of t) 0) (λ q. never p (rw q at e)) (λ q. part-stands key (ascii "op") (string t) (which (comparison_of t)) p k (rw q at e) (refl, λ h. refl))
  which-stands (array vs) p k e = never p e
  which-stands (object ms) p k e = never p e

  bound-stands : (v : Json) (p : Part) → same_bytes key (ascii "as") ≡ true → bound_of v ≡ some p → PartStands key v p
  unfolding bound_of part_key distinct
  bound-stands null p k e = never p e
  bound-stands (truth b) p k e = never p e
  bound-stands (number digits) p k e = never p e
  bound-stands (string t) p k e = part-stands key (ascii "as") (string t) (bound t) p k e (refl, λ h. refl)
  bound-stands (array vs) p k e = never p e
  bound-stands (object ms) p k e = never p e

  module _ (v : Json) (p : Part) where
    body-stands : (c : Option Condition) → ((d : Condition) → c ≡ some d → apart_condition d ≡ true → distinct v ≡ true) → same_bytes key (ascii "that") ≡ true
        → Option.map body c ≡ some p
        → PartStands key v p
    unfolding part_key apart_part
    body-stands c f k e =
        let m = (map-eq-some_iff body c).0 e in
        same-stands part_key apart_part key v (body m.0) p m.2 (same_bytes-equal key (ascii "that") k, λ h. f m.0 m.1 h)

    comparison-stands : comparison_part key v ≡ some p → PartStands key v p
    unfolding comparison_part
    comparison-stands e =
        by-test (same_bytes key (ascii "left")) (λ l. part-stands key (ascii "left") v (left (value_of v)) p l (rw l at e) (left-stands v)) λ l.
        by-test (same_bytes key (ascii "op")) (λ o. which-stands v p o (rw (l, o) at e)) λ o.
        by-test (same_bytes key (ascii "right")) (λ r. part-stands key (ascii "right") v (right (value_of v)) p r (rw (l, o, r) at e) (right-stands v)) λ r.
        never p (rw (l, o, r) at e)

    quantifier-stands : (c : Option Condition) → ((d : Condition) → c ≡ some d → apart_condition d ≡ true → distinct v ≡ true) → quantifier_part c key v ≡ some p
        → PartStands key v p
    unfolding quantifier_part
    quantifier-stands c f e =
        by-test (same_bytes key (ascii "in")) (λ i. part-stands key (ascii "in") v (over (value_of v)) p i (rw i at e) (over-stands v)) λ i.
        by-test (same_bytes key (ascii "as")) (λ a. bound-stands v p a (rw (i, a) at e)) λ a.
        by-test (same_bytes key (ascii "that")) (λ t. body-stands c f t (rw (i, a, t) at e)) λ t.
        never p (rw (i, a, t) at e)

settled-distinct : (ms : Members) (parts : List Part) → Stand part_key apart_part ms parts → settled parts ≡ true → distinct (object ms) ≡ true
unfolding settled distinct
settled-distinct ms parts s h =
    let k = (and-eq-true_iff (none_twice (map part_key parts)) (all apart_part parts)).0 h in
    both _ _ (ap none_twice s.0 ∙ k.0) (s.1 k.1)

comparisons-stand : (ms : Members) (parts : List Part) → comparison_parts ms ≡ some parts → Stand part_key apart_part ms parts
unfolding comparison_parts
comparisons-stand no_members parts e = none-stand part_key apart_part parts e
comparisons-stand (member key v others) parts e =
    one-stands part_key apart_part key v others (comparison_part key v) (comparison_parts others) (λ p h. comparison-stands key v p h) (λ ps h. comparisons-stand others ps h) parts e

comparison-distinct : (v : Json) (c : Condition) → comparison_in v ≡ some c → apart_condition c ≡ true → distinct v ≡ true
unfolding comparison_in
comparison-distinct null c e h = never c e
comparison-distinct (truth b) c e h = never c e
comparison-distinct (number digits) c e h = never c e
comparison-distinct (string t) c e h = never c e
comparison-distinct (array vs) c e h = never c e
comparison-distinct (object ms) c e h =
    let b = (bind-eq-some_iff (comparison_parts ms) comparison_from).0 e in
    settled-distinct ms b.0 (comparisons-stand ms b.0 b.1) (compared-settled b.0 c b.2 h)

-- Exactly two values

two-distinct : (op : ℕ) (v : Json) (c : Condition) → two_in op v ≡ some c → apart_condition c ≡ true → distinct v ≡ true
unfolding two_in two_from listed apart_condition distinct distinct_elements
two-distinct op null c e h = never c e
two-distinct op (truth b) c e h = never c e
two-distinct op (number digits) c e h = never c e
two-distinct op (string t) c e h = never c e
two-distinct op (array no_elements) c e h = never c e
two-distinct op (array (element v no_elements)) c e h = never c e
two-distinct op (array (element v (element w no_elements))) c e h =
    let is = some-injective (two 0 op (value_of v) (value_of w)) c e in
    let k = (and-eq-true_iff (apart_value (value_of v)) (apart_value (value_of w))).0 (subst (λ (d : Condition). apart_condition d ≡ true) (sym is) h) in
    both _ _ (sym (apart-json v) ∙ k.0) (both _ _ (sym (apart-json w) ∙ k.1) refl)
two-distinct op (array (element v (element w (element x others)))) c e h = never c e
two-distinct op (object ms) c e h = never c e

-- Operators with their operands

listed-apart : (cs : List Condition) → apart_conditions (conditions_from cs) ≡ all apart_condition cs
unfolding conditions_from apart_conditions all
listed-apart [] = refl
listed-apart (c ∷ cs) = ap (λ (b : Bool). apart_condition c && b) (listed-apart cs)

module _ (op : ℕ) (v : Json) (c : Option Condition) (cs : Option (List Condition)) (parts : Option (List Part))
    (on-condition : (d : Condition) → c ≡ some d → apart_condition d ≡ true → distinct v ≡ true)
    (on-conditions : (ds : List Condition) → cs ≡ some ds → all apart_condition ds ≡ true → distinct v ≡ true)
    (on-parts : (ps : List Part) → parts ≡ some ps → settled ps ≡ true → distinct v ≡ true) where
  operation-distinct : (sh : Shape) (d : Condition) → operation sh op v c cs parts ≡ some d → apart_condition d ≡ true → distinct v ≡ true
  unfolding operation apart_condition
  operation-distinct Operators.literal d e h = never d e
  operation-distinct Operators.many d e h =
      let m = (map-eq-some_iff (λ (xs : List Condition). many 0 op (conditions_from xs)) cs).0 e in
      on-conditions m.0 m.1 (sym (listed-apart m.0) ∙ subst (λ (x : Condition). apart_condition x ≡ true) (sym m.2) h)
  operation-distinct Operators.negation d e h =
      let m = (map-eq-some_iff (negation 0) c).0 e in
      on-condition m.0 m.1 (subst (λ (x : Condition). apart_condition x ≡ true) (sym m.2) h)
  operation-distinct Operators.one d e h =
      let is = some-injective (one 0 op (value_of v)) d e in
      sym (apart-json v) ∙ subst (λ (x : Condition). apart_condition x ≡ true) (sym is) h
  operation-distinct Operators.two d e h = two-distinct op v d e h
  operation-distinct Operators.comparison d e h = comparison-distinct v d e h
  operation-distinct Operators.quantifier d e h =
      let b = (bind-eq-some_iff parts (quantifier_from op)).0 e in
      on-parts b.0 b.1 (quantified-settled op b.0 d b.2 h)

-- Conditions: an object of one member has no key twice

only_one : {A C : Type 0} (o : Option A) (rest : Option (List A)) (found : A) → bind (bind o (λ a. Option.map (λ (others : List A). a ∷ others) rest)) the_only ≡ some found
    → (o ≡ some found → rest ≡ some [] → C) → C
unfolding the_only
only_one {A = A} {C = C} o rest found e f =
    let b = (bind-eq-some_iff (bind o (λ a. Option.map (λ (others : List A). a ∷ others) rest)) the_only).0 e in
    first-and-rest o rest b.0 b.1 λ a others p q same. go a others p q (subst (λ (l : List A). the_only l ≡ some found) (sym same) b.2)
  where
    go : (a : A) (others : List A) → o ≡ some a → rest ≡ some others → the_only (a ∷ others) ≡ some found → C
    go a [] p q h = f (p ∙ h) q
    go a (x ∷ others) p q h = never found h

some-operations : (key : Text) (v : Json) (others : Members) → operations (member key v others) ≡ some [] → ⊥
unfolding operations
some-operations key v others e = first-and-rest _ (operations others) [] e λ a cs p q same. zero-not-one cc

alone-distinct : (key : Text) (v : Json) (others : Members) → operations others ≡ some [] → distinct v ≡ true → distinct (object (member key v others)) ≡ true
unfolding distinct distinct_members keys_of none_twice is_among
alone-distinct key v no_members e h = rw h
alone-distinct key v (member k w more) e h = absurd (some-operations k w more e)

mutual
  unfolding condition_of operations children_of conditions_of parts_of quantifier_parts keys_of none_twice distinct distinct_elements distinct_members

  pub condition-distinct : (j : Json) (c : Condition) → condition_of j ≡ some c → apart_condition c ≡ true → distinct j ≡ true
  condition-distinct null c e h = never c e
  condition-distinct (truth b) c e h = refl
  condition-distinct (number digits) c e h = never c e
  condition-distinct (string t) c e h = never c e
  condition-distinct (array vs) c e h = never c e
  condition-distinct (object ms) c e h = only-distinct ms c e h

  only-distinct : (ms : Members) (c : Condition) → bind (operations ms) the_only ≡ some c → apart_condition c ≡ true → distinct (object ms) ≡ true
  only-distinct no_members c e h = refl
  only-distinct (member key v others) c e h =
      only_one _ (operations others) c e λ p q.
      alone-distinct key v others q
      (operation-distinct (operator_of key) v (condition_of v) (children_of v) (parts_of v) (λ d k a. condition-distinct v d k a) (λ ds k a. children-distinct v ds k a)
      (λ ps k a. parts-distinct v ps k a) (shape_of (operator_of key)) c p h)

  children-distinct : (j : Json) (cs : List Condition) → children_of j ≡ some cs → all apart_condition cs ≡ true → distinct j ≡ true
  children-distinct null cs e h = never cs e
  children-distinct (truth b) cs e h = never cs e
  children-distinct (number digits) cs e h = never cs e
  children-distinct (string t) cs e h = never cs e
  children-distinct (array vs) cs e h = conditions-distinct vs cs e h
  children-distinct (object ms) cs e h = never cs e

  conditions-distinct : (vs : Elements) (cs : List Condition) → conditions_of vs ≡ some cs → all apart_condition cs ≡ true → distinct_elements vs ≡ true
  conditions-distinct no_elements cs e h = refl
  conditions-distinct (element v others) cs e h =
      collected (condition_of v) (conditions_of others) apart_condition (distinct v) (distinct_elements others) (λ d k a. condition-distinct v d k a)
      (λ ds k a. conditions-distinct others ds k a) cs e h

  parts-distinct : (j : Json) (parts : List Part) → parts_of j ≡ some parts → settled parts ≡ true → distinct j ≡ true
  parts-distinct null ps e h = never ps e
  parts-distinct (truth b) ps e h = never ps e
  parts-distinct (number digits) ps e h = never ps e
  parts-distinct (string t) ps e h = never ps e
  parts-distinct (array vs) ps e h = never ps e
  parts-distinct (object ms) ps e h = settled-distinct ms ps (quantifiers-stand ms ps e) h

  quantifiers-stand : (ms : Members) (parts : List Part) → quantifier_parts ms ≡ some parts → Stand part_key apart_part ms parts
  quantifiers-stand no_members ps e = none-stand part_key apart_part ps e
  quantifiers-stand (member key v others) ps e =
      one-stands part_key apart_part key v others (quantifier_part (condition_of v) key v) (quantifier_parts others)
      (λ p k. quantifier-stands key v p (condition_of v) (λ d q a. condition-distinct v d q a) k) (λ qs k. quantifiers-stand others qs k) ps e

-- Rules: no key twice, so one `assert`

unfoldable rule_key : RulePart → Text
rule_key (asserts c) = ascii "assert"
rule_key (names t) = ascii "name"
rule_key (says t) = ascii "message"

unfoldable apart_rule_part : RulePart → Bool
apart_rule_part (asserts c) = apart_condition c
apart_rule_part (names t) = true
apart_rule_part (says t) = true

none-asserts : (parts : List RulePart) → is_among (ascii "assert") (map rule_key parts) ≡ false → all apart_rule_part parts ≡ true
unfolding is_among rule_key apart_rule_part all same_bytes ascii
none-asserts [] e = refl
none-asserts (asserts c ∷ others) e = absurd (false≢true (sym e))
none-asserts (names t ∷ others) e = none-asserts others e
none-asserts (says t ∷ others) e = none-asserts others e

one-asserts : (parts : List RulePart) (c : Condition) → none_twice (map rule_key parts) ≡ true → first_of as_assert parts ≡ some c → apart_condition c ≡ true
    → all apart_rule_part parts ≡ true
unfolding none_twice rule_key apart_rule_part all first_of as_assert or_else
one-asserts [] c n e h = refl
one-asserts (asserts d ∷ others) c n e h =
    both _ _ (ap apart_condition (some-injective d c e) ∙ h)
    (none-asserts others (by-test (is_among (ascii "assert") (map rule_key others)) (λ q. absurd (false≢true (rw q at n))) (λ q. q)))
one-asserts (names t ∷ others) c n e h = one-asserts others c ((and-eq-true_iff (not (is_among (ascii "name") (map rule_key others))) (none_twice (map rule_key others))).0 n).1 e h
one-asserts (says t ∷ others) c n e h = one-asserts others c ((and-eq-true_iff (not (is_among (ascii "message") (map rule_key others))) (none_twice (map rule_key others))).0 n).1 e h

abbrev RuleStands : Text → Json → RulePart → Type 0
RuleStands = Stands rule_key apart_rule_part

optional-distinct : (v : Json) (t : Option Text) → optional_of v ≡ some t → distinct v ≡ true
unfolding optional_of distinct
optional-distinct null t e = refl
optional-distinct (truth b) t e = refl
optional-distinct (number digits) t e = refl
optional-distinct (string x) t e = refl
optional-distinct (array vs) t e = never t e
optional-distinct (object ms) t e = never t e

module _ (key : Text) (v : Json) (p : RulePart) where
  -- of what a key asks for, made of what is read
  made-stands : {A : Type 0} (word : Text) (make : A → RulePart) (o : Option A) → ((a : A) → o ≡ some a → RuleStands word v (make a)) → same_bytes key word ≡ true
      → Option.map make o ≡ some p
      → RuleStands key v p
  made-stands word make o f k e =
      let m = (map-eq-some_iff make o).0 e in
      called-stands rule_key apart_rule_part key word v p k (same-stands rule_key apart_rule_part word v (make m.0) p m.2 (f m.0 m.1))

  rule-stands : rule_part key v ≡ some p → RuleStands key v p
  unfolding rule_part rule_key apart_rule_part
  rule-stands e =
      by-test (same_bytes key (ascii "name")) (λ n. made-stands (ascii "name") names (optional_of v) (λ t r. (refl, λ h. optional-distinct v t r)) n (rw n at e)) λ n.
      by-test (same_bytes key (ascii "assert"))
      (λ a. made-stands (ascii "assert") asserts (condition_of v) (λ c r. (refl, λ h. condition-distinct v c r h)) a (rw (n, a) at e)) λ a.
      by-test (same_bytes key (ascii "message")) (λ m. made-stands (ascii "message") says (optional_of v) (λ t r. (refl, λ h. optional-distinct v t r)) m (rw (n, a, m) at e)) λ m.
      never p (rw (n, a, m) at e)

rules-stand : (ms : Members) (parts : List RulePart) → rule_parts ms ≡ some parts → Stand rule_key apart_rule_part ms parts
unfolding rule_parts
rules-stand no_members parts e = none-stand rule_key apart_rule_part parts e
rules-stand (member key v others) parts e =
    one-stands rule_key apart_rule_part key v others (rule_part key v) (rule_parts others) (λ p h. rule-stands key v p h) (λ ps h. rules-stand others ps h) parts e

-- JSON that is a rule, whose values have no key twice, has no key twice
pub rule-distinct : (j : Json) (r : Rule) → rule_of j ≡ some r → apart_rule r ≡ true → distinct j ≡ true
unfolding rule_of rule_from apart_rule distinct
rule-distinct null r e h = never r e
rule-distinct (truth b) r e h = never r e
rule-distinct (number digits) r e h = never r e
rule-distinct (string t) r e h = never r e
rule-distinct (array vs) r e h = never r e
rule-distinct (object ms) r e h =
    by-test (none_twice (keys_of ms))
    (λ n.
    let b = (bind-eq-some_iff (rule_parts ms) rule_from).0 (rw n at e) in
    let m = (map-eq-some_iff (rule (first_of as_name b.0) (first_of as_message b.0)) (first_of as_assert b.0)).0 b.2 in
    let s = rules-stand ms b.0 b.1 in
    both _ _ n (s.1 (one-asserts b.0 m.0 (sym (ap none_twice s.0) ∙ n) m.1 (subst (λ (x : Rule). apart_rule x ≡ true) (sym m.2) h))))
    (λ n. never r (rw n at e))

-- and so has JSON whose rule's sheet is well formed: the sheet's values have no key twice
pub decodes-distinct : (j : Json) (r t : Rule) → rule_of j ≡ some r → decode_rule (write_rule r) ≡ some t → distinct j ≡ true
decodes-distinct j r t e d =
    let fits = ((rule-round-trip (write_rule r) t).0 d).1.fits in
    rule-distinct j r e (sym (apart_bare r) ∙ ap apart_rule (decodes-bare j r t e d) ∙ apart_bare t ∙ apart_fits t fits)
