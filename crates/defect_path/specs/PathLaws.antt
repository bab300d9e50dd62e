-- Every check of a rule has a path: its place is the number of an entry that its path can reach.
use Rattle.std.specs.Prelude.{ℕ, ◌+◌, Bool, true, false, cond, List, [], ◌∷◌, ◌++◌, map, ◌≡◌, refl, leb, eqb}
use Rattle.std.proofs.Math.Option.{Option, none, some, IsSome}
use Rattle.std.proofs.Common.{eq-eqb}
use Rattle.text.specs.Ascii.{ascii}
use Rattle.text.specs.Reader.{or_else}
use Rattle.definition.specs.Tree.{Text, Value, constant, number, string, array, object, Values, no_values, value, Pairs, no_pairs, pair, Condition, literal, many, negation, one, two, comparison, quantifier, Conditions, no_conditions, condition, Rule, rule, template}
use Rattle.definition.specs.Within.{ConditionFrom, RuleFrom}
use Rattle.reference.specs.Setting.{Setting}
use Rattle.validation.specs.Check.{Binder, Question, Check, check, reference_text, reference_check, references, references_of_values, references_of_pairs, Literal, numbers, numbers_of_values, numbers_of_pairs, literals, literals_of_conditions, literal_check, entry_of, instant_form, instant_operand, affix_operand, compare_side, operand, operator_check, body, bodies, literal_checks, checks}
use Rattle.validation.proofs.CheckLaws.{Every, every_append, every-if}
use Rattle.sheet.specs.Operators.{operator_name, is_instant_test, is_affix, is_observed}
use Rattle.validation.specs.Location.{dotted, index, through, here_or, here_as, in_value, in_values, in_pairs, in_side, at_quantifier, in_condition, in_conditions, behind_label}

every-weaker : (P Q : Check → Type 0) (xs : List Check) → ((c : Check) → P c → Q c) → Every P xs → Every Q xs
every-weaker P Q [] f h = tt
every-weaker P Q (c ∷ xs) f h = (f c h.0, every-weaker P Q xs f h.1)

-- a search finds something

through-some : (part : Text) (o : Option Text) → IsSome o → IsSome (through part o)
unfolding through
through-some part none h = elim h [ ]
through-some part (some t) h = tt

first_some : (a b : Option Text) → IsSome a → IsSome (or_else a b)
unfolding or_else
first_some none b h = elim h [ ]
first_some (some t) b h = tt

second-some : (a b : Option Text) → IsSome b → IsSome (or_else a b)
unfolding or_else
second-some none b h = h
second-some (some t) b h = tt

inside-some : (own : Bool) (o : Option Text) → IsSome o → IsSome (here_or own o)
unfolding here_or
inside-some true o h = tt
inside-some false o h = h

within-some : (own : Bool) (t : Text) (o : Option Text) → IsSome o → IsSome (here_as own t o)
unfolding here_as
within-some true t o h = tt
within-some false t o h = h

own-some : (e : ℕ) (o : Option Text) → IsSome (here_or (eqb e e) o)
unfolding here_or
own-some e o = rw (eq-eqb e e refl) tt

here-some : (e : ℕ) (t : Text) (o : Option Text) → IsSome (here_as (eqb e e) t o)
unfolding here_as
here-some e t o = rw (eq-eqb e e refl) tt

own_value : (v : Value) → IsSome (in_value (entry_of v) v)
unfolding in_value entry_of
own_value (constant e type) = own-some e none
own_value (number e digits) = own-some e none
own_value (string e t) = own-some e none
own_value (array e vs) = own-some e _
own_value (object e pairs) = own-some e _

-- The references of a value, and the checks of an operand

-- a check of a value, with a number that is not 17
record InValue (v : Value) (c : Check) : Type 0 where
  other : c.number ≡ 18
  found : IsSome (in_value c.place v)

record InValues (k : ℕ) (vs : Values) (c : Check) : Type 0 where
  other : c.number ≡ 18
  found : IsSome (in_values c.place k vs)

record InPairs (ps : Pairs) (c : Check) : Type 0 where
  other : c.number ≡ 18
  found : IsSome (in_pairs c.place ps)

reference-found : (bs : List Binder) (e : ℕ) (t : Text) (o : Option Text) → Every (InValue (string e t)) (reference_check bs e o)
unfolding reference_check check in_value
reference-found bs e t none = tt
reference-found bs e t (some u) = (record { other = refl; found = own-some e none }, tt)

mutual
  unfolding references in_value

  references-found : (bs : List Binder) (v : Value) → Every (InValue v) (references bs v)
  references-found bs (constant e type) = tt
  references-found bs (number e digits) = tt
  references-found bs (string e t) = reference-found bs e t (reference_text t)
  references-found bs (array e vs) =
      every-weaker (InValues 0 vs) (InValue (array e vs)) (references_of_values bs vs)
      (λ c h. record { other = h.other; found = inside-some (eqb e c.place) (in_values c.place 0 vs) h.found })
      (values-found bs 0 vs)
  references-found bs (object e pairs) =
      every-weaker (InPairs pairs) (InValue (object e pairs)) (references_of_pairs bs pairs)
      (λ c h. record { other = h.other; found = inside-some (eqb e c.place) (in_pairs c.place pairs) h.found })
      (pairs-found bs pairs)

  values-found : (bs : List Binder) (k : ℕ) (vs : Values) → Every (InValues k vs) (references_of_values bs vs)
  values-found bs k no_values = tt
  values-found bs k (value v others) =
      every_append (InValues k (value v others)) (references bs v) (references_of_values bs others)
      (every-weaker (InValue v) (InValues k (value v others)) (references bs v)
      (λ c h. record {
        other = h.other;
        found = first_some (through (index k) (in_value c.place v)) (in_values c.place (k + 1) others) (through-some (index k) (in_value c.place v) h.found);
      })
      (references-found bs v))
      (every-weaker (InValues (k + 1) others) (InValues k (value v others)) (references_of_values bs others)
      (λ c h. record {
        other = h.other;
        found = second-some (through (index k) (in_value c.place v)) (in_values c.place (k + 1) others) h.found;
      })
      (values-found bs (k + 1) others))

  pairs-found : (bs : List Binder) (ps : Pairs) → Every (InPairs ps) (references_of_pairs bs ps)
  pairs-found bs no_pairs = tt
  pairs-found bs (pair key v others) =
      every_append (InPairs (pair key v others)) (references bs v) (references_of_pairs bs others)
      (every-weaker (InValue v) (InPairs (pair key v others)) (references bs v)
      (λ c h. record {
        other = h.other;
        found = first_some (through (dotted key) (in_value c.place v)) (in_pairs c.place others) (through-some (dotted key) (in_value c.place v) h.found);
      })
      (references-found bs v))
      (every-weaker (InPairs others) (InPairs (pair key v others)) (references_of_pairs bs others)
      (λ c h. record {
        other = h.other;
        found = second-some (through (dotted key) (in_value c.place v)) (in_pairs c.place others) h.found;
      })
      (pairs-found bs others))

abbrev HasPlace : Value → Check → Type 0
HasPlace v c = IsSome (in_value c.place v)

operand-found : (op : ℕ) (bs : List Binder) (v : Value) → Every (HasPlace v) (operand op bs v)
unfolding operand instant_operand affix_operand check
operand-found op bs v =
    every-if (HasPlace v) (is_instant_test op) _ _ (with-own 20 (instant_form v))
    (every-if (HasPlace v) (is_affix op) _ _ (with-own 19 _) refs)
  where
    refs : Every (HasPlace v) (references bs v)
    refs = every-weaker (InValue v) (HasPlace v) (references bs v) (λ c h. h.found) (references-found bs v)

    with-own : (n : ℕ) (q : Question) → Every (HasPlace v) (references bs v ++ (check n (entry_of v) bs q ∷ []))
    with-own n q = every_append (HasPlace v) (references bs v) _ refs (own_value v, tt)

InSideOf : (part : Text) (v : Value) → Check → Type 0
InSideOf part v c = IsSome (in_side c.number c.place part v)

side-found : (part : Text) (bs : List Binder) (detail : ℕ) (v : Value) → Every (InSideOf part v) (compare_side bs detail v)
unfolding compare_side check in_side InSideOf
side-found part bs detail v = (
  own-some (entry_of v) none,
  every-weaker (InValue v) (InSideOf part v) (references bs v)
      (λ c h. rw h.other (through-some part (in_value c.place v) h.found))
      (references-found bs v),
)

-- Conditions

abbrev InCondition : Condition → Check → Type 0
InCondition t c = IsSome (in_condition c.number c.place t)

abbrev AmongConditions : (op k : ℕ) → Conditions → Check → Type 0
AmongConditions op k cs c = IsSome (in_conditions c.number c.place op k cs)

module _ (setting : Setting) where
  mutual
    unfolding body bodies operator_check check in_condition InSideOf

    body-found : (bs : List Binder) (t : Condition) → Every (InCondition t) (body setting bs t)
    body-found bs (literal e truth) = (own-some e none, tt)
    body-found bs (many e op children) = (
      own-some e _,
      (
        own-some e _,
        every-weaker (AmongConditions op 0 children) (InCondition (many e op children)) (bodies setting bs children)
            (λ c h. inside-some (eqb e c.place) (in_conditions c.number c.place op 0 children) h)
            (bodies-found bs op 0 children),
      ),
    )
    body-found bs (negation e child) = (
      own-some e _,
      every-weaker (InCondition child) (InCondition (negation e child)) (body setting bs child)
          (λ c h. inside-some (eqb e c.place) _ (through-some (ascii ".not") (in_condition c.number c.place child) h))
          (body-found bs child),
    )
    body-found bs (one e op v) = (
      own-some e _,
      every-weaker (InValue v) (InCondition (one e op v)) (references bs v)
          (λ c h. inside-some (eqb e c.place) _ (through-some (dotted (operator_name op)) (in_value c.place v) h.found))
          (references-found bs v),
    )
    body-found bs (two e op left right) = (
      own-some e _,
      every_append (InCondition (two e op left right)) (operand op bs left) (operand op bs right)
          (every-weaker (HasPlace left) (InCondition (two e op left right)) (operand op bs left)
          (λ c h. inside-some (eqb e c.place) _
          (first_some _ _ (through-some (dotted (operator_name op) ++ index 0) (in_value c.place left) h)))
          (operand-found op bs left))
          (every-weaker (HasPlace right) (InCondition (two e op left right)) (operand op bs right)
          (λ c h. inside-some (eqb e c.place) _
          (second-some (through (dotted (operator_name op) ++ index 0) (in_value c.place left)) _
          (through-some (dotted (operator_name op) ++ index 1) (in_value c.place right) h)))
          (operand-found op bs right)),
    )
    body-found bs (comparison e which left right) = (
      own-some e _,
      every_append (InCondition (comparison e which left right)) (compare_side bs 1 left) (compare_side bs 2 right)
          (every-weaker (InSideOf (ascii ".compare.left") left) (InCondition (comparison e which left right)) (compare_side bs 1 left)
          (λ c h. inside-some (eqb e c.place) _
          (first_some (in_side c.number c.place (ascii ".compare.left") left) _ h))
          (side-found (ascii ".compare.left") bs 1 left))
          (every-weaker (InSideOf (ascii ".compare.right") right) (InCondition (comparison e which left right)) (compare_side bs 2 right)
          (λ c h. inside-some (eqb e c.place) _
          (second-some (in_side c.number c.place (ascii ".compare.left") left) _ h))
          (side-found (ascii ".compare.right") bs 2 right)),
    )
    body-found bs (quantifier e op bind over that) = (
      here-some e _ _,
      (
        here-some e _ _,
        every_append (InCondition (quantifier e op bind over that)) (references bs over) _
            (every-weaker (InValue over) (InCondition (quantifier e op bind over that)) (references bs over)
            (λ c h. within-some (eqb e c.place) (at_quantifier c.number op) _
            (first_some _ _ (through-some (dotted (operator_name op) ++ ascii ".in") (in_value c.place over) h.found)))
            (references-found bs over)) (
              here-some e _ _,
              every-weaker (InCondition that) (InCondition (quantifier e op bind over that)) (body setting (record { name = bind; over = over } ∷ bs) that)
                  (λ c h. within-some (eqb e c.place) (at_quantifier c.number op) _
                  (second-some (through (dotted (operator_name op) ++ ascii ".in") (in_value c.place over)) _
                  (through-some (dotted (operator_name op) ++ ascii ".that") (in_condition c.number c.place that) h)))
                  (body-found (record { name = bind; over = over } ∷ bs) that),
            ),
      ),
    )

    bodies-found : (bs : List Binder) (op k : ℕ) (cs : Conditions) → Every (AmongConditions op k cs) (bodies setting bs cs)
    bodies-found bs op k no_conditions = tt
    bodies-found bs op k (condition t others) =
        every_append (AmongConditions op k (condition t others)) (body setting bs t) (bodies setting bs others)
        (every-weaker (InCondition t) (AmongConditions op k (condition t others)) (body setting bs t)
        (λ c h. first_some _ _ (through-some (dotted (operator_name op) ++ index k) (in_condition c.number c.place t) h))
        (body-found bs t))
        (every-weaker (AmongConditions op (k + 1) others) (AmongConditions op k (condition t others)) (bodies setting bs others)
        (λ c h. second-some (through (dotted (operator_name op) ++ index k) (in_condition c.number c.place t)) _ h)
        (bodies-found bs op (k + 1) others))

-- Literals

abbrev All : (Literal → Type 0) → List Literal → Type 0
All P [] = Unit {0}
All P (l ∷ ls) = P l × All P ls

all_append : (P : Literal → Type 0) (xs ys : List Literal) → All P xs → All P ys → All P (xs ++ ys)
all_append P [] ys u w = w
all_append P (l ∷ xs) ys u w = (u.0, all_append P xs ys u.1 w)

all-if : (P : Literal → Type 0) (b : Bool) (xs : List Literal) → All P xs → All P (cond b xs [])
all-if P true xs u = u
all-if P false xs u = tt

all_weaker : (P Q : Literal → Type 0) (xs : List Literal) → ((l : Literal) → P l → Q l) → All P xs → All Q xs
all_weaker P Q [] f h = tt
all_weaker P Q (l ∷ xs) f h = (f l h.0, all_weaker P Q xs f h.1)

all-checks : (P : Literal → Type 0) (Q : Check → Type 0) (xs : List Literal)
    → ((l : Literal) → P l → Q (literal_check l))
    → All P xs
    → Every Q (map literal_check xs)
all-checks P Q [] f h = tt
all-checks P Q (l ∷ xs) f h = (f l h.0, all-checks P Q xs f h.1)

abbrev NumberIn : Value → Literal → Type 0
NumberIn v l = IsSome (in_value l.entry v)

abbrev NumberAmong : (k : ℕ) → Values → Literal → Type 0
NumberAmong k vs l = IsSome (in_values l.entry k vs)

abbrev NumberInPairs : Pairs → Literal → Type 0
NumberInPairs ps l = IsSome (in_pairs l.entry ps)

mutual
  unfolding numbers in_value

  numbers-found : (v : Value) → All (NumberIn v) (numbers v)
  numbers-found (constant e type) = tt
  numbers-found (number e digits) = (own-some e none, tt)
  numbers-found (string e t) = tt
  numbers-found (array e vs) =
      all_weaker (NumberAmong 0 vs) (NumberIn (array e vs)) (numbers_of_values vs)
      (λ l h. inside-some (eqb e l.entry) (in_values l.entry 0 vs) h)
      (numbers-among 0 vs)
  numbers-found (object e pairs) =
      all_weaker (NumberInPairs pairs) (NumberIn (object e pairs)) (numbers_of_pairs pairs)
      (λ l h. inside-some (eqb e l.entry) (in_pairs l.entry pairs) h)
      (numbers-in-pairs pairs)

  numbers-among : (k : ℕ) (vs : Values) → All (NumberAmong k vs) (numbers_of_values vs)
  numbers-among k no_values = tt
  numbers-among k (value v others) =
      all_append (NumberAmong k (value v others)) (numbers v) (numbers_of_values others)
      (all_weaker (NumberIn v) (NumberAmong k (value v others)) (numbers v)
      (λ l h. first_some _ (in_values l.entry (k + 1) others) (through-some (index k) (in_value l.entry v) h))
      (numbers-found v))
      (all_weaker (NumberAmong (k + 1) others) (NumberAmong k (value v others)) (numbers_of_values others)
      (λ l h. second-some (through (index k) (in_value l.entry v)) _ h)
      (numbers-among (k + 1) others))

  numbers-in-pairs : (ps : Pairs) → All (NumberInPairs ps) (numbers_of_pairs ps)
  numbers-in-pairs no_pairs = tt
  numbers-in-pairs (pair key v others) =
      all_append (NumberInPairs (pair key v others)) (numbers v) (numbers_of_pairs others)
      (all_weaker (NumberIn v) (NumberInPairs (pair key v others)) (numbers v)
      (λ l h. first_some _ (in_pairs l.entry others) (through-some (dotted key) (in_value l.entry v) h))
      (numbers-found v))
      (all_weaker (NumberInPairs others) (NumberInPairs (pair key v others)) (numbers_of_pairs others)
      (λ l h. second-some (through (dotted key) (in_value l.entry v)) _ h)
      (numbers-in-pairs others))

-- literals are checked by number 14
abbrev LiteralIn : Condition → Literal → Type 0
LiteralIn t l = IsSome (in_condition 14 l.entry t)

abbrev LiteralAmong : (op k : ℕ) → Conditions → Literal → Type 0
LiteralAmong op k cs l = IsSome (in_conditions 14 l.entry op k cs)

mutual
  unfolding literals in_condition in_side

  literals-found : (t : Condition) → All (LiteralIn t) (literals t)
  literals-found (literal e truth) = tt
  literals-found (many e op children) =
      all_weaker (LiteralAmong op 0 children) (LiteralIn (many e op children)) (literals_of_conditions children)
      (λ l h. inside-some (eqb e l.entry) (in_conditions 14 l.entry op 0 children) h)
      (literals-among op 0 children)
  literals-found (negation e child) =
      all_weaker (LiteralIn child) (LiteralIn (negation e child)) (literals child)
      (λ l h. inside-some (eqb e l.entry) _ (through-some (ascii ".not") (in_condition 14 l.entry child) h))
      (literals-found child)
  literals-found (one e op v) =
      all-if (LiteralIn (one e op v)) (is_observed op) (numbers v)
      (all_weaker (NumberIn v) (LiteralIn (one e op v)) (numbers v)
      (λ l h. inside-some (eqb e l.entry) _ (through-some (dotted (operator_name op)) (in_value l.entry v) h))
      (numbers-found v))
  literals-found (two e op left right) =
      all-if (LiteralIn (two e op left right)) (is_observed op) (numbers left ++ numbers right)
      (all_append (LiteralIn (two e op left right)) (numbers left) (numbers right)
      (all_weaker (NumberIn left) (LiteralIn (two e op left right)) (numbers left)
      (λ l h. inside-some (eqb e l.entry) _
      (first_some _ _ (through-some (dotted (operator_name op) ++ index 0) (in_value l.entry left) h)))
      (numbers-found left))
      (all_weaker (NumberIn right) (LiteralIn (two e op left right)) (numbers right)
      (λ l h. inside-some (eqb e l.entry) _
      (second-some (through (dotted (operator_name op) ++ index 0) (in_value l.entry left)) _
      (through-some (dotted (operator_name op) ++ index 1) (in_value l.entry right) h)))
      (numbers-found right)))
  literals-found (comparison e which left right) =
      all_append (LiteralIn (comparison e which left right)) (numbers left) (numbers right)
      (all_weaker (NumberIn left) (LiteralIn (comparison e which left right)) (numbers left)
      (λ l h. inside-some (eqb e l.entry) _
      (first_some _ _ (through-some (ascii ".compare.left") (in_value l.entry left) h)))
      (numbers-found left))
      (all_weaker (NumberIn right) (LiteralIn (comparison e which left right)) (numbers right)
      (λ l h. inside-some (eqb e l.entry) _
      (second-some (through (ascii ".compare.left") (in_value l.entry left)) _
      (through-some (ascii ".compare.right") (in_value l.entry right) h)))
      (numbers-found right))
  literals-found (quantifier e op bind over that) =
      all_weaker (LiteralIn that) (LiteralIn (quantifier e op bind over that)) (literals that)
      (λ l h. within-some (eqb e l.entry) (at_quantifier 14 op) _
      (second-some (through (dotted (operator_name op) ++ ascii ".in") (in_value l.entry over)) _
      (through-some (dotted (operator_name op) ++ ascii ".that") (in_condition 14 l.entry that) h)))
      (literals-found that)

  literals-among : (op k : ℕ) (cs : Conditions) → All (LiteralAmong op k cs) (literals_of_conditions cs)
  literals-among op k no_conditions = tt
  literals-among op k (condition t others) =
      all_append (LiteralAmong op k (condition t others)) (literals t) (literals_of_conditions others)
      (all_weaker (LiteralIn t) (LiteralAmong op k (condition t others)) (literals t)
      (λ l h. first_some _ (in_conditions 14 l.entry op (k + 1) others) (through-some (dotted (operator_name op) ++ index k) (in_condition 14 l.entry t) h))
      (literals-found t))
      (all_weaker (LiteralAmong op (k + 1) others) (LiteralAmong op k (condition t others)) (literals_of_conditions others)
      (λ l h. second-some (through (dotted (operator_name op) ++ index k) (in_condition 14 l.entry t)) _ h)
      (literals-among op (k + 1) others))

-- The whole list

-- the depth is the defect of the outermost condition, whose number is 2
outermost : (t : Condition) → ConditionFrom 2 t → IsSome (in_condition 13 2 t)
unfolding in_condition here_or here_as
outermost (literal e truth) from = rw from tt
outermost (many e op children) from = rw from.0 tt
outermost (negation e child) from = rw from.0 tt
outermost (one e op v) from = rw from.0 tt
outermost (two e op left right) from = rw from.0 tt
outermost (comparison e which left right) from = rw from.0 tt
outermost (quantifier e op bind over body) from = rw from.0 tt

abbrev pub HasPath : Rule → Check → Type 0
HasPath r c = IsSome (behind_label c.number c.place r)

assert-some : (defect place : ℕ) (name message : Option Text) (t : Condition)
    → IsSome (in_condition defect place t)
    → IsSome (behind_label defect place (rule name message t))
unfolding behind_label
assert-some defect place name message t h = by-defect (leb defect 12)
  where
    by-defect : (b : Bool) → IsSome (cond b (some []) (through (ascii ".assert") (in_condition defect place t)))
    by-defect true = tt
    by-defect false = through-some (ascii ".assert") (in_condition defect place t) h

pub checks-have-paths : (setting : Setting) (r : Rule) → RuleFrom 1 r → Every (HasPath r) (checks setting r)
unfolding checks check behind_label literal_checks literal_check
checks-have-paths setting (rule name message assert) from = (
  tt,
  (
    tt,
    (
      assert-some 13 2 name message assert (outermost assert from),
      every_append (HasPath (rule name message assert)) (literal_checks setting assert) (body setting [] assert)
          (every-if (HasPath (rule name message assert)) setting.is_service (map literal_check (literals assert)) []
          (all-checks (LiteralIn assert) (HasPath (rule name message assert)) (literals assert)
          (λ l h. assert-some 14 l.entry name message assert h)
          (literals-found assert))
          tt)
          (every-weaker (InCondition assert) (HasPath (rule name message assert)) (body setting [] assert)
          (λ c h. assert-some c.number c.place name message assert h)
          (body-found setting [] assert)),
    ),
  ),
)
checks-have-paths setting (template v) from =
    every-weaker (InValue v) (HasPath (template v)) (references [] v) (λ c h. h.found) (references-found [] v)
