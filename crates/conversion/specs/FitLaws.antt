-- The rule that a text is keeps all that a sheet asks but the limits: where it keeps those too, it fits a sheet.
use Rattle.std.specs.Prelude.{ℕ, ◌+◌, ◌≤◌, ◌<◌, max, Bool, cond, ◌&&◌, ◌≡◌, refl, leb, eqb, length}
use Rattle.std.proofs.Common.{arith, inl, inr, sym, ap, subst, ◌∙◌, leb-true, leb-false}
use Rattle.std.proofs.Math.Bool.{true, false, and-eq-true_iff}
use mathlib.Core.List.{List, [], ◌∷◌}
use Rattle.std.proofs.Math.Option.{Option, none, some, bind, map}
use Rattle.std.proofs.lemmas.Bool.{eqb-false}
use Rattle.text.specs.Ascii.{ascii}
use Rattle.text.specs.CaseLaws.{by-test}
use Rattle.text.specs.Order.{same_bytes, none_twice}
use Rattle.text.specs.Reader.{or_else}
use Rattle.text.specs.Utf8.{is_utf8}
use Rattle.sheet.specs.Entries.{max_text}
use Rattle.sheet.specs.Operators.{Operator, Shape, shape_of, InShape, operator_count, operators, first_operator, row}
use Rattle.sheet.specs.Operators as Operators
use Rattle.sheet.proofs.OperatorLaws.{shape_by_tests, shape-tests}
use Rattle.sheet.specs.Within.{TextWithin, OptionWithin}
use Rattle.json_text.specs.Distinct.{keys_of, distinct, distinct_elements, distinct_members}
use Rattle.json_text.specs.Grammar.{document}
use Rattle.json_text.specs.Json.{Text, Json, null, truth, number, string, array, object, Elements, no_elements, element, Members, no_members, member}
use Rattle.json_text.specs.Sound.{Sound, SoundElements, SoundMembers}
use Rattle.definition.specs.Decode as Decode
use Rattle.definition.proofs.KeyLaws.{none-twice-differ}
use Rattle.definition.specs.Limits.{max_condition_nesting, max_value_nesting}
use Rattle.definition.specs.Tree.{Value, Values, no_values, value, Pairs, no_pairs, pair, Condition, literal, many, negation, one, two, comparison, quantifier, Conditions, no_conditions, condition, Rule, rule, template}
use Rattle.definition.specs.Tree as Tree
use Rattle.definition.specs.Within.{value_entries, condition_entries, value_nesting, values_nesting, pairs_nesting, condition_nesting, conditions_nesting, ValueFits, ValuesFit, PairsFit, OperandFits, ConditionFits, ConditionsFit, RuleFits}
use Rattle.json_rule.specs.Shape.{value_of, values_of, pairs_of, number_of, operator_of, place_in, comparison_names, comparison_of, Part, left, which, right, over, bound, body, as_left, as_which, as_right, as_over, as_bound, as_body, first_of, comparison_from, quantifier_from, which_of, bound_of, comparison_part, quantifier_part, comparison_parts, comparison_in, two_from, listed, two_in, conditions_from, the_only, operation, condition_of, operations, children_of, conditions_of, parts_of, quantifier_parts, RulePart, asserts, names, says, as_assert, as_name, as_message, optional_of, rule_part, rule_parts, rule_from, rule_of}
use Rattle.json_rule.specs.Conversion.{rule_in}
use Rattle.conversion.specs.Numbered.{numbered_value, numbered_values, numbered_pairs, numbered_condition, numbered_conditions, numbered_rule, longest_of_value, longest_of_values, longest_of_pairs, longest_of_condition, longest_of_conditions, length_of, longest_text, deepest_of_condition, deepest_of_conditions, deepest_value, deepest_condition, KeepsLimits}
use Rattle.conversion.specs.SoundLaws.{Holds, holds-cond, holds-is, holds-map, document-sound, number-utf8}

-- JSON that is sound and has no key twice

abbrev Proper : Json → Type 0
Proper j = Sound j × (distinct j ≡ true)

abbrev ProperElements : Elements → Type 0
ProperElements vs = SoundElements vs × (distinct_elements vs ≡ true)

abbrev ProperMembers : Members → Type 0
ProperMembers ms = SoundMembers ms × (distinct_members ms ≡ true)

element-parts : (v : Json) (others : Elements) → ProperElements (element v others) → Proper v × ProperElements others
unfolding distinct_elements
element-parts v others h =
    let d = (and-eq-true_iff (distinct v) (distinct_elements others)).0 h.1 in
    ((h.0.0, d.0), (h.0.1, d.1))

member-parts : (key : Text) (v : Json) (others : Members) → ProperMembers (member key v others) → Proper v × ProperMembers others
unfolding distinct_members
member-parts key v others h =
    let d = (and-eq-true_iff (distinct v) (distinct_members others)).0 h.1 in
    ((h.0.1.0, d.0), (h.0.1.1, d.1))

array_parts : (vs : Elements) → Proper (array vs) → ProperElements vs
unfolding distinct
array_parts vs h = h

object-keys : (ms : Members) → Proper (object ms) → none_twice (keys_of ms) ≡ true
unfolding distinct
object-keys ms h = ((and-eq-true_iff (none_twice (keys_of ms)) (distinct_members ms)).0 h.1).0

object-parts : (ms : Members) → Proper (object ms) → ProperMembers ms
unfolding distinct
object-parts ms h = (h.0, ((and-eq-true_iff (none_twice (keys_of ms)) (distinct_members ms)).0 h.1).1)

-- Values

max-left : (a b n : ℕ) → max a b ≤ n → a ≤ n
max-left a b n h = omega arith

max-right : (a b n : ℕ) → max a b ≤ n → b ≤ n
max-right a b n h = omega arith

within : (t : Text) → length t ≤ max_text → is_utf8 t ≡ true → TextWithin t
within t s u = record { short = s; utf8 = u }

numbered-keys : (n : ℕ) (ms : Members) → Decode.keys_of (numbered_pairs n (pairs_of ms)) ≡ keys_of ms
unfolding pairs_of numbered_pairs Decode.keys_of keys_of
numbered-keys n no_members = refl
numbered-keys n (member key v others) = ap (λ (keys : List Text). key ∷ keys) (numbered-keys (n + 1 + value_entries (value_of v)) others)

mutual
  unfolding value_of values_of pairs_of numbered_value numbered_values numbered_pairs longest_of_value longest_of_values longest_of_pairs

  value-fits : (n : ℕ) (j : Json) → Proper j → longest_of_value (value_of j) ≤ max_text → ValueFits (numbered_value n (value_of j))
  value-fits n null h l = (omega arith, omega arith)
  value-fits n (truth false) h l = (omega arith, omega arith)
  value-fits n (truth true) h l = (omega arith, omega arith)
  value-fits n (number t) h l = (within t l (number-utf8 t h.0), h.0)
  value-fits n (string t) h l = within t l h.0
  value-fits n (array vs) h l = values-fit (n + 1) vs (array_parts vs h) l
  value-fits n (object ms) h l =
      (none-twice-differ (numbered_pairs (n + 1) (pairs_of ms)) (ap none_twice (numbered-keys (n + 1) ms) ∙ object-keys ms h), pairs-fit (n + 1) ms (object-parts ms h) l)

  values-fit : (n : ℕ) (vs : Elements) → ProperElements vs → longest_of_values (values_of vs) ≤ max_text → ValuesFit (numbered_values n (values_of vs))
  values-fit n no_elements h l = tt
  values-fit n (element v others) h l =
      let p = element-parts v others h in (
        value-fits n v p.0 (max-left (longest_of_value (value_of v)) (longest_of_values (values_of others)) max_text l),
        values-fit (n + value_entries (value_of v)) others p.1 (max-right (longest_of_value (value_of v)) (longest_of_values (values_of others)) max_text l),
      )

  pairs-fit : (n : ℕ) (ms : Members) → ProperMembers ms → longest_of_pairs (pairs_of ms) ≤ max_text → PairsFit (numbered_pairs n (pairs_of ms))
  pairs-fit n no_members h l = tt
  pairs-fit n (member key v others) h l =
      let p = member-parts key v others h in
      let rest = max-right (length key) (max (longest_of_value (value_of v)) (longest_of_pairs (pairs_of others))) max_text l in (
        within key (max-left (length key) (max (longest_of_value (value_of v)) (longest_of_pairs (pairs_of others))) max_text l) h.0.0,
        value-fits (n + 1) v p.0 (max-left (longest_of_value (value_of v)) (longest_of_pairs (pairs_of others)) max_text rest),
        pairs-fit (n + 1 + value_entries (value_of v)) others p.1 (max-right (longest_of_value (value_of v)) (longest_of_pairs (pairs_of others)) max_text rest),
      )

mutual
  unfolding numbered_value numbered_values numbered_pairs value_nesting values_nesting pairs_nesting

  nesting-same : (n : ℕ) (v : Value) → value_nesting (numbered_value n v) ≡ value_nesting v
  nesting-same n (Tree.constant e type) = refl
  nesting-same n (Tree.number e digits) = refl
  nesting-same n (Tree.string e text) = refl
  nesting-same n (Tree.array e vs) = rw (values-nesting (n + 1) vs)
  nesting-same n (Tree.object e ps) = rw (pairs-nesting (n + 1) ps)

  values-nesting : (n : ℕ) (vs : Values) → values_nesting (numbered_values n vs) ≡ values_nesting vs
  values-nesting n no_values = refl
  values-nesting n (value v others) = rw (nesting-same n v, values-nesting (n + value_entries v) others)

  pairs-nesting : (n : ℕ) (ps : Pairs) → pairs_nesting (numbered_pairs n ps) ≡ pairs_nesting ps
  pairs-nesting n no_pairs = refl
  pairs-nesting n (pair key v others) = rw (nesting-same (n + 1) v, pairs-nesting (n + 1 + value_entries v) others)

-- a value that such JSON stands for
record Stands (v : Value) : Type 0 where
  json : Json
  proper : Proper json
  is : value_of json ≡ v

stands : (j : Json) → Proper j → Stands (value_of j)
stands j h = record { json = j; proper = h; is = refl }

operand-fits : (n : ℕ) (v : Value) → Stands v → longest_of_value v ≤ max_text → value_nesting v ≤ max_value_nesting → OperandFits (numbered_value n v)
operand-fits n v s l d =
    record {
      nesting = subst (λ (k : ℕ). k ≤ max_value_nesting) (sym (nesting-same n v)) d;
      fits =
          subst (λ (x : Value). ValueFits (numbered_value n x)) s.is
          (value-fits n s.json s.proper (subst (λ (x : Value). longest_of_value x ≤ max_text) (sym s.is) l));
    }

-- Names: those of operators and comparisons have the numbers that a sheet has

abbrev InOwnShape : ℕ → Shape → Type 0
InOwnShape op Operators.literal = Unit {0}
InOwnShape op Operators.many = InShape op Operators.many
InOwnShape op Operators.negation = Unit {0}
InOwnShape op Operators.one = InShape op Operators.one
InOwnShape op Operators.two = InShape op Operators.two
InOwnShape op Operators.comparison = Unit {0}
InOwnShape op Operators.quantifier = InShape op Operators.quantifier

own-shape : (op : ℕ) → op ≤ operator_count → InOwnShape op (shape_of op)
unfolding shape_by_tests
own-shape op h =
    rw (shape-tests op)
    (by-test (leb op 1) (λ q. rw q tt) λ q₁.
    let l₁ = leb-false op 1 q₁ in
    rw q₁
    (by-test (leb op 3) (λ q. let l = leb-true op 3 q in rw q (omega arith, l)) λ q₃.
    let l₃ = leb-false op 3 q₃ in
    rw q₃
    (by-test (leb op 4) (λ q. rw q tt) λ q₄.
    let l₄ = leb-false op 4 q₄ in
    rw q₄
    (by-test (leb op 5) (λ q. let l = leb-true op 5 q in rw q (inl (omega arith))) λ q₅.
    let l₅ = leb-false op 5 q₅ in
    rw q₅
    (by-test (leb op 17) (λ q. let l = leb-true op 17 q in rw q (omega arith, l)) λ q₁₇.
    let l₁₇ = leb-false op 17 q₁₇ in
    rw q₁₇
    (by-test (leb op 18) (λ q. rw q tt) λ q₁₈.
    let l₁₈ = leb-false op 18 q₁₈ in
    rw q₁₈
    (by-test (leb op 19) (λ q. let l = leb-true op 19 q in rw q (inr (omega arith))) λ q₁₉.
    let l₁₉ = leb-false op 19 q₁₉ in
    rw q₁₉ (omega arith, h))))))))

unfoldable rows_low : List Operator → Bool
rows_low [] = true
rows_low (r ∷ rows) = leb r.number operator_count && rows_low rows

rows-low : rows_low operators ≡ true
unfolding rows_low operators first_operator row ascii
rows-low = refl

number-low : (t : Text) (rows : List Operator) → rows_low rows ≡ true → number_of t rows ≤ operator_count
unfolding number_of rows_low
number-low t [] h = omega arith
number-low t (r ∷ rows) h =
    let d = (and-eq-true_iff (leb r.number operator_count) (rows_low rows)).0 h in
    let first = leb-true r.number operator_count d.0 in
    let rest = number-low t rows d.1 in
    by-test (same_bytes t r.name) (λ e. rw e first) (λ e. rw e rest)

operator-low : (t : Text) → operator_of t ≤ operator_count
unfolding operator_of
operator-low t = number-low t operators rows-low

place-below : (n : ℕ) (t : Text) (list : List Text) → 0 < n → place_in n t list < n + length list
unfolding place_in
place-below n t [] h = omega arith
place-below n t (first ∷ others) h =
    let later = place-below (n + 1) t others (omega arith) in
    by-test (same_bytes t first) (λ e. rw e (omega arith)) (λ e. rw e (omega arith))

six-names : length comparison_names ≡ 6
unfolding comparison_names
six-names = refl

comparison-low : (t : Text) → comparison_of t ≤ 6
unfolding comparison_of
comparison-low t = let l = place-below 1 t comparison_names (omega arith) in let six = six-names in omega arith

-- Conditions

abbrev mutual
  Sane : Condition → Type 0
  Sane (literal e t) = Unit {0}
  Sane (many e op children) = InShape op Operators.many × AllSane children
  Sane (negation e child) = Sane child
  Sane (one e op v) = InShape op Operators.one × Stands v
  Sane (two e op l r) = InShape op Operators.two × Stands l × Stands r
  Sane (comparison e n l r) = ((1 ≤ n) × (n ≤ 6)) × Stands l × Stands r
  Sane (quantifier e op name v c) = InShape op Operators.quantifier × (is_utf8 name ≡ true) × Stands v × Sane c

  AllSane : Conditions → Type 0
  AllSane no_conditions = Unit {0}
  AllSane (condition c others) = Sane c × AllSane others

module _ (m n : ℕ) (l r : Value) (p : Stands l) (q : Stands r) where
  both-fit : max (longest_of_value l) (longest_of_value r) ≤ max_text → max (value_nesting l) (value_nesting r) ≤ max_value_nesting
      → OperandFits (numbered_value m l) × OperandFits (numbered_value n r)
  both-fit t d = (
    operand-fits m l p (max-left (longest_of_value l) (longest_of_value r) max_text t) (max-left (value_nesting l) (value_nesting r) max_value_nesting d),
    operand-fits n r q (max-right (longest_of_value l) (longest_of_value r) max_text t) (max-right (value_nesting l) (value_nesting r) max_value_nesting d),
  )

mutual
  unfolding numbered_condition numbered_conditions longest_of_condition longest_of_conditions deepest_of_condition deepest_of_conditions

  condition-fits : (n : ℕ) (c : Condition) → Sane c → longest_of_condition c ≤ max_text → deepest_of_condition c ≤ max_value_nesting → ConditionFits (numbered_condition n c)
  condition-fits n (literal e t) h l d = tt
  condition-fits n (many e op children) h l d = (h.0, conditions-fit (n + 1) children h.1 l d)
  condition-fits n (negation e child) h l d = condition-fits (n + 1) child h l d
  condition-fits n (one e op v) h l d = (h.0, operand-fits (n + 1) v h.1 l d)
  condition-fits n (two e op x y) h l d = let b = both-fit (n + 1) (n + 1 + value_entries x) x y h.1 h.2 l d in (h.0, b.0, b.1)
  condition-fits n (comparison e k x y) h l d = let b = both-fit (n + 1) (n + 1 + value_entries x) x y h.1 h.2 l d in (h.0, b.0, b.1)
  condition-fits n (quantifier e op name v c) h l d =
      let rest = max-right (length name) (max (longest_of_value v) (longest_of_condition c)) max_text l in (
        h.0,
        within name (max-left (length name) (max (longest_of_value v) (longest_of_condition c)) max_text l) h.1,
        operand-fits (n + 1) v h.2 (max-left (longest_of_value v) (longest_of_condition c) max_text rest) (max-left (value_nesting v) (deepest_of_condition c) max_value_nesting d),
        condition-fits (n + 1 + value_entries v) c h.3 (max-right (longest_of_value v) (longest_of_condition c) max_text rest) (max-right (value_nesting v) (deepest_of_condition c) max_value_nesting d),
      )

  conditions-fit : (n : ℕ) (cs : Conditions) → AllSane cs → longest_of_conditions cs ≤ max_text → deepest_of_conditions cs ≤ max_value_nesting → ConditionsFit (numbered_conditions n cs)
  conditions-fit n no_conditions h l d = tt
  conditions-fit n (condition c others) h l d = (
    condition-fits n c h.0 (max-left (longest_of_condition c) (longest_of_conditions others) max_text l) (max-left (deepest_of_condition c) (deepest_of_conditions others) max_value_nesting d),
    conditions-fit (n + condition_entries c) others h.1 (max-right (longest_of_condition c) (longest_of_conditions others) max_text l)
        (max-right (deepest_of_condition c) (deepest_of_conditions others) max_value_nesting d),
  )

mutual
  unfolding numbered_condition numbered_conditions condition_nesting conditions_nesting

  condition-nesting : (n : ℕ) (c : Condition) → condition_nesting (numbered_condition n c) ≡ condition_nesting c
  condition-nesting n (literal e t) = refl
  condition-nesting n (many e op children) = rw (conditions-nesting (n + 1) children)
  condition-nesting n (negation e child) = rw (condition-nesting (n + 1) child)
  condition-nesting n (one e op v) = refl
  condition-nesting n (two e op l r) = refl
  condition-nesting n (comparison e k l r) = refl
  condition-nesting n (quantifier e op name v c) = rw (condition-nesting (n + 1 + value_entries v) c)

  conditions-nesting : (n : ℕ) (cs : Conditions) → conditions_nesting (numbered_conditions n cs) ≡ conditions_nesting cs
  conditions-nesting n no_conditions = refl
  conditions-nesting n (condition c others) = rw (condition-nesting n c, conditions-nesting (n + condition_entries c) others)

-- What JSON stands for: all of a list, the first of a kind, all of three

abbrev Each : {A : Type 0} → (A → Type 0) → List A → Type 0
Each P [] = Unit {0}
Each P (a ∷ others) = P a × Each P others

module _ {A B : Type 0} (P : A → Type 0) (Q : B → Type 0) where
  holds-bind : (o : Option A) (f : A → Option B) → Holds P o → ((a : A) → P a → Holds Q (f a)) → Holds Q (bind o f)
  unfolding bind
  holds-bind none f h k = tt
  holds-bind (some a) f h k = k a h

  holds-first : (f : A → Option B) (xs : List A) → ((a : A) → P a → Holds Q (f a)) → Each P xs → Holds Q (first_of f xs)
  unfolding first_of or_else
  holds-first f [] k h = tt
  holds-first f (a ∷ others) k h = go (f a) (k a h.0) (holds-first f others k h.1)
    where
      go : (o : Option B) → Holds Q o → Holds Q (first_of f others) → Holds Q (or_else o (first_of f others))
      go none x y = y
      go (some b) x y = x

holds-both : {A : Type 0} (P : A → Type 0) (o : Option A) (os : Option (List A)) → Holds P o → Holds (Each P) os
    → Holds (Each P) (bind o (λ a. map (λ (others : List A). a ∷ others) os))
holds-both {A} P o os h g =
    holds-bind P (Each P) o (λ a. map (λ (others : List A). a ∷ others) os) h λ a p.
    holds-map (Each P) (Each P) os (λ (others : List A). a ∷ others) g λ others q. (p, q)

holds-one : {A : Type 0} (P : A → Type 0) (b c d : Bool) (x y z : Option A) → Holds P x → Holds P y → Holds P z → Holds P (cond b x (cond c y (cond d z none)))
holds-one P b c d x y z h g k = holds-cond P b x (cond c y (cond d z none)) h (holds-cond P c y (cond d z none) g (holds-cond P d z none k tt))

module _ {A B C D : Type 0} (P : A → Type 0) (Q : B → Type 0) (R : C → Type 0) (S : D → Type 0) where
  holds-all : (test : Bool) (x : Option A) (y : Option B) (z : Option C) (f : A → B → C → D) → Holds P x → Holds Q y → Holds R z
      → ((a : A) (b : B) (c : C) → P a → Q b → R c → S (f a b c)) → Holds S (cond test (bind x (λ a. bind y (λ b. bind z (λ c. some (f a b c))))) none)
  unfolding bind
  holds-all false x y z f h g k m = tt
  holds-all true none y z f h g k m = tt
  holds-all true (some a) none z f h g k m = tt
  holds-all true (some a) (some b) none f h g k m = tt
  holds-all true (some a) (some b) (some c) f h g k m = m a b c h g k

-- Parts

abbrev IsComparison : ℕ → Type 0
IsComparison n = (1 ≤ n) × (n ≤ 6)

abbrev InUtf8 : Text → Type 0
InUtf8 t = is_utf8 t ≡ true

abbrev PartSane : Part → Type 0
PartSane (left v) = Stands v
PartSane (which n) = IsComparison n
PartSane (right v) = Stands v
PartSane (over v) = Stands v
PartSane (bound name) = InUtf8 name
PartSane (body c) = Sane c

left-stands : (p : Part) → PartSane p → Holds Stands (as_left p)
unfolding as_left
left-stands (left v) h = h
left-stands (which n) h = tt
left-stands (right v) h = tt
left-stands (over v) h = tt
left-stands (bound name) h = tt
left-stands (body c) h = tt

which-compares : (p : Part) → PartSane p → Holds IsComparison (as_which p)
unfolding as_which
which-compares (left v) h = tt
which-compares (which n) h = h
which-compares (right v) h = tt
which-compares (over v) h = tt
which-compares (bound name) h = tt
which-compares (body c) h = tt

right-stands : (p : Part) → PartSane p → Holds Stands (as_right p)
unfolding as_right
right-stands (left v) h = tt
right-stands (which n) h = tt
right-stands (right v) h = h
right-stands (over v) h = tt
right-stands (bound name) h = tt
right-stands (body c) h = tt

over-stands : (p : Part) → PartSane p → Holds Stands (as_over p)
unfolding as_over
over-stands (left v) h = tt
over-stands (which n) h = tt
over-stands (right v) h = tt
over-stands (over v) h = h
over-stands (bound name) h = tt
over-stands (body c) h = tt

bound-utf8 : (p : Part) → PartSane p → Holds InUtf8 (as_bound p)
unfolding as_bound
bound-utf8 (left v) h = tt
bound-utf8 (which n) h = tt
bound-utf8 (right v) h = tt
bound-utf8 (over v) h = tt
bound-utf8 (bound name) h = h
bound-utf8 (body c) h = tt

body-sane : (p : Part) → PartSane p → Holds Sane (as_body p)
unfolding as_body
body-sane (left v) h = tt
body-sane (which n) h = tt
body-sane (right v) h = tt
body-sane (over v) h = tt
body-sane (bound name) h = tt
body-sane (body c) h = h

comparison-from : (parts : List Part) → Each PartSane parts → Holds Sane (comparison_from parts)
unfolding comparison_from
comparison-from parts h =
    holds-all Stands IsComparison Stands Sane (eqb (length parts) 3) (first_of as_left parts) (first_of as_which parts) (first_of as_right parts) (λ l n r. comparison 0 n l r)
    (holds-first PartSane Stands as_left parts left-stands h) (holds-first PartSane IsComparison as_which parts which-compares h) (holds-first PartSane Stands as_right parts right-stands h)
    (λ l n r p k q. (k, p, q))

quantifier-from : (op : ℕ) (parts : List Part) → InShape op Operators.quantifier → Each PartSane parts → Holds Sane (quantifier_from op parts)
unfolding quantifier_from
quantifier-from op parts s h =
    holds-all Stands InUtf8 Sane Sane (eqb (length parts) 3) (first_of as_over parts) (first_of as_bound parts) (first_of as_body parts) (λ v name c. quantifier 0 op name v c)
    (holds-first PartSane Stands as_over parts over-stands h) (holds-first PartSane InUtf8 as_bound parts bound-utf8 h) (holds-first PartSane Sane as_body parts body-sane h)
    (λ v name c p u q. (s, u, p, q))

which-sane : (v : Json) → Holds PartSane (which_of v)
unfolding which_of
which-sane null = tt
which-sane (truth b) = tt
which-sane (number digits) = tt
which-sane (string t) =
    by-test (eqb (comparison_of t) 0) (λ e. rw e tt) λ e.
    let low = comparison-low t in
    let other = eqb-false (comparison_of t) 0 e in
    rw e (omega arith, low)
which-sane (array vs) = tt
which-sane (object ms) = tt

bound-sane : (v : Json) → Proper v → Holds PartSane (bound_of v)
unfolding bound_of
bound-sane null h = tt
bound-sane (truth b) h = tt
bound-sane (number digits) h = tt
bound-sane (string t) h = h.0
bound-sane (array vs) h = tt
bound-sane (object ms) h = tt

comparison-part : (key : Text) (v : Json) → Proper v → Holds PartSane (comparison_part key v)
unfolding comparison_part
comparison-part key v h =
    holds-one PartSane (same_bytes key (ascii "left")) (same_bytes key (ascii "op")) (same_bytes key (ascii "right"))
    (some (left (value_of v))) (which_of v) (some (right (value_of v))) (stands v h) (which-sane v) (stands v h)

quantifier-part : (c : Option Condition) (key : Text) (v : Json) → Proper v → Holds Sane c → Holds PartSane (quantifier_part c key v)
unfolding quantifier_part
quantifier-part c key v h k =
    holds-one PartSane (same_bytes key (ascii "in")) (same_bytes key (ascii "as")) (same_bytes key (ascii "that"))
    (some (over (value_of v))) (bound_of v) (map body c) (stands v h) (bound-sane v h) (holds-map Sane PartSane c body k (λ x g. g))

comparison-parts : (ms : Members) → ProperMembers ms → Holds (Each PartSane) (comparison_parts ms)
unfolding comparison_parts
comparison-parts no_members h = tt
comparison-parts (member key v others) h =
    let p = member-parts key v others h in
    holds-both PartSane (comparison_part key v) (comparison_parts others) (comparison-part key v p.0) (comparison-parts others p.1)

comparison-in : (v : Json) → Proper v → Holds Sane (comparison_in v)
unfolding comparison_in
comparison-in null h = tt
comparison-in (truth b) h = tt
comparison-in (number digits) h = tt
comparison-in (string t) h = tt
comparison-in (array vs) h = tt
comparison-in (object ms) h = holds-bind (Each PartSane) Sane (comparison_parts ms) comparison_from (comparison-parts ms (object-parts ms h)) comparison-from

two-from : (op : ℕ) (vs : List Value) → InShape op Operators.two → Each Stands vs → Holds Sane (two_from op vs)
unfolding two_from
two-from op [] s h = tt
two-from op (l ∷ []) s h = tt
two-from op (l ∷ r ∷ []) s h = (s, h.0, h.1.0)
two-from op (l ∷ r ∷ v ∷ vs) s h = tt

listed-stand : (vs : Elements) → ProperElements vs → Each Stands (listed vs)
unfolding listed
listed-stand no_elements h = tt
listed-stand (element v others) h = let p = element-parts v others h in (stands v p.0, listed-stand others p.1)

two-in : (op : ℕ) (v : Json) → InShape op Operators.two → Proper v → Holds Sane (two_in op v)
unfolding two_in
two-in op null s h = tt
two-in op (truth b) s h = tt
two-in op (number digits) s h = tt
two-in op (string t) s h = tt
two-in op (array vs) s h = two-from op (listed vs) s (listed-stand vs (array_parts vs h))
two-in op (object ms) s h = tt

-- JSON as conditions

from-sane : (cs : List Condition) → Each Sane cs → AllSane (conditions_from cs)
unfolding conditions_from
from-sane [] h = tt
from-sane (c ∷ cs) h = (h.0, from-sane cs h.1)

only-sane : (cs : List Condition) → Each Sane cs → Holds Sane (the_only cs)
unfolding the_only
only-sane [] h = tt
only-sane (c ∷ []) h = h.0
only-sane (c ∷ d ∷ others) h = tt

operation-sane : (shape : Shape) (op : ℕ) (v : Json) (c : Option Condition) (cs : Option (List Condition)) (ps : Option (List Part)) → InOwnShape op shape → Proper v
    → Holds Sane c → Holds (Each Sane) cs → Holds (Each PartSane) ps → Holds Sane (operation shape op v c cs ps)
unfolding operation
operation-sane Operators.literal op v c cs ps s p h g k = tt
operation-sane Operators.many op v c cs ps s p h g k =
    holds-map (Each Sane) Sane cs (λ (xs : List Condition). many 0 op (conditions_from xs)) g λ xs q. (s, from-sane xs q)
operation-sane Operators.negation op v c cs ps s p h g k = holds-map Sane Sane c (negation 0) h λ x q. q
operation-sane Operators.one op v c cs ps s p h g k = (s, stands v p)
operation-sane Operators.two op v c cs ps s p h g k = two-in op v s p
operation-sane Operators.comparison op v c cs ps s p h g k = comparison-in v p
operation-sane Operators.quantifier op v c cs ps s p h g k =
    holds-bind (Each PartSane) Sane ps (quantifier_from op) k λ parts q. quantifier-from op parts s q

mutual
  unfolding condition_of operations children_of conditions_of parts_of quantifier_parts

  condition-sane : (j : Json) → Proper j → Holds Sane (condition_of j)
  condition-sane null h = tt
  condition-sane (truth b) h = tt
  condition-sane (number digits) h = tt
  condition-sane (string t) h = tt
  condition-sane (array vs) h = tt
  condition-sane (object ms) h = holds-bind (Each Sane) Sane (operations ms) the_only (operations-sane ms (object-parts ms h)) only-sane

  operations-sane : (ms : Members) → ProperMembers ms → Holds (Each Sane) (operations ms)
  operations-sane no_members h = tt
  operations-sane (member key v others) h =
      let p = member-parts key v others h in
      holds-both Sane (operation (shape_of (operator_of key)) (operator_of key) v (condition_of v) (children_of v) (parts_of v)) (operations others)
      (operation-sane (shape_of (operator_of key)) (operator_of key) v (condition_of v) (children_of v) (parts_of v) (own-shape (operator_of key) (operator-low key)) p.0
      (condition-sane v p.0) (children-sane v p.0) (parts-sane v p.0))
      (operations-sane others p.1)

  children-sane : (j : Json) → Proper j → Holds (Each Sane) (children_of j)
  children-sane null h = tt
  children-sane (truth b) h = tt
  children-sane (number digits) h = tt
  children-sane (string t) h = tt
  children-sane (array vs) h = conditions-sane vs (array_parts vs h)
  children-sane (object ms) h = tt

  conditions-sane : (vs : Elements) → ProperElements vs → Holds (Each Sane) (conditions_of vs)
  conditions-sane no_elements h = tt
  conditions-sane (element v others) h =
      let p = element-parts v others h in
      holds-both Sane (condition_of v) (conditions_of others) (condition-sane v p.0) (conditions-sane others p.1)

  parts-sane : (j : Json) → Proper j → Holds (Each PartSane) (parts_of j)
  parts-sane null h = tt
  parts-sane (truth b) h = tt
  parts-sane (number digits) h = tt
  parts-sane (string t) h = tt
  parts-sane (array vs) h = tt
  parts-sane (object ms) h = quantifier-parts ms (object-parts ms h)

  quantifier-parts : (ms : Members) → ProperMembers ms → Holds (Each PartSane) (quantifier_parts ms)
  quantifier-parts no_members h = tt
  quantifier-parts (member key v others) h =
      let p = member-parts key v others h in
      holds-both PartSane (quantifier_part (condition_of v) key v) (quantifier_parts others) (quantifier-part (condition_of v) key v p.0 (condition-sane v p.0))
      (quantifier-parts others p.1)

-- Rules

abbrev RuleSane : Rule → Type 0
RuleSane (rule name message assert) = Holds InUtf8 name × Holds InUtf8 message × Sane assert
RuleSane (template v) = Stands v

abbrev RulePartSane : RulePart → Type 0
RulePartSane (asserts c) = Sane c
RulePartSane (names t) = Holds InUtf8 t
RulePartSane (says t) = Holds InUtf8 t

assert-sane : (p : RulePart) → RulePartSane p → Holds Sane (as_assert p)
unfolding as_assert
assert-sane (asserts c) h = h
assert-sane (names t) h = tt
assert-sane (says t) h = tt

name-utf8 : (p : RulePart) → RulePartSane p → Holds InUtf8 (as_name p)
unfolding as_name
name-utf8 (asserts c) h = tt
name-utf8 (names t) h = h
name-utf8 (says t) h = tt

message-utf8 : (p : RulePart) → RulePartSane p → Holds InUtf8 (as_message p)
unfolding as_message
message-utf8 (asserts c) h = tt
message-utf8 (names t) h = tt
message-utf8 (says t) h = h

optional-utf8 : (v : Json) → Proper v → Holds (Holds InUtf8) (optional_of v)
unfolding optional_of
optional-utf8 null h = tt
optional-utf8 (truth b) h = tt
optional-utf8 (number digits) h = tt
optional-utf8 (string t) h = h.0
optional-utf8 (array vs) h = tt
optional-utf8 (object ms) h = tt

rule-part : (key : Text) (v : Json) → Proper v → Holds RulePartSane (rule_part key v)
unfolding rule_part
rule-part key v h =
    holds-one RulePartSane (same_bytes key (ascii "name")) (same_bytes key (ascii "assert")) (same_bytes key (ascii "message"))
    (map names (optional_of v)) (map asserts (condition_of v)) (map says (optional_of v))
    (holds-map (Holds InUtf8) RulePartSane (optional_of v) names (optional-utf8 v h) (λ t k. k))
    (holds-map Sane RulePartSane (condition_of v) asserts (condition-sane v h) (λ c k. k))
    (holds-map (Holds InUtf8) RulePartSane (optional_of v) says (optional-utf8 v h) (λ t k. k))

rule-parts : (ms : Members) → ProperMembers ms → Holds (Each RulePartSane) (rule_parts ms)
unfolding rule_parts
rule-parts no_members h = tt
rule-parts (member key v others) h =
    let p = member-parts key v others h in
    holds-both RulePartSane (rule_part key v) (rule_parts others) (rule-part key v p.0) (rule-parts others p.1)

rule-from : (parts : List RulePart) → Each RulePartSane parts → Holds RuleSane (rule_from parts)
unfolding rule_from
rule-from parts h =
    holds-map Sane RuleSane (first_of as_assert parts) (rule (first_of as_name parts) (first_of as_message parts))
    (holds-first RulePartSane Sane as_assert parts assert-sane h)
    λ c q. (holds-first RulePartSane InUtf8 as_name parts name-utf8 h, holds-first RulePartSane InUtf8 as_message parts message-utf8 h, q)

rule-sane : (j : Json) → Proper j → Holds RuleSane (rule_of j)
unfolding rule_of
rule-sane null h = tt
rule-sane (truth b) h = tt
rule-sane (number digits) h = tt
rule-sane (string t) h = tt
rule-sane (array vs) h = tt
rule-sane (object ms) h =
    holds-cond RuleSane (none_twice (keys_of ms)) (bind (rule_parts ms) rule_from) none
    (holds-bind (Each RulePartSane) RuleSane (rule_parts ms) rule_from (rule-parts ms (object-parts ms h)) rule-from) tt

text-sane : (text : List ℕ) → Holds RuleSane (rule_in text)
unfolding rule_in bind
text-sane text = go (document text) refl
  where
    of : (j : Json) → document text ≡ some j → (b : Bool) → distinct j ≡ b → Holds RuleSane (cond b (rule_of j) none)
    of j e true d = rule-sane j (document-sound text j e, d)
    of j e false d = tt

    go : (o : Option Json) → document text ≡ o → Holds RuleSane (bind o (λ (j : Json). cond (distinct j) (rule_of j) none))
    go none e = tt
    go (some j) e = of j e (distinct j) refl

option-within : (t : Option Text) → Holds InUtf8 t → length_of t ≤ max_text → OptionWithin t
unfolding length_of
option-within none h l = tt
option-within (some t) h l = within t l h

sane-fits : (r : Rule) → RuleSane r → KeepsLimits r → RuleFits (numbered_rule r)
unfolding numbered_rule longest_text deepest_condition deepest_value
sane-fits (rule name message assert) h k =
    let rest = max-right (length_of name) (max (length_of message) (longest_of_condition assert)) max_text k.texts in (
      option-within name h.0 (max-left (length_of name) (max (length_of message) (longest_of_condition assert)) max_text k.texts),
      option-within message h.1 (max-left (length_of message) (longest_of_condition assert) max_text rest),
      subst (λ (n : ℕ). n ≤ max_condition_nesting) (sym (condition-nesting 2 assert)) k.conditions,
      condition-fits 2 assert h.2 (max-right (length_of message) (longest_of_condition assert) max_text rest) k.values,
    )
sane-fits (template v) h k = operand-fits 2 v h k.texts k.values

-- the rule that a text is fits a sheet, if it keeps the limits
pub limits-fit : (text : List ℕ) (r : Rule) → rule_in text ≡ some r → KeepsLimits r → RuleFits (numbered_rule r)
limits-fit text r e k = sane-fits r (holds-is RuleSane (rule_in text) r e (text-sane text)) k
