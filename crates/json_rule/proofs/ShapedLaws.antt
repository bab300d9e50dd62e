-- The rules that JSON stands for are shaped as their sheets tell: each operator is one of its constructor's shape. So the rule that is read from the sheet of one is that rule.
use Rattle.std.specs.Prelude.{ℕ, Bool, cond, ◌≡◌, refl, eqb, length}
use Rattle.std.proofs.Math.Bool.{true, false}
use mathlib.Core.List.{List, [], ◌∷◌}
use Rattle.std.proofs.Math.Option.{Option, none, some, bind, map}
use Rattle.std.proofs.Common.{subst}
use Rattle.text.specs.Ascii.{ascii}
use Rattle.text.specs.Reader.{or_else}
use Rattle.text.specs.Order.{same_bytes, none_twice}
use Rattle.sheet.specs.Operators.{Shape, shape_of}
use Rattle.sheet.specs.Operators as Operators
use Rattle.json_text.specs.Distinct.{keys_of}
use Rattle.json_text.specs.Json.{Text, Json, null, truth, number, string, array, object, Elements, no_elements, element, Members, no_members, member}
use Rattle.definition.specs.Tree.{Value, Condition, many, negation, two, comparison, quantifier, Rule, rule, template}
use Rattle.definition.specs.Decode.{decode_rule}
use Rattle.definition.specs.Write.{write_rule}
use Rattle.definition.specs.Within.{RuleFits}
use Rattle.definition.proofs.RoundTrip.{rule-round-trip}
use Rattle.json_rule.specs.Shape.{value_of, comparison_of, Part, left, which, right, over, bound, body, as_left, as_which, as_right, as_over, as_bound, as_body, first_of, comparison_from, quantifier_from, which_of, bound_of, comparison_part, quantifier_part, comparison_parts, comparison_in, two_from, listed, two_in, conditions_from, the_only, operation, condition_of, operations, operator_of, children_of, conditions_of, parts_of, quantifier_parts, RulePart, asserts, names, says, as_assert, as_name, as_message, optional_of, rule_part, rule_parts, rule_from, rule_of}
use Rattle.json_rule.specs.Bare.{bare_rule}
use Rattle.json_rule.proofs.WritingLaws.{Known, Shaped, AllShaped, RuleShaped, json-known, fits-known, fits-shaped, rule-same}

-- What holds of an answer, if there is one, and of each in a list

abbrev Holds : {A : Type 0} → (A → Type 0) → Option A → Type 0
Holds P none = Unit {0}
Holds P (some a) = P a

abbrev Each : {A : Type 0} → (A → Type 0) → List A → Type 0
Each P [] = Unit {0}
Each P (a ∷ others) = P a × Each P others

module _ {A : Type 0} (P : A → Type 0) where
  holds-cond : (b : Bool) (x y : Option A) → Holds P x → Holds P y → Holds P (cond b x y)
  holds-cond true x y h g = h
  holds-cond false x y h g = g

  holds-else : (x y : Option A) → Holds P x → Holds P y → Holds P (or_else x y)
  unfolding or_else
  holds-else none y h g = g
  holds-else (some a) y h g = h

  holds-is : (o : Option A) (a : A) → o ≡ some a → Holds P o → P a
  holds-is o a e h = subst (λ (x : Option A). Holds P x) e h

module _ {A B : Type 0} (P : A → Type 0) (Q : B → Type 0) where
  holds-bind : (o : Option A) (f : A → Option B) → Holds P o → ((a : A) → P a → Holds Q (f a)) → Holds Q (bind o f)
  unfolding bind
  holds-bind none f h k = tt
  holds-bind (some a) f h k = k a h

  holds-map : (o : Option A) (f : A → B) → Holds P o → ((a : A) → P a → Q (f a)) → Holds Q (map f o)
  holds-map none f h k = tt
  holds-map (some a) f h k = k a h

  holds-first : (f : A → Option B) (xs : List A) → ((a : A) → P a → Holds Q (f a)) → Each P xs → Holds Q (first_of f xs)
  unfolding first_of
  holds-first f [] k h = tt
  holds-first f (a ∷ others) k h = holds-else Q (f a) (first_of f others) (k a h.0) (holds-first f others k h.1)

holds-both : {A : Type 0} (P : A → Type 0) (o : Option A) (os : Option (List A)) → Holds P o → Holds (Each P) os
    → Holds (Each P) (bind o (λ a. map (λ (others : List A). a ∷ others) os))
holds-both {A} P o os h g =
    holds-bind P (Each P) o (λ a. map (λ (others : List A). a ∷ others) os) h λ a p.
    holds-map (Each P) (Each P) os (λ (others : List A). a ∷ others) g λ others q. (p, q)

-- one of three, by tests
holds-one : {A : Type 0} (P : A → Type 0) (b c d : Bool) (x y z : Option A) → Holds P x → Holds P y → Holds P z → Holds P (cond b x (cond c y (cond d z none)))
holds-one P b c d x y z h g k = holds-cond P b x (cond c y (cond d z none)) h (holds-cond P c y (cond d z none) g (holds-cond P d z none k tt))

-- all of three, where a test holds
module _ {A B C D : Type 0} (P : A → Type 0) (Q : B → Type 0) (R : C → Type 0) (S : D → Type 0) where
  holds-all : (test : Bool) (x : Option A) (y : Option B) (z : Option C) (f : A → B → C → D) → Holds P x → Holds Q y → Holds R z
      → ((a : A) (b : B) (c : C) → P a → Q b → R c → S (f a b c)) → Holds S (cond test (bind x (λ a. bind y (λ b. bind z (λ c. some (f a b c))))) none)
  unfolding bind
  holds-all false x y z f h g k m = tt
  holds-all true none y z f h g k m = tt
  holds-all true (some a) none z f h g k m = tt
  holds-all true (some a) (some b) none f h g k m = tt
  holds-all true (some a) (some b) (some c) f h g k m = m a b c h g k

abbrev anything : {A : Type 0} → A → Type 0
anything a = Unit {0}

holds-any : {A : Type 0} (o : Option A) → Holds anything o
holds-any none = tt
holds-any (some a) = tt

-- Parts

abbrev PartShaped : Part → Type 0
PartShaped (left v) = Known v
PartShaped (which n) = Unit {0}
PartShaped (right v) = Known v
PartShaped (over v) = Known v
PartShaped (bound name) = Unit {0}
PartShaped (body c) = Shaped c

left-known : (p : Part) → PartShaped p → Holds Known (as_left p)
unfolding as_left
left-known (left v) h = h
left-known (which n) h = tt
left-known (right v) h = tt
left-known (over v) h = tt
left-known (bound name) h = tt
left-known (body c) h = tt

right-known : (p : Part) → PartShaped p → Holds Known (as_right p)
unfolding as_right
right-known (left v) h = tt
right-known (which n) h = tt
right-known (right v) h = h
right-known (over v) h = tt
right-known (bound name) h = tt
right-known (body c) h = tt

over-known : (p : Part) → PartShaped p → Holds Known (as_over p)
unfolding as_over
over-known (left v) h = tt
over-known (which n) h = tt
over-known (right v) h = tt
over-known (over v) h = h
over-known (bound name) h = tt
over-known (body c) h = tt

body-shaped : (p : Part) → PartShaped p → Holds Shaped (as_body p)
unfolding as_body
body-shaped (left v) h = tt
body-shaped (which n) h = tt
body-shaped (right v) h = tt
body-shaped (over v) h = tt
body-shaped (bound name) h = tt
body-shaped (body c) h = h

comparison-from : (parts : List Part) → Each PartShaped parts → Holds Shaped (comparison_from parts)
unfolding comparison_from
comparison-from parts h =
    holds-all Known anything Known Shaped (eqb (length parts) 3) (first_of as_left parts) (first_of as_which parts) (first_of as_right parts) (λ l n r. comparison 0 n l r)
    (holds-first PartShaped Known as_left parts left-known h) (holds-any (first_of as_which parts)) (holds-first PartShaped Known as_right parts right-known h)
    (λ l n r p _ q. (p, q))

quantifier-from : (op : ℕ) (parts : List Part) → shape_of op ≡ Operators.quantifier → Each PartShaped parts → Holds Shaped (quantifier_from op parts)
unfolding quantifier_from
quantifier-from op parts s h =
    holds-all Known anything Shaped Shaped (eqb (length parts) 3) (first_of as_over parts) (first_of as_bound parts) (first_of as_body parts) (λ v name c. quantifier 0 op name v c)
    (holds-first PartShaped Known as_over parts over-known h) (holds-any (first_of as_bound parts)) (holds-first PartShaped Shaped as_body parts body-shaped h)
    (λ v name c p _ q. (s, p, q))

which-shaped : (v : Json) → Holds PartShaped (which_of v)
unfolding which_of
which-shaped null = tt
which-shaped (truth b) = tt
which-shaped (number digits) = tt
which-shaped (string t) = holds-cond PartShaped (eqb (comparison_of t) 0) none (some (which (comparison_of t))) tt tt
which-shaped (array vs) = tt
which-shaped (object ms) = tt

bound-shaped : (v : Json) → Holds PartShaped (bound_of v)
unfolding bound_of
bound-shaped null = tt
bound-shaped (truth b) = tt
bound-shaped (number digits) = tt
bound-shaped (string t) = tt
bound-shaped (array vs) = tt
bound-shaped (object ms) = tt

comparison-part : (key : Text) (v : Json) → Holds PartShaped (comparison_part key v)
unfolding comparison_part
comparison-part key v =
    holds-one PartShaped (same_bytes key (ascii "left")) (same_bytes key (ascii "op")) (same_bytes key (ascii "right"))
    (some (left (value_of v))) (which_of v) (some (right (value_of v))) (json-known v) (which-shaped v) (json-known v)

quantifier-part : (c : Option Condition) (key : Text) (v : Json) → Holds Shaped c → Holds PartShaped (quantifier_part c key v)
unfolding quantifier_part
quantifier-part c key v h =
    holds-one PartShaped (same_bytes key (ascii "in")) (same_bytes key (ascii "as")) (same_bytes key (ascii "that"))
    (some (over (value_of v))) (bound_of v) (map body c) (json-known v) (bound-shaped v) (holds-map Shaped PartShaped c body h (λ x g. g))

comparison-parts : (ms : Members) → Holds (Each PartShaped) (comparison_parts ms)
unfolding comparison_parts
comparison-parts no_members = tt
comparison-parts (member key v others) = holds-both PartShaped (comparison_part key v) (comparison_parts others) (comparison-part key v) (comparison-parts others)

comparison-in : (v : Json) → Holds Shaped (comparison_in v)
unfolding comparison_in
comparison-in null = tt
comparison-in (truth b) = tt
comparison-in (number digits) = tt
comparison-in (string t) = tt
comparison-in (array vs) = tt
comparison-in (object ms) = holds-bind (Each PartShaped) Shaped (comparison_parts ms) comparison_from (comparison-parts ms) comparison-from

-- Conditions

two-from : (op : ℕ) (vs : List Value) → shape_of op ≡ Operators.two → Each Known vs → Holds Shaped (two_from op vs)
unfolding two_from
two-from op [] s h = tt
two-from op (l ∷ []) s h = tt
two-from op (l ∷ r ∷ []) s h = (s, h.0, h.1.0)
two-from op (l ∷ r ∷ v ∷ vs) s h = tt

listed-known : (vs : Elements) → Each Known (listed vs)
unfolding listed
listed-known no_elements = tt
listed-known (element v others) = (json-known v, listed-known others)

two-in : (op : ℕ) (v : Json) → shape_of op ≡ Operators.two → Holds Shaped (two_in op v)
unfolding two_in
two-in op null s = tt
two-in op (truth b) s = tt
two-in op (number digits) s = tt
two-in op (string t) s = tt
two-in op (array vs) s = two-from op (listed vs) s (listed-known vs)
two-in op (object ms) s = tt

from-shaped : (cs : List Condition) → Each Shaped cs → AllShaped (conditions_from cs)
unfolding conditions_from
from-shaped [] h = tt
from-shaped (c ∷ cs) h = (h.0, from-shaped cs h.1)

only-shaped : (cs : List Condition) → Each Shaped cs → Holds Shaped (the_only cs)
unfolding the_only
only-shaped [] h = tt
only-shaped (c ∷ []) h = h.0
only-shaped (c ∷ d ∷ others) h = tt

operation-shaped : (shape : Shape) (op : ℕ) (v : Json) (c : Option Condition) (cs : Option (List Condition)) (ps : Option (List Part)) → shape_of op ≡ shape
    → Holds Shaped c → Holds (Each Shaped) cs → Holds (Each PartShaped) ps → Holds Shaped (operation shape op v c cs ps)
unfolding operation
operation-shaped Operators.literal op v c cs ps s h g k = tt
operation-shaped Operators.many op v c cs ps s h g k =
    holds-map (Each Shaped) Shaped cs (λ (xs : List Condition). many 0 op (conditions_from xs)) g λ xs q. (s, from-shaped xs q)
operation-shaped Operators.negation op v c cs ps s h g k = holds-map Shaped Shaped c (negation 0) h λ x q. q
operation-shaped Operators.one op v c cs ps s h g k = (s, json-known v)
operation-shaped Operators.two op v c cs ps s h g k = two-in op v s
operation-shaped Operators.comparison op v c cs ps s h g k = comparison-in v
operation-shaped Operators.quantifier op v c cs ps s h g k =
    holds-bind (Each PartShaped) Shaped ps (quantifier_from op) k λ parts q. quantifier-from op parts s q

mutual
  unfolding condition_of operations children_of conditions_of parts_of quantifier_parts

  condition-shaped : (j : Json) → Holds Shaped (condition_of j)
  condition-shaped null = tt
  condition-shaped (truth b) = tt
  condition-shaped (number digits) = tt
  condition-shaped (string t) = tt
  condition-shaped (array vs) = tt
  condition-shaped (object ms) = holds-bind (Each Shaped) Shaped (operations ms) the_only (operations-shaped ms) only-shaped

  operations-shaped : (ms : Members) → Holds (Each Shaped) (operations ms)
  operations-shaped no_members = tt
  operations-shaped (member key v others) =
      holds-both Shaped (operation (shape_of (operator_of key)) (operator_of key) v (condition_of v) (children_of v) (parts_of v)) (operations others)
      (operation-shaped (shape_of (operator_of key)) (operator_of key) v (condition_of v) (children_of v) (parts_of v) refl (condition-shaped v) (children-shaped v) (parts-shaped v))
      (operations-shaped others)

  children-shaped : (j : Json) → Holds (Each Shaped) (children_of j)
  children-shaped null = tt
  children-shaped (truth b) = tt
  children-shaped (number digits) = tt
  children-shaped (string t) = tt
  children-shaped (array vs) = conditions-shaped vs
  children-shaped (object ms) = tt

  conditions-shaped : (vs : Elements) → Holds (Each Shaped) (conditions_of vs)
  conditions-shaped no_elements = tt
  conditions-shaped (element v others) = holds-both Shaped (condition_of v) (conditions_of others) (condition-shaped v) (conditions-shaped others)

  parts-shaped : (j : Json) → Holds (Each PartShaped) (parts_of j)
  parts-shaped null = tt
  parts-shaped (truth b) = tt
  parts-shaped (number digits) = tt
  parts-shaped (string t) = tt
  parts-shaped (array vs) = tt
  parts-shaped (object ms) = quantifier-parts ms

  quantifier-parts : (ms : Members) → Holds (Each PartShaped) (quantifier_parts ms)
  quantifier-parts no_members = tt
  quantifier-parts (member key v others) =
      holds-both PartShaped (quantifier_part (condition_of v) key v) (quantifier_parts others) (quantifier-part (condition_of v) key v (condition-shaped v)) (quantifier-parts others)

-- Rules

abbrev RulePartShaped : RulePart → Type 0
RulePartShaped (asserts c) = Shaped c
RulePartShaped (names t) = Unit {0}
RulePartShaped (says t) = Unit {0}

assert-shaped : (p : RulePart) → RulePartShaped p → Holds Shaped (as_assert p)
unfolding as_assert
assert-shaped (asserts c) h = h
assert-shaped (names t) h = tt
assert-shaped (says t) h = tt

rule-part : (key : Text) (v : Json) → Holds RulePartShaped (rule_part key v)
unfolding rule_part
rule-part key v =
    holds-one RulePartShaped (same_bytes key (ascii "name")) (same_bytes key (ascii "assert")) (same_bytes key (ascii "message"))
    (map names (optional_of v)) (map asserts (condition_of v)) (map says (optional_of v))
    (holds-map anything RulePartShaped (optional_of v) names (holds-any (optional_of v)) (λ t _. tt))
    (holds-map Shaped RulePartShaped (condition_of v) asserts (condition-shaped v) (λ c h. h))
    (holds-map anything RulePartShaped (optional_of v) says (holds-any (optional_of v)) (λ t _. tt))

rule-parts : (ms : Members) → Holds (Each RulePartShaped) (rule_parts ms)
unfolding rule_parts
rule-parts no_members = tt
rule-parts (member key v others) = holds-both RulePartShaped (rule_part key v) (rule_parts others) (rule-part key v) (rule-parts others)

rule-from : (parts : List RulePart) → Each RulePartShaped parts → Holds RuleShaped (rule_from parts)
unfolding rule_from
rule-from parts h =
    holds-map Shaped RuleShaped (first_of as_assert parts) (rule (first_of as_name parts) (first_of as_message parts))
    (holds-first RulePartShaped Shaped as_assert parts assert-shaped h) λ c q. q

rule-shaped : (j : Json) → Holds RuleShaped (rule_of j)
unfolding rule_of
rule-shaped null = tt
rule-shaped (truth b) = tt
rule-shaped (number digits) = tt
rule-shaped (string t) = tt
rule-shaped (array vs) = tt
rule-shaped (object ms) =
    holds-cond RuleShaped (none_twice (keys_of ms)) (bind (rule_parts ms) rule_from) none (holds-bind (Each RulePartShaped) RuleShaped (rule_parts ms) rule_from (rule-parts ms) rule-from) tt

fits-rule-shaped : (t : Rule) → RuleFits t → RuleShaped t
fits-rule-shaped (rule name message assert) h = fits-shaped assert h.3
fits-rule-shaped (template v) h = fits-known v h.fits

-- the rule that is read from the sheet of a JSON rule is that rule, with the numbers of its entries
pub decodes-bare : (j : Json) (r t : Rule) → rule_of j ≡ some r → decode_rule (write_rule r) ≡ some t → bare_rule r ≡ bare_rule t
decodes-bare j r t e d =
    let w = (rule-round-trip (write_rule r) t).0 d in
    rule-same r t (holds-is RuleShaped (rule_of j) r e (rule-shaped j)) (fits-rule-shaped t w.1.fits) w.0
