-- Reading in a shape is reading, and then the shape.
use Rattle.std.specs.Prelude.{ℕ, zero, suc, Bool, cond, ◌≡◌, eqb}
use Rattle.std.proofs.Math.Bool.{true, false}
use mathlib.Core.List.{List, [], ◌∷◌}
use Rattle.std.proofs.Math.Option.{Option, none, some, bind, map}
use Rattle.std.proofs.Math.Path.{refl, sym, ap}
use Rattle.std.proofs.Common.{◌∙◌, eqb-true}
use Rattle.text.specs.Utf8.{between}
use Rattle.text.specs.Decimal.{is_digit}
use Rattle.text.specs.Ascii.{ascii}
use Rattle.sheet.specs.Operators.{Shape, shape_of}
use Rattle.text.specs.ByteReaders.{byte}
use Rattle.sheet.specs.Operators as Operators
use Rattle.text.specs.Order.{same_bytes}
use Rattle.text.specs.Reader.{Reader, ◌>>=◌, ◌>>◌, and_then, pure, refuse, either, or_else}
use Rattle.text.specs.CaseLaws.{by-test}
use Rattle.json_text.specs.Json.{Text, Json, null, truth, number, string, array, object, Elements, no_elements, element, Members, no_members, member}
use Rattle.json_text.specs.Strings as Strings
use Rattle.json_text.specs.Grammar.{is_of_number, number_run, number_text, spelled, scalar, elements, members, container, value}
use Rattle.json_text.proofs.GrammarLaws.{bracket-value, no_number}
use Rattle.json_text.specs.Shaped.{shaped, all_of}
use Rattle.json_text.proofs.ShapedMembers.{all_members, elements_as, members_as, elements-as, members-as}
use Rattle.definition.specs.Tree.{Value, Condition, many, negation, one}
use Rattle.json_rule.specs.Shape.{value_of, operator_of, Part, over, body, bound_of, comparison_part, comparison_parts, comparison_from, comparison_in, quantifier_part, quantifier_parts, quantifier_from, listed, two_from, two_in, conditions_from, the_only, operation, operation_of, condition_of, operations, children_of, conditions_of, parts_of}
use Rattle.json_rule.specs.Streamed.{asked, literals, quantifier_member, flat, deep, streamed, operand}

module _ {A B : Type 0} where
  pub shaped-asked : (f : A → Option B) (o : Option (A × List ℕ)) → and_then o (asked f) ≡ shaped f o
  unfolding and_then shaped asked
  shaped-asked f none = refl
  shaped-asked f (some r) = refl

  pub shaped-same : (f g : A → Option B) → ((a : A) → f a ≡ g a) → (o : Option (A × List ℕ)) → shaped f o ≡ shaped g o
  unfolding shaped
  shaped-same f g e none = refl
  shaped-same f g e (some r) = rw (e r.0)

  pub shaped-never : (f : A → Option B) → ((a : A) → f a ≡ none) → (o : Option (A × List ℕ)) → shaped f o ≡ none
  unfolding shaped
  shaped-never f e none = refl
  shaped-never f e (some r) = rw (e r.0)

  shaped-pure : (h : A → B) (o : Option (A × List ℕ)) → and_then o (λ a. pure (h a)) ≡ shaped (λ a. some (h a)) o
  unfolding and_then shaped pure
  shaped-pure h none = refl
  shaped-pure h (some r) = refl

module _ {A B C : Type 0} where
  shaped-made : (h : A → B) (f : B → Option C) (o : Option (A × List ℕ)) → shaped f (and_then o (λ a. pure (h a))) ≡ shaped (λ a. f (h a)) o
  unfolding and_then shaped pure
  shaped-made h f none = refl
  shaped-made h f (some r) = refl

  pub shaped-then : (f : A → Option B) (h : B → C) (o : Option (A × List ℕ)) → and_then (shaped f o) (λ b. pure (h b)) ≡ shaped (λ a. map h (f a)) o
  unfolding and_then shaped pure
  shaped-then f h none = refl
  shaped-then f h (some r) = go (f r.0)
    where
      go : (x : Option B) → and_then (map (λ b. (b, r.1)) x) (λ b. pure (h b)) ≡ map (λ c. (c, r.1)) (map h x)
      go none = refl
      go (some b) = refl

  pub shaped-bind : (f : A → Option B) (h : B → Option C) (o : Option (A × List ℕ)) → and_then (shaped f o) (asked h) ≡ shaped (λ a. bind (f a) h) o
  unfolding and_then shaped asked bind
  shaped-bind f h none = refl
  shaped-bind f h (some r) = go (f r.0)
    where
      go : (x : Option B) → and_then (map (λ b. (b, r.1)) x) (λ b s. map (λ c. (c, s)) (h b)) ≡ map (λ c. (c, r.1)) (bind x h)
      go none = refl
      go (some b) = refl

or-none : {A : Type 0} (o : Option A) → or_else o none ≡ o
unfolding or_else
or-none none = refl
or-none (some r) = refl

abbrev opened : Bool → List ℕ → Option (Unit {0} × List ℕ)
opened x t = cond x (some (tt, t)) none

-- What a shape makes of values by their first byte

module _ {B : Type 0} (f : Json → Option B) where
  pub record OnScalars : Type 0 where
    pub on_null : f null ≡ none
    pub on-truth : (b : Bool) → f (truth b) ≡ none
    pub on-number : (t : Text) → f (number t) ≡ none
    pub on-string : (t : Text) → f (string t) ≡ none

  unread : {A : Type 0} (h : A → Json) → ((a : A) → f (h a) ≡ none) → (o : Option (A × List ℕ)) → shaped f (and_then o (λ a. pure (h a))) ≡ none
  unread h e o = shaped-made h f o ∙ shaped-never (λ a. f (h a)) e o

  scalar-never : OnScalars → (s : List ℕ) → shaped f (scalar s) ≡ none
  unfolding scalar shaped ◌>>=◌ ◌>>◌
  scalar-never k [] = refl
  scalar-never k (b ∷ s) = go (eqb b 0x22) (eqb b 0x6E) (eqb b 0x74) (eqb b 0x66)
    where
      go : (q n t g : Bool)
          → shaped f
          (cond q (and_then (Strings.string s) (λ x. pure (string x)))
          (cond n (and_then (spelled (ascii "ull") s) (λ u. pure null))
          (cond t (and_then (spelled (ascii "rue") s) (λ u. pure (truth true)))
          (cond g (and_then (spelled (ascii "alse") s) (λ u. pure (truth false))) (and_then (number_text (b ∷ s)) (λ x. pure (number x)))))))
          ≡ none
      go true n t g = unread string k.on-string (Strings.string s)
      go false true t g = unread (λ (u : Unit {0}). null) (λ u. k.on_null) (spelled (ascii "ull") s)
      go false false true g = unread (λ (u : Unit {0}). truth true) (λ u. k.on-truth true) (spelled (ascii "rue") s)
      go false false false true = unread (λ (u : Unit {0}). truth false) (λ u. k.on-truth false) (spelled (ascii "alse") s)
      go false false false false = unread number k.on-number (number_text (b ∷ s))

  or-never : (o q : Option (Json × List ℕ)) → shaped f q ≡ none → shaped f (or_else o q) ≡ shaped f o
  unfolding or_else shaped
  or-never none q e = e
  or-never (some r) q e = refl

  module _ (d : ℕ) where
    behind-array : (t : List ℕ) → shaped f (value (suc d) (0x5B ∷ t)) ≡ shaped (λ vs. f (array vs)) (elements (value d) t)
    unfolding is_of_number is_digit between container either byte ◌>>=◌ ◌>>◌ and_then
    behind-array t =
        ap (shaped f) (bracket-value d 0x5B t refl refl refl refl refl ∙ or-none (and_then (elements (value d) t) (λ vs. pure (array vs)))) ∙ shaped-made array f (elements (value d) t)

    behind-object : (t : List ℕ) → shaped f (value (suc d) (0x7B ∷ t)) ≡ shaped (λ ms. f (object ms)) (members (value d) t)
    unfolding is_of_number is_digit between container either or_else byte ◌>>=◌ ◌>>◌ and_then
    behind-object t = ap (shaped f) (bracket-value d 0x7B t refl refl refl refl refl) ∙ shaped-made object f (members (value d) t)

    held-never : ((vs : Elements) → f (array vs) ≡ none) → (b : ℕ) (t : List ℕ) → eqb b 0x7B ≡ false → shaped f (container (value d) (b ∷ t)) ≡ none
    unfolding container either or_else byte shaped ◌>>=◌ ◌>>◌ and_then
    held-never k b t e = rw e (go (eqb b 0x5B))
      where
        go : (x : Bool)
            → shaped f (or_else (and_then (opened x t) (λ u s. and_then (elements (value d) s) (λ vs. pure (array vs)))) none) ≡ none
        go true = ap (shaped f) (or-none (and_then (elements (value d) t) (λ vs. pure (array vs)))) ∙ unread array k (elements (value d) t)
        go false = refl

    braced-never : ((ms : Members) → f (object ms) ≡ none) → (b : ℕ) (t : List ℕ) → eqb b 0x5B ≡ false → shaped f (container (value d) (b ∷ t)) ≡ none
    unfolding container either or_else byte shaped ◌>>=◌ ◌>>◌ and_then
    braced-never k b t e = rw e (go (eqb b 0x7B))
      where
        go : (x : Bool) → shaped f (and_then (opened x t) (λ u s. and_then (members (value d) s) (λ ms. pure (object ms)))) ≡ none
        go true = unread object k (members (value d) t)
        go false = refl

    value-or : (s : List ℕ) → shaped f (container (value d) s) ≡ none → shaped f (value (suc d) s) ≡ shaped f (scalar s)
    unfolding value either
    value-or s e = or-never (scalar s) (container (value d) s) e

    container-end : shaped f (container (value d) []) ≡ none
    unfolding either or_else container byte shaped ◌>>=◌ ◌>>◌ and_then
    container-end = refl

    none-at-end : shaped f (value (suc d) []) ≡ none
    unfolding value scalar either or_else container byte shaped ◌>>=◌ ◌>>◌ and_then
    none-at-end = refl

    -- only arrays
    pub array-shaped : OnScalars → ((ms : Members) → f (object ms) ≡ none) → (s : List ℕ)
        → and_then (byte 0x5B s) (λ u t. shaped (λ vs. f (array vs)) (elements (value d) t)) ≡ shaped f (value (suc d) s)
    unfolding byte and_then
    array-shaped k o [] = sym none-at-end
    array-shaped k o (b ∷ t) =
        by-test (eqb b 0x5B)
        (λ e. rw e (sym (ap (λ (x : ℕ). shaped f (value (suc d) (x ∷ t))) (eqb-true b 0x5B e) ∙ behind-array t)))
        (λ e. rw e (sym (value-or (b ∷ t) (braced-never o b t e) ∙ scalar-never k (b ∷ t))))

    -- only objects
    pub object-shaped : OnScalars → ((vs : Elements) → f (array vs) ≡ none) → (s : List ℕ)
        → and_then (byte 0x7B s) (λ u t. shaped (λ ms. f (object ms)) (members (value d) t)) ≡ shaped f (value (suc d) s)
    unfolding byte and_then
    object-shaped k o [] = sym none-at-end
    object-shaped k o (b ∷ t) =
        by-test (eqb b 0x7B)
        (λ e. rw e (sym (ap (λ (x : ℕ). shaped f (value (suc d) (x ∷ t))) (eqb-true b 0x7B e) ∙ behind-object t)))
        (λ e. rw e (sym (value-or (b ∷ t) (held-never o b t e) ∙ scalar-never k (b ∷ t))))

-- The shapes of lists are those that are asked of each

conditions-all : (vs : Elements) → all_of condition_of vs ≡ conditions_of vs
unfolding all_of conditions_of
conditions-all no_elements = refl
conditions-all (element v others) = rw (conditions-all others)

operations-all : (ms : Members) → all_members (λ key v. operation_of (operator_of key) v) ms ≡ operations ms
unfolding all_members operations operation_of
operations-all no_members = refl
operations-all (member key v others) = rw (operations-all others)

comparison-all : (ms : Members) → all_members comparison_part ms ≡ comparison_parts ms
unfolding all_members comparison_parts
comparison-all no_members = refl
comparison-all (member key v others) = rw (comparison-all others)

quantifier-all : (ms : Members) → all_members (λ key v. quantifier_part (condition_of v) key v) ms ≡ quantifier_parts ms
unfolding all_members quantifier_parts
quantifier-all no_members = refl
quantifier-all (member key v others) = rw (quantifier-all others)

listed-all : (vs : Elements) → all_of (λ v. some (value_of v)) vs ≡ some (listed vs)
unfolding all_of listed bind
listed-all no_elements = refl
listed-all (element v others) = rw (listed-all others)

-- Operands

abbrev Reads : ℕ → Reader (List ℕ) Condition → Type 0
Reads d c = (s : List ℕ) → c s ≡ shaped condition_of (value d s)

abbrev made : Shape → ℕ → Json → Option Condition
made sh op v = operation sh op v (condition_of v) (children_of v) (parts_of v)

negation-law : (op d : ℕ) (c : Reader (List ℕ) Condition) → Reads d c → (s : List ℕ) → (c >>= λ x. pure (negation 0 x)) s ≡ shaped (made Operators.negation op) (value d s)
unfolding ◌>>=◌ operation
negation-law op d c h s = ap (λ (o : Option (Condition × List ℕ)). and_then o (λ x. pure (negation 0 x))) (h s) ∙ shaped-then condition_of (negation 0) (value d s)

one-law : (op d : ℕ) (s : List ℕ) → (value d >>= λ v. pure (one 0 op (value_of v))) s ≡ shaped (made Operators.one op) (value d s)
unfolding ◌>>=◌ operation
one-law op d s = shaped-pure (λ v. one 0 op (value_of v)) (value d s)

many-scalars : (op : ℕ) → OnScalars (made Operators.many op)
unfolding operation children_of
many-scalars op = record { on_null = refl; on-truth = λ b. refl; on-number = λ t. refl; on-string = λ t. refl }

two-scalars : (op : ℕ) → OnScalars (made Operators.two op)
unfolding operation two_in
two-scalars op = record { on_null = refl; on-truth = λ b. refl; on-number = λ t. refl; on-string = λ t. refl }

comparison-scalars : (op : ℕ) → OnScalars (made Operators.comparison op)
unfolding operation comparison_in
comparison-scalars op = record { on_null = refl; on-truth = λ b. refl; on-number = λ t. refl; on-string = λ t. refl }

quantifier-scalars : (op : ℕ) → OnScalars (made Operators.quantifier op)
unfolding operation parts_of bind
quantifier-scalars op = record { on_null = refl; on-truth = λ b. refl; on-number = λ t. refl; on-string = λ t. refl }

literal-law : (op : ℕ) (o : Option (Json × List ℕ)) → none ≡ shaped (made Operators.literal op) o
unfolding operation
literal-law op o = sym (shaped-never (made Operators.literal op) (λ a. refl) o)

-- where nothing may nest
flat-law : (sh : Shape) (op : ℕ) (c : Reader (List ℕ) Condition) → Reads zero c → (s : List ℕ) → flat sh op c s ≡ shaped (made sh op) (value zero s)
unfolding flat value refuse
flat-law Operators.literal op c h s = literal-law op (scalar s)
flat-law Operators.many op c h s = sym (scalar-never (made Operators.many op) (many-scalars op) s)
flat-law Operators.negation op c h s = negation-law op zero c h s
flat-law Operators.one op c h s = one-law op zero s
flat-law Operators.two op c h s = sym (scalar-never (made Operators.two op) (two-scalars op) s)
flat-law Operators.comparison op c h s = sym (scalar-never (made Operators.comparison op) (comparison-scalars op) s)
flat-law Operators.quantifier op c h s = sym (scalar-never (made Operators.quantifier op) (quantifier-scalars op) s)

pub then_same : {A B : Type 0} (o : Option (A × List ℕ)) (k l : A → Reader (List ℕ) B) → ((a : A) (s : List ℕ) → k a s ≡ l a s) → and_then o k ≡ and_then o l
unfolding and_then
then_same none k l e = refl
then_same (some r) k l e = e r.0 r.1

-- a member of a quantifier, read as its name asks
quantifier-member : (p : Reader (List ℕ) Json) (c : Reader (List ℕ) Condition) → ((s : List ℕ) → c s ≡ shaped condition_of (p s)) → (key : Text) (s : List ℕ)
    → quantifier_member p c key s ≡ shaped (λ v. quantifier_part (condition_of v) key v) (p s)
unfolding quantifier_member quantifier_part refuse ◌>>=◌
quantifier-member p c h key s = go (same_bytes key (ascii "in")) (same_bytes key (ascii "as")) (same_bytes key (ascii "that"))
  where
    go : (x y z : Bool)
        → cond {A = Reader (List ℕ) Part} x (λ t. and_then (p t) (λ v. pure (over (value_of v)))) (cond {A = Reader (List ℕ) Part} y (λ t. and_then (p t) (asked bound_of)) (cond {A = Reader (List ℕ) Part} z (λ t. and_then (c t) (λ b. pure (body b))) (λ t. none))) s
        ≡ shaped (λ v. cond x (some (over (value_of v))) (cond y (bound_of v) (cond z (map body (condition_of v)) none))) (p s)
    go true y z = shaped-pure (λ v. over (value_of v)) (p s)
    go false true z = shaped-asked bound_of (p s)
    go false false true = ap (λ (o : Option (Condition × List ℕ)). and_then o (λ b. pure (body b))) (h s) ∙ shaped-then condition_of body (p s)
    go false false false = sym (shaped-never (λ v. none) (λ v. refl) (p s))

-- where arrays and objects may hold what nests less by one
module _ (op d : ℕ) (inner : Reader (List ℕ) Condition) (h : Reads d inner) where
  many-law : (s : List ℕ) → (byte 0x5B >> (elements_as inner >>= λ cs. pure (many 0 op (conditions_from cs)))) s ≡ shaped (made Operators.many op) (value (suc d) s)
  unfolding ◌>>=◌ ◌>>◌ operation children_of
  many-law s =
      then_same (byte 0x5B s) _ _
      (λ u t.
      ap (λ (o : Option (List Condition × List ℕ)). and_then o (λ cs. pure (many 0 op (conditions_from cs)))) (elements-as condition_of inner (value d) h t)
      ∙ shaped-then (all_of condition_of) (λ cs. many 0 op (conditions_from cs)) (elements (value d) t)
      ∙ shaped-same (λ vs. map (λ (cs : List Condition). many 0 op (conditions_from cs)) (all_of condition_of vs)) (λ vs. made Operators.many op (array vs))
      (λ vs. ap (map (λ (cs : List Condition). many 0 op (conditions_from cs))) (conditions-all vs)) (elements (value d) t))
      ∙ array-shaped (made Operators.many op) d (many-scalars op) (λ ms. refl) s

  two-law : (s : List ℕ) → (byte 0x5B >> (elements_as (value d >>= λ v. pure (value_of v)) >>= asked (two_from op))) s ≡ shaped (made Operators.two op) (value (suc d) s)
  unfolding ◌>>=◌ ◌>>◌ operation two_in bind
  two-law s =
      then_same (byte 0x5B s) _ _
      (λ u t.
      ap (λ (o : Option (List Value × List ℕ)). and_then o (asked (two_from op)))
      (elements-as (λ v. some (value_of v)) (λ x. and_then (value d x) (λ v. pure (value_of v))) (value d) (λ x. shaped-pure value_of (value d x)) t)
      ∙ shaped-bind (all_of (λ v. some (value_of v))) (two_from op) (elements (value d) t)
      ∙ shaped-same (λ vs. bind (all_of (λ v. some (value_of v)) vs) (two_from op)) (λ vs. made Operators.two op (array vs))
      (λ vs. ap (λ (o : Option (List Value)). bind o (two_from op)) (listed-all vs)) (elements (value d) t))
      ∙ array-shaped (made Operators.two op) d (two-scalars op) (λ ms. refl) s

  comparison-law : (s : List ℕ)
      → (byte 0x7B >> (members_as (λ key. value d >>= asked (comparison_part key)) >>= asked comparison_from)) s ≡ shaped (made Operators.comparison op) (value (suc d) s)
  unfolding ◌>>=◌ ◌>>◌ operation comparison_in
  comparison-law s =
      then_same (byte 0x7B s) _ _
      (λ u t.
      ap (λ (o : Option (List Part × List ℕ)). and_then o (asked comparison_from))
      (members-as comparison_part (λ key x. and_then (value d x) (asked (comparison_part key))) (value d) (λ key x. shaped-asked (comparison_part key) (value d x)) t)
      ∙ shaped-bind (all_members comparison_part) comparison_from (members (value d) t)
      ∙ shaped-same (λ ms. bind (all_members comparison_part ms) comparison_from) (λ ms. made Operators.comparison op (object ms))
      (λ ms. ap (λ (o : Option (List Part)). bind o comparison_from) (comparison-all ms)) (members (value d) t))
      ∙ object-shaped (made Operators.comparison op) d (comparison-scalars op) (λ vs. refl) s

  quantifier-law : (s : List ℕ)
      → (byte 0x7B >> (members_as (quantifier_member (value d) inner) >>= asked (quantifier_from op))) s ≡ shaped (made Operators.quantifier op) (value (suc d) s)
  unfolding ◌>>=◌ ◌>>◌ operation parts_of bind
  quantifier-law s =
      then_same (byte 0x7B s) _ _
      (λ u t.
      ap (λ (o : Option (List Part × List ℕ)). and_then o (asked (quantifier_from op)))
      (members-as (λ key v. quantifier_part (condition_of v) key v) (quantifier_member (value d) inner) (value d) (λ key x. quantifier-member (value d) inner h key x) t)
      ∙ shaped-bind (all_members (λ key v. quantifier_part (condition_of v) key v)) (quantifier_from op) (members (value d) t)
      ∙ shaped-same (λ ms. bind (all_members (λ key v. quantifier_part (condition_of v) key v) ms) (quantifier_from op)) (λ ms. made Operators.quantifier op (object ms))
      (λ ms. ap (λ (o : Option (List Part)). bind o (quantifier_from op)) (quantifier-all ms)) (members (value d) t))
      ∙ object-shaped (made Operators.quantifier op) d (quantifier-scalars op) (λ vs. refl) s

  deep-law : (sh : Shape) (c : Reader (List ℕ) Condition) → Reads (suc d) c → (s : List ℕ) → deep sh op c d inner s ≡ shaped (made sh op) (value (suc d) s)
  unfolding deep refuse
  deep-law Operators.literal c k s = literal-law op (value (suc d) s)
  deep-law Operators.many c k s = many-law s
  deep-law Operators.negation c k s = negation-law op (suc d) c k s
  deep-law Operators.one c k s = one-law op (suc d) s
  deep-law Operators.two c k s = two-law s
  deep-law Operators.comparison c k s = comparison-law s
  deep-law Operators.quantifier c k s = quantifier-law s

-- Conditions

literals-law : (s : List ℕ) → literals s ≡ shaped condition_of (scalar s)
unfolding literals ◌>>=◌
literals-law s = shaped-asked condition_of (scalar s)

-- an object, of which every member is an operator with its operand
object-law : (d : ℕ) (q : ℕ → Reader (List ℕ) Condition) → ((op : ℕ) (s : List ℕ) → q op s ≡ shaped (operation_of op) (value d s)) → (t : List ℕ)
    → (members_as (λ key s. q (operator_of key) s) >>= asked the_only) t ≡ shaped (λ ms. condition_of (object ms)) (members (value d) t)
unfolding ◌>>=◌ condition_of
object-law d q h t =
    ap (λ (o : Option (List Condition × List ℕ)). and_then o (asked the_only))
    (members-as (λ key v. operation_of (operator_of key) v) (λ key s. q (operator_of key) s) (value d) (λ key s. h (operator_of key) s) t)
    ∙ shaped-bind (all_members (λ key v. operation_of (operator_of key) v)) the_only (members (value d) t)
    ∙ shaped-same (λ ms. bind (all_members (λ key v. operation_of (operator_of key) v) ms) the_only) (λ ms. bind (operations ms) the_only)
    (λ ms. ap (λ (o : Option (List Condition)). bind o the_only) (operations-all ms)) (members (value d) t)

brace-scalar : (t : List ℕ) → scalar (0x7B ∷ t) ≡ none
unfolding scalar number_text number_run is_of_number is_digit between ◌>>=◌ and_then
brace-scalar t = rw no_number

brace-literal : (b : ℕ) (t : List ℕ) → b ≡ 0x7B → literals (b ∷ t) ≡ none
unfolding shaped
brace-literal b t e = literals-law (b ∷ t) ∙ ap (λ (x : ℕ). shaped condition_of (scalar (x ∷ t))) e ∙ ap (shaped condition_of) (brace-scalar t)

module _ (d : ℕ) (q : ℕ → Reader (List ℕ) Condition) (h : (op : ℕ) (s : List ℕ) → q op s ≡ shaped (operation_of op) (value d s)) where
  condition-law : (s : List ℕ) → either literals (byte 0x7B >> (members_as (λ key s. q (operator_of key) s) >>= asked the_only)) s ≡ shaped condition_of (value (suc d) s)
  unfolding either or_else byte condition_of ◌>>=◌ ◌>>◌ and_then
  condition-law [] = or-none (literals []) ∙ literals-law [] ∙ sym (value-or condition_of d [] (container-end condition_of d))
  condition-law (b ∷ t) =
      by-test (eqb b 0x7B)
      (λ e.
      rw (brace-literal b t (eqb-true b 0x7B e), e)
      (object-law d q h t ∙ sym (ap (λ (x : ℕ). shaped condition_of (value (suc d) (x ∷ t))) (eqb-true b 0x7B e) ∙ behind-object condition_of d t)))
      (λ e. rw e (or-none (literals (b ∷ t)) ∙ literals-law (b ∷ t) ∙ sym (value-or condition_of d (b ∷ t) (held-never condition_of d (λ vs. refl) b t e))))

abbrev Law : ℕ → Type 0
Law d = ((s : List ℕ) → streamed d s ≡ shaped condition_of (value d s)) × ((op : ℕ) (s : List ℕ) → operand d (λ t. streamed d t) op s ≡ shaped (operation_of op) (value d s))

zero-streamed : (s : List ℕ) → streamed zero s ≡ shaped condition_of (value zero s)
unfolding streamed value
zero-streamed s = literals-law s

zero-operand : (op : ℕ) (s : List ℕ) → operand zero (λ t. streamed zero t) op s ≡ shaped (operation_of op) (value zero s)
unfolding operand operation_of
zero-operand op s = flat-law (shape_of op) op (λ t. streamed zero t) zero-streamed s

more-streamed : (d : ℕ) → Law d → (s : List ℕ) → streamed (suc d) s ≡ shaped condition_of (value (suc d) s)
unfolding streamed
more-streamed d l s = condition-law d (λ op. operand d (λ t. streamed d t) op) l.1 s

more-operand : (d : ℕ) → Law d → Reads (suc d) (λ s. streamed (suc d) s) → (op : ℕ) (s : List ℕ)
    → operand (suc d) (λ t. streamed (suc d) t) op s ≡ shaped (operation_of op) (value (suc d) s)
unfolding operand operation_of
more-operand d l h op s = deep-law op d (λ t. streamed d t) l.0 (shape_of op) (λ t. streamed (suc d) t) h s

laws : (d : ℕ) → Law d
laws zero = (zero-streamed, zero-operand)
laws (suc d) =
    let below = laws d in
    let here = more-streamed d below in
    (here, more-operand d below here)

-- a condition that is read in its shape is the JSON value that is read, in that shape
pub streamed-shaped : (d : ℕ) (s : List ℕ) → streamed d s ≡ shaped condition_of (value d s)
streamed-shaped d s = (laws d).0 s

pub operand-shaped : (d op : ℕ) (s : List ℕ) → operand d (λ t. streamed d t) op s ≡ shaped (operation_of op) (value d s)
operand-shaped d op s = (laws d).1 op s
